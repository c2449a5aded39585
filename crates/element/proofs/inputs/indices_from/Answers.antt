use Rattle.wire.specs.Sequence.{guard}
use Rattle.wire.proofs.Reading.{turn, for_end, value-small}
use Rattle.element.proofs.Reading.{if-integer-follows, if-integer-not}
use Rattle.element.proofs.inputs.indices_from.Goals as goal

pub returns-in_err-index : goal.returns-in_err-index
unfolding guard
returns-in_err-index c = search (turn, c.in_err-index.was) depth 10

pub returns-then-not-integer_follows : goal.returns-then-not-integer_follows
unfolding guard
returns-then-not-integer_follows c = search (turn, value-small, if-integer-not, c.in_ok-index.was) depth 10

pub loop-preserved : goal.loop-preserved
unfolding guard
loop-preserved c = search (turn, value-small, if-integer-follows, c.in_ok-index.was) depth 10

pub returns : goal.returns
unfolding guard
returns c = search for_end
