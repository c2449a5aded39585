use Rattle.wire.specs.Sequence.{guard}
use Rattle.wire.proofs.Reading.{for_end}
use Rattle.element.proofs.Reading.{keys}
use Rattle.element.proofs.operations.pairs_from.Goals as goal

pub returns-in_err-index : goal.returns-in_err-index
unfolding guard
returns-in_err-index c = search (keys, c.in_err-index.was) depth 10

pub returns-then-not-key_follows : goal.returns-then-not-key_follows
unfolding guard
returns-then-not-key_follows c = search (keys, c.in_ok-index.was) depth 10

pub loop-preserved : goal.loop-preserved
unfolding guard
loop-preserved c = search (keys, c.in_ok-index.was) depth 10

pub returns : goal.returns
unfolding guard
returns c = search for_end
