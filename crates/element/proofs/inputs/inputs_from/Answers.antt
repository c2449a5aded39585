use Rattle.wire.specs.Sequence.{guard}
use Rattle.wire.proofs.Trying.{passed-on}
use Rattle.wire.proofs.Reading.{for_on, for_end}
use Rattle.element.specs.Inputs.{input_after}
use Rattle.element.proofs.Reading.{keys, on-key, key_read, if-key-follows, inputs_are, on-spend, on-spend-refused}
use Rattle.element.proofs.inputs.inputs_from.Goals as goal

pub loop-init : goal.loop-init
unfolding guard input_after
loop-init c = (tt, inputs_are _ c.type_inv.s _ _)

pub returns-in_err-index : goal.returns-in_err-index
unfolding guard input_after
returns-in_err-index c = search (keys, c.in_err-index.was) depth 10

pub returns-then-not-key_follows : goal.returns-then-not-key_follows
unfolding guard input_after
returns-then-not-key_follows c = search (keys, c.in_ok-index.was) depth 10

pub returns-in_err-at : goal.returns-in_err-at
unfolding guard input_after
returns-in_err-at c = search (for_on, on-key, key_read, if-key-follows, on-spend-refused, passed-on, c.in_ok-index.was, c.in_err-at.was) depth 10 fits 6000

pub loop-preserved : goal.loop-preserved
unfolding guard input_after
loop-preserved c = search (keys, on-spend, c.in_ok-index.was, c.in_ok-at.was) depth 10

pub returns : goal.returns
unfolding guard input_after
returns c = search for_end
