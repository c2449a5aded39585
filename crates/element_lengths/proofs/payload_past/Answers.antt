-- `element_lengths::payload_past` meets its contract. Assumes nothing.
use Rattle.wire.specs.Sequence.{and_then}
use Rattle.element_lengths.proofs.Passing.{passing, payload-passed}
use Rattle.element_lengths.proofs.payload_past.Goals as goal

pub returns-in_err-payload : goal.returns-in_err-payload
unfolding and_then
returns-in_err-payload c = payload-passed _ _ _ (search (passing, c.in_err-payload.was) depth 8)

pub returns-in_err-next : goal.returns-in_err-next
unfolding and_then
returns-in_err-next c = payload-passed _ _ _ (search (passing, c.in_ok-payload.was, c.in_err-next.was) depth 8)

pub returns : goal.returns
unfolding and_then
returns c = payload-passed _ _ _ (search (passing, c.in_ok-payload.was, c.in_ok-next.was) depth 8)
