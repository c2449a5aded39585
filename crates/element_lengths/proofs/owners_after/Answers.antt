-- `element_lengths::owners_after` meets its contract. Assumes nothing.
use Rattle.wire.specs.Sequence.{and_then}
use Rattle.element_lengths.proofs.Passing.{passing, after-passed}
use Rattle.element_lengths.proofs.owners_after.Goals as goal

pub returns-in_err-next : goal.returns-in_err-next
unfolding and_then
returns-in_err-next c = after-passed _ _ _ _ (search (passing, c.in_err-next.was) depth 8)

pub returns : goal.returns
unfolding and_then
returns c = after-passed _ _ _ _ (search (passing, c.in_ok-next.was) depth 8)
