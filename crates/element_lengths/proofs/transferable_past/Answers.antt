-- `element_lengths::transferable_past` meets its contract. Assumes nothing.
use Rattle.std.proofs.Common.{rules}
use Rattle.wire.specs.Sequence.{and_then}
use Rattle.element_lengths.proofs.Passing.{passing, transferable-passed}
use Rattle.element_lengths.proofs.transferable_past.Goals as goal

pub returns-in_err-next : goal.returns-in_err-next
unfolding and_then
returns-in_err-next c = transferable-passed _ _ (search rules) _ (search (passing, c.in_err-next.was) depth 8)

pub returns : goal.returns
unfolding and_then
returns c = transferable-passed _ _ (search rules) _ (search (passing, c.in_ok-next.was) depth 8)
