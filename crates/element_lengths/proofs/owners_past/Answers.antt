-- `element_lengths::owners_past` meets its contract. Assumes nothing.
use Rattle.std.proofs.Common.{rules}
use Rattle.wire.specs.Sequence.{and_then}
use Rattle.element_lengths.proofs.Passing.{passing, owners-passed}
use Rattle.element_lengths.proofs.owners_past.Goals as goal

pub returns-in_err-addresses : goal.returns-in_err-addresses
unfolding and_then
returns-in_err-addresses c = owners-passed _ _ (search rules) _ (search (passing, c.in_err-addresses.was) depth 8)

pub returns-in_err-next : goal.returns-in_err-next
unfolding and_then
returns-in_err-next c = owners-passed _ _ (search rules) _ (search (passing, c.in_ok-addresses.was, c.in_err-next.was) depth 8)

pub returns : goal.returns
unfolding and_then
returns c = owners-passed _ _ (search rules) _ (search (passing, c.in_ok-addresses.was, c.in_ok-next.was) depth 8)
