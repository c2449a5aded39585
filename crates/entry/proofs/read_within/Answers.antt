-- `entry::read_within` meets its contract. Assumes nothing.
use Rattle.entry.proofs.Entering.{entering}
use Rattle.entry.proofs.read_within.Goals as goal

pub returns-in_err-row : goal.returns-in_err-row
returns-in_err-row c = search (entering, c.in_ok-layout.was, c.in_err-row.was) depth 12

pub returns : goal.returns
returns c = search (entering, c.in_ok-layout.was, c.in_ok-row.was) depth 12
