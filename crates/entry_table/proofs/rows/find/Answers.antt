-- `entry_table::rows::find` meets its contract. Assumes nothing.
use native.Mathlib.Omega.{arith}
use Rattle.entry_table.proofs.Looping.{find-nth}
use Rattle.entry_table.proofs.rows.find.Goals as goal

pub returns : goal.returns
returns c = find-nth _ _ _ c.new.ensures _ _ _ _ c.nth.ensures.ran (omega arith)
