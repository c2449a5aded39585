-- `draft_slot_table::put_row` meets its contract. Assumes nothing.
use native.Mathlib.Omega.{arith}
use lib.ListN.{length-set}
use Rattle.draft_slot_table.proofs.Scanning.{row-stored}
use Rattle.draft_slot_table.proofs.put_row.Goals as goal

pub bounds-table-row_at-2 : goal.bounds-table-row_at-2
bounds-table-row_at-2 c = simp length-set (omega arith)

pub bounds-table-row_at-3 : goal.bounds-table-row_at-3
bounds-table-row_at-3 c = simp length-set (omega arith)

pub returns : goal.returns
returns c = row-stored _ _ _ _ _ _ c.filled_at.ensures
