-- `entry_table::rows::put_row` meets its contract. Assumes nothing.
use Rattle.entry_table.proofs.Looping.{row-put}
use Rattle.entry_table.proofs.rows.put_row.Goals as goal

pub returns : goal.returns
returns c = row-put c.args.i c.args.row _ _ _ c.saturating_sub.ensures c.copy_from_slice.ensures.after
