-- `draft_slot_table::filled_at` meets its contract. Assumes nothing.
use Rattle.draft_slot_table.proofs.Rows.{filling}
use Rattle.draft_slot_table.proofs.filled_at.Goals as goal

pub returns : goal.returns
returns c = search filling
