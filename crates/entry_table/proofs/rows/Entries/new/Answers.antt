-- The iterator over the rows begins before all of them. Assumes nothing.
use Rattle.entry_table.proofs.Stepping.{beginning}
use Rattle.entry_table.proofs.rows.Entries.new.Goals as goal

pub returns : goal.returns
returns c = beginning _ c.first.ensures
