-- `entry_table::rows::check_table_within` meets its contract. Assumes nothing.
use Rattle.entry_table.proofs.Tabling.{on-too-many, rows_fit, on-rows}
use Rattle.entry_table.proofs.rows.check_table_within.Goals as goal

pub returns-in_err-rows : goal.returns-in_err-rows
returns-in_err-rows c = search (on-too-many, c.in_ok-layout.was, c.in_err-rows.was) depth 12

pub put_rows-requires : goal.put_rows-requires
put_rows-requires c = search (rows_fit, c.in_ok-layout.was, c.in_ok-rows.was) depth 12

pub returns : goal.returns
returns c = search (on-rows, c.in_ok-layout.was, c.in_ok-rows.was) depth 12
