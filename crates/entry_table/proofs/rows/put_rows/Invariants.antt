-- `entry_table::rows::put_rows` meets its contract. The invariant: the rows so far are stored. Assumes nothing.
use Rattle.std.proofs.Common.{◌≡◌, length, fold}
use Rattle.std.specs.Iterator.Adapters.{zip_first}
use Rattle.entry_table.proofs.Looping.{store}
use Rattle.entry_table.proofs.rows.put_rows.Given as goal

abbrev pub invariant-loop-i : goal.invariant-loop-i
invariant-loop-i l = record {
  last : (zip_first l.i-iterator).end ≡ l.count;
  long : length l.table ≡ length l.initial.table;
  stored : l.table ≡ fold store l.initial.table l.yielded;
}
