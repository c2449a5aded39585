-- `draft_slot_table::put_range` meets its contract. The invariant: writing the rows that are left completes the writing of all. Assumes nothing.
use Prim.Native.Nat.{◌+◌, ◌-◌, ◌*◌}
use mathlib.Core.Path.{◌≡◌}
use Rattle.draft_slot_table.specs.Slots.{rows}
use Rattle.draft_slot_table.specs.code.Scan.{slots_in, put}
use Rattle.draft_slot_table.proofs.put_range.Given as goal

abbrev pub invariant-loop-i : goal.invariant-loop-i
invariant-loop-i l = put l.table (l.rows_at + 3 * l.i) (rows l.s (slots_in l.credential (l.range.count - l.i) (l.range.first + 65 * l.i)))
    ≡ put l.initial.table l.rows_at (rows l.s (slots_in l.credential l.range.count l.range.first))
