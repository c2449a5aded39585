-- `draft_slot_table::put_slots` meets its contract. The invariant: writing the rows that are left completes the writing of all. Assumes nothing.
use Prim.Native.Nat.{◌+◌, ◌-◌, ◌*◌, ◌≤◌}
use mathlib.Core.Path.{◌≡◌}
use lib.ListN.{length}
use Rattle.draft_slot_table.specs.Slots.{rows}
use Rattle.draft_slot_table.specs.code.Scan.{scan_from, put}
use Rattle.draft_slot_table.proofs.put_slots.Given as goal

abbrev pub invariant-loop-credential : goal.invariant-loop-credential
invariant-loop-credential l = (put l.table l.rows_at (rows l.s (scan_from l.credential (l.credentials - l.credential) l.s l.credential_at))
    ≡ put l.initial.table 0 (rows l.s (scan_from 0 l.credentials l.s l.at)))
    × (l.rows_at + 3 * length (scan_from l.credential (l.credentials - l.credential) l.s l.credential_at) ≤ length l.table)
    × (l.credential ≤ l.credential_at)
