-- `draft_slot_table::count` meets its contract. The invariant: the slots counted so far and those that are left are all slots. Assumes nothing.
use Prim.Native.Nat.{◌+◌, ◌-◌, ◌≤◌}
use mathlib.Core.Path.{◌≡◌}
use lib.ListN.{length}
use Rattle.draft_slot_table.specs.code.Scan.{scan_from}
use Rattle.draft_slot_table.proofs.count.Given as goal

abbrev pub invariant-loop : goal.invariant-loop
invariant-loop l = (l.slots + length (scan_from 0 (l.credentials - l.counter) l.s l.credential_at) ≡ length (scan_from 0 l.credentials l.s l.at))
    × (l.slots ≤ l.credential_at)
