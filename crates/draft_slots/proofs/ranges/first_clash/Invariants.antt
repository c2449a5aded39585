-- `draft_slots::ranges::first_clash` meets its contract. The invariant: the first clash among the slots left is the first of all. Assumes nothing.
use mathlib.Core.Path.{◌≡◌}
use Prim.Native.Nat.{◌-◌, ◌≤◌}
use Rattle.draft_slots.specs.Joining.{first_clash}
use Rattle.draft_slots.specs.code.Scan.{scan_from}
use Rattle.draft_slots.proofs.ranges.first_clash.Given as goal

abbrev pub invariant-loop : goal.invariant-loop
invariant-loop l = (first_clash l.slots_before (scan_from (l.credentials - l.counter) l.first l.credential_at) l.first l.second
    ≡ first_clash 0 (scan_from l.credentials l.first l.at) l.first l.second)
    × (l.slots_before ≤ l.credential_at)
