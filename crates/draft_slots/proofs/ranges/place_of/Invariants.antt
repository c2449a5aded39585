-- `draft_slots::ranges::place_of` meets its contract. The invariant: slot `index` of those that are left is slot `slot` of all. Assumes nothing.
use mathlib.Core.Path.{◌≡◌}
use Prim.Native.Nat.{◌-◌}
use Rattle.draft_slots.specs.code.Scan.{scan_from}
use Rattle.draft_slots.proofs.Scanning.{place_from}
use Rattle.draft_slots.proofs.ranges.place_of.Given as goal

abbrev pub invariant-loop : goal.invariant-loop
invariant-loop l = place_from (scan_from (l.credentials - l.counter) l.s l.credential_at) l.index ≡ place_from (scan_from l.credentials l.s l.at) l.slot
