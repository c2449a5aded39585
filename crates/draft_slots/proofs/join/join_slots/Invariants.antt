-- `draft_slots::join::join_slots` meets its contract. The invariant: joining the slots that are left completes the joining of all. Assumes nothing.
use mathlib.Core.Path.{◌≡◌}
use Prim.Native.Nat.{◌-◌}
use Rattle.draft_slots.specs.code.Scan.{scan_from, join_all}
use Rattle.draft_slots.proofs.join.join_slots.Given as goal

abbrev pub invariant-loop : goal.invariant-loop
invariant-loop l = join_all (scan_from (l.credentials - l.counter) l.other l.credential_at) l.other l.draft
    ≡ join_all (scan_from l.credentials l.other l.at) l.other l.initial.draft
