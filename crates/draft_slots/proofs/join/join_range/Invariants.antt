-- `draft_slots::join::join_range` meets its contract. The invariant: joining the slots that are left completes the joining of all. Assumes nothing.
use mathlib.Core.Path.{◌≡◌}
use Prim.Native.Nat.{◌+◌, ◌-◌, ◌*◌}
use Rattle.draft_slots.specs.code.Scan.{slot_range, join_all}
use Rattle.draft_slots.proofs.join.join_range.Given as goal

abbrev pub invariant-loop-i : goal.invariant-loop-i
invariant-loop-i l = join_all (slot_range (l.range.count - l.i) (l.range.first + 65 * l.i)) l.other l.draft
    ≡ join_all (slot_range l.range.count l.range.first) l.other l.initial.draft
