-- `draft_slots::ranges::clash_in` meets its contract. The invariant: the first clash among the slots left is the first of all. Assumes nothing.
use mathlib.Core.Path.{◌≡◌}
use Prim.Native.Nat.{◌+◌, ◌-◌, ◌*◌}
use Rattle.draft_slots.specs.Joining.{first_clash}
use Rattle.draft_slots.specs.code.Scan.{slot_range}
use Rattle.draft_slots.proofs.ranges.clash_in.Given as goal

abbrev pub invariant-loop-i : goal.invariant-loop-i
invariant-loop-i l = first_clash (l.slots_before + l.i) (slot_range (l.range.count - l.i) (l.range.first + 65 * l.i)) l.first l.second
    ≡ first_clash l.slots_before (slot_range l.range.count l.range.first) l.first l.second
