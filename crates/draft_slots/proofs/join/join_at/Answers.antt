-- `draft_slots::join::join_at` meets its contract. Assumes nothing.
use native.Mathlib.Omega.{arith}
use Rattle.draft_slots.proofs.Blocks.{blank-fits}
use Rattle.draft_slots.proofs.InPlace.{joined-short, joined-filled, joined-blank}
use Rattle.draft_slots.proofs.join.join_at.Goals as goal

pub overflow_add-at : goal.overflow_add-at
overflow_add-at c = omega (arith, blank-fits _ _ _ _ c.slot_of.ensures c.is_blank.ensures c.if-is_blank.true)

pub slice_bounds-copy_from_slice-end : goal.slice_bounds-copy_from_slice-end
slice_bounds-copy_from_slice-end c = search (blank-fits, c.if-is_blank.true)

pub returns-then-is_blank : goal.returns-then-is_blank
returns-then-is_blank c = search joined-blank

pub returns-else-other-eq-SIGNATURE_WIDTH : goal.returns-else-other-eq-SIGNATURE_WIDTH
returns-else-other-eq-SIGNATURE_WIDTH c = grind (arith, joined-short, joined-filled)
