-- `draft_slots::compare::same_block` meets its contract. The invariant: the result so far and that of the bytes left give the whole. Assumes nothing.
use mathlib.Core.Path.{◌≡◌}
use mathlib.Core.Bool.{◌&&◌}
use Rattle.draft_slots.specs.Joining.{same}
use Rattle.draft_slots.proofs.Blocks.{same_from}
use Rattle.draft_slots.proofs.compare.same_block.Given as goal

abbrev pub invariant-loop-i : goal.invariant-loop-i
invariant-loop-i l = (l.all && same_from l.a l.b l.i) ≡ same l.a l.b
