-- `draft_slots::compare::clash` meets its contract. Assumes nothing.
use native.Mathlib.Omega.{arith}
use Rattle.std.proofs.lemmas.Grind.{common_steps}
use Rattle.draft_slots.specs.Joining.{clashes}
use Rattle.draft_slots.proofs.compare.clash.Goals as goal

pub returns-then-not-is_blank-2 : goal.returns-then-not-is_blank-2
unfolding clashes
returns-then-not-is_blank-2 c = grind (arith, common_steps)

pub returns-else-not-is_blank-2 : goal.returns-else-not-is_blank-2
unfolding clashes
returns-else-not-is_blank-2 c = grind (arith, common_steps)
