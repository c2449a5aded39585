-- `checker::body::plan_at` meets its contract. The invariant: parsing what is left of the plan gives the answer of the whole. Assumes nothing.
use Prim.Native.Nat.{◌+◌, ◌-◌, ◌*◌, ◌≤◌}
use mathlib.Core.Path.{◌≡◌}
use Rattle.transaction.specs.Plan.{plan_of}
use Rattle.plan.specs.Due.{due}
use Rattle.plan.specs.code.Rows.{last_phase}
use Rattle.checker.specs.code.Segments.{plan_at}
use Rattle.checker.proofs.body.plan_at.Given as goal

abbrev pub invariant-loop-count : goal.invariant-loop-count
invariant-loop-count l = (l.wanted ≤ l.phase * 4294967296)
    × (plan_at l.most l.type_id l.start l.wanted (due l.phase (plan_of l.type_id)) l.s l.at
    ≡ plan_at l.most l.type_id l.start 0 (due 2 (plan_of l.type_id)) l.s l.start)

abbrev pub decreases-loop-count : goal.decreases-loop-count
decreases-loop-count l = last_phase + 1 - l.phase
