-- `plan::rows::due_at` meets its contract. Assumes nothing.
use native.Mathlib.Omega.{arith}
use Rattle.plan.proofs.RowLaws.{in-own}
use Rattle.plan.proofs.rows.due_at.Goals as goal

pub returns-in_default : goal.returns-in_default
returns-in_default c = in-own c.own_due.result c.args.type_id c.args.phase (omega arith) c.own_due.ensures
