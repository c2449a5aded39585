-- `plan::rows::import_due` meets its contract. Assumes nothing.
use Prim.Native.Nat.{◌≤◌}
use native.Mathlib.Omega.{arith}
use Rattle.plan.proofs.RowLaws.{row}
use Rattle.plan.proofs.rows.import_due.Goals as goal

pub returns-in_default : goal.returns-in_default
returns-in_default c = let h : 3 ≤ c.args.begun = omega arith in search row
