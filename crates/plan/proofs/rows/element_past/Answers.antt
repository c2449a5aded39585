-- `plan::rows::element_past` meets its contract. Assumes nothing.
use Rattle.plan.proofs.Passing.{element-passing}
use Rattle.plan.proofs.rows.element_past.Goals as goal

pub returns-in-Output : goal.returns-in-Output
returns-in-Output c = search element-passing depth 12

pub returns-in-Input : goal.returns-in-Input
returns-in-Input c = search element-passing depth 12

pub returns-in-State : goal.returns-in-State
returns-in-State c = search element-passing depth 12

pub returns-in-Operation : goal.returns-in-Operation
returns-in-Operation c = search element-passing depth 12
