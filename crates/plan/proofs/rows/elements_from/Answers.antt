-- `plan::rows::elements_from` meets its contract. Assumes nothing.
use Rattle.plan.proofs.RowLaws.{by-list}
use Rattle.plan.proofs.rows.elements_from.Goals as goal

pub returns-in-Operation : goal.returns-in-Operation
returns-in-Operation c = search by-list
