-- `plan::rows::field_past` meets its contract. Assumes nothing.
use Rattle.plan.proofs.Passing.{field-passing}
use Rattle.plan.proofs.rows.field_past.Goals as goal

pub returns-in-Memo : goal.returns-in-Memo
returns-in-Memo c = search field-passing depth 12

pub returns-in-Name : goal.returns-in-Name
returns-in-Name c = search field-passing depth 12

pub returns-in-Denomination : goal.returns-in-Denomination
returns-in-Denomination c = search field-passing depth 12

pub returns-in-Chain : goal.returns-in-Chain
returns-in-Chain c = search field-passing depth 12
