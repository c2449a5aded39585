-- `plan::rows::field_end` meets its contract. Assumes nothing.
use Rattle.plan.proofs.RowLaws.{by_field}
use Rattle.plan.proofs.rows.field_end.Goals as goal

pub returns-in-Memo : goal.returns-in-Memo
returns-in-Memo c = search by_field

pub returns-in-Name : goal.returns-in-Name
returns-in-Name c = search by_field

pub returns-in-Symbol : goal.returns-in-Symbol
returns-in-Symbol c = search by_field

pub returns-in-Denomination : goal.returns-in-Denomination
returns-in-Denomination c = search by_field

pub returns-in-Chain : goal.returns-in-Chain
returns-in-Chain c = search by_field
