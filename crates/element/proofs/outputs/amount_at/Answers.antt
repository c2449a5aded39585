-- `element::outputs::amount_at` meets its contract. Assumes nothing.
use Rattle.element.proofs.Reading.{reading}
use Rattle.element.specs.Outputs.{amount}
use Rattle.element.proofs.outputs.amount_at.Goals as goal

pub returns-in_err-amount : goal.returns-in_err-amount
unfolding amount
returns-in_err-amount c = search (reading, c.in_err-amount.was) depth 12

pub returns-then-amount-eq0 : goal.returns-then-amount-eq0
unfolding amount
returns-then-amount-eq0 c = search (reading, c.in_ok-amount.was) depth 12

pub returns : goal.returns
unfolding amount
returns c = search (reading, c.in_ok-amount.was) depth 12
