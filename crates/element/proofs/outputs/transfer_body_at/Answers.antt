-- `element::outputs::transfer_body_at` meets its contract. Assumes nothing.
use Rattle.element.proofs.Reading.{reading}
use Rattle.element.specs.Outputs.{transfer_body}
use Rattle.element.proofs.outputs.transfer_body_at.Goals as goal

pub returns-in_err-after_amount : goal.returns-in_err-after_amount
unfolding transfer_body
returns-in_err-after_amount c = search (reading, c.in_err-after_amount.was) depth 12

pub returns : goal.returns
unfolding transfer_body
returns c = search (reading, c.in_ok-after_amount.was) depth 12
