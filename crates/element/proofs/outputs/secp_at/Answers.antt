-- `element::outputs::secp_at` meets its contract. Assumes nothing.
use Rattle.element.proofs.Reading.{reading, if-another}
use Rattle.element.specs.Outputs.{output}
use Rattle.element.proofs.outputs.secp_at.Goals as goal

pub returns-in_err-type_id : goal.returns-in_err-type_id
unfolding output
returns-in_err-type_id c = search (reading, c.in_err-type_id.was) depth 12

pub returns-in-6 : goal.returns-in-6
unfolding output
returns-in-6 c = search (reading, c.in_ok-type_id.was) depth 12

pub returns-in-7 : goal.returns-in-7
unfolding output
returns-in-7 c = search (reading, if-another, c.in_ok-type_id.was) depth 12

pub returns-in_default : goal.returns-in_default
unfolding output
returns-in_default c = search (reading, c.in_ok-type_id.was) depth 12
