-- `element::outputs::transferable_at` meets its contract. Assumes nothing.
use Rattle.element.proofs.Reading.{reading}
use Rattle.element.specs.Outputs.{transferable_output}
use Rattle.element.proofs.outputs.transferable_at.Goals as goal

pub returns-in_err-type_at : goal.returns-in_err-type_at
unfolding transferable_output
returns-in_err-type_at c = search (reading, c.in_err-type_at.was) depth 12

pub returns-in_err-type_id : goal.returns-in_err-type_id
unfolding transferable_output
returns-in_err-type_id c = search (reading, c.in_ok-type_at.was, c.in_err-type_id.was) depth 12

pub returns-then-type_id-ne-SECP_TRANSFER : goal.returns-then-type_id-ne-SECP_TRANSFER
unfolding transferable_output
returns-then-type_id-ne-SECP_TRANSFER c = search (reading, c.in_ok-type_at.was, c.in_ok-type_id.was) depth 12

pub returns : goal.returns
unfolding transferable_output
returns c = search (reading, c.in_ok-type_at.was, c.in_ok-type_id.was) depth 12
