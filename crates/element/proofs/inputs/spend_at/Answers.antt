-- `element::inputs::spend_at` meets its contract. Assumes nothing.
use Rattle.element.proofs.Reading.{reading}
use Rattle.element.specs.Inputs.{spend}
use Rattle.element.proofs.inputs.spend_at.Goals as goal

pub returns-in_err-type_at : goal.returns-in_err-type_at
unfolding spend
returns-in_err-type_at c = search (reading, c.in_err-type_at.was) depth 12

pub returns-in_err-type_id : goal.returns-in_err-type_id
unfolding spend
returns-in_err-type_id c = search (reading, c.in_ok-type_at.was, c.in_err-type_id.was) depth 12

pub returns-then-type_id-ne-SECP_INPUT : goal.returns-then-type_id-ne-SECP_INPUT
unfolding spend
returns-then-type_id-ne-SECP_INPUT c = search (reading, c.in_ok-type_at.was, c.in_ok-type_id.was) depth 12

pub returns-in_err-count_at : goal.returns-in_err-count_at
unfolding spend
returns-in_err-count_at c = search (reading, c.in_ok-type_at.was, c.in_ok-type_id.was, c.in_err-count_at.was) depth 12

pub returns-in_err-count : goal.returns-in_err-count
unfolding spend
returns-in_err-count c = search (reading, c.in_ok-type_at.was, c.in_ok-type_id.was, c.in_ok-count_at.was, c.in_err-count.was) depth 12 fits 6000

pub returns : goal.returns
unfolding spend
returns c = search (reading, c.in_ok-type_at.was, c.in_ok-type_id.was, c.in_ok-count_at.was, c.in_ok-count.was) depth 12
