-- `element::operations::action_at` meets its contract. Assumes nothing.
use Rattle.element.proofs.Reading.{acting}
use Rattle.element.specs.Operations.{action}
use Rattle.element.proofs.operations.action_at.Goals as goal

pub returns-in_err-type_id : goal.returns-in_err-type_id
unfolding action
returns-in_err-type_id c = search (acting, c.in_err-type_id.was) depth 12

pub returns-then-type_id-ne-TRANSFER_OPERATION : goal.returns-then-type_id-ne-TRANSFER_OPERATION
unfolding action
returns-then-type_id-ne-TRANSFER_OPERATION c = search (acting, c.in_ok-type_id.was) depth 12

pub returns-in_err-after_terms : goal.returns-in_err-after_terms
unfolding action
returns-in_err-after_terms c = search (acting, c.in_ok-type_id.was, c.in_err-after_terms.was, c.else-type_id-ne-MINT_OPERATION.either) depth 12

pub returns : goal.returns
unfolding action
returns c = search (acting, c.in_ok-type_id.was, c.in_ok-after_terms.was, c.else-type_id-ne-MINT_OPERATION.either) depth 12
