-- `element::operations::recipients_at` meets its contract. Assumes nothing.
use Rattle.wire.specs.Series.{count_prefixed}
use Rattle.element.proofs.Reading.{reading, if-mint, if-transfer}
use Rattle.element.proofs.operations.recipients_at.Goals as goal

pub returns-in_err-count : goal.returns-in_err-count
unfolding count_prefixed
returns-in_err-count c = search (reading, if-mint, if-transfer, c.in_err-count.was) depth 12

pub returns-in_ok-count : goal.returns-in_ok-count
unfolding count_prefixed
returns-in_ok-count c = search (reading, if-mint, if-transfer, c.in_ok-count.was) depth 12

pub returns-else-type_id-eq-MINT_OPERATION : goal.returns-else-type_id-eq-MINT_OPERATION
unfolding count_prefixed
returns-else-type_id-eq-MINT_OPERATION c = search (reading, if-mint, if-transfer) depth 12
