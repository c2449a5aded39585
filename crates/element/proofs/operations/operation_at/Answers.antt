-- `element::operations::operation_at` meets its contract. Assumes nothing.
use Rattle.element.proofs.Reading.{reading}
use Rattle.element.specs.Operations.{operation}
use Rattle.element.proofs.operations.operation_at.Goals as goal

pub returns-in_err-count_at : goal.returns-in_err-count_at
unfolding operation
returns-in_err-count_at c = search (reading, c.in_err-count_at.was) depth 12

pub returns-in_err-count : goal.returns-in_err-count
unfolding operation
returns-in_err-count c = search (reading, c.in_ok-count_at.was, c.in_err-count.was) depth 12

pub returns-in_err-after_pairs : goal.returns-in_err-after_pairs
unfolding operation
returns-in_err-after_pairs c = search (reading, c.in_ok-count_at.was, c.in_ok-count.was, c.in_err-after_pairs.was) depth 12

pub returns : goal.returns
unfolding operation
returns c = search (reading, c.in_ok-count_at.was, c.in_ok-count.was, c.in_ok-after_pairs.was) depth 12
