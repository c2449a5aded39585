-- `element::operations::state_outputs_at` meets its contract. Assumes nothing.
use Rattle.wire.proofs.Trying.{passed-on}
use Rattle.wire.proofs.Reading.{on_value, on-integer-refused}
use Rattle.element.specs.Operations.{state_outputs}
use Rattle.element.proofs.operations.state_outputs_at.Goals as goal

pub returns-in_err-count : goal.returns-in_err-count
unfolding state_outputs
returns-in_err-count c = search (on-integer-refused, passed-on, c.in_err-count.was) depth 8

pub returns : goal.returns
unfolding state_outputs
returns c = search (on_value, c.in_ok-count.was) depth 8
