-- `element_lengths::operation_past` meets its contract. Assumes nothing.
use Rattle.std.proofs.Common.{rules}
use Rattle.wire.specs.Sequence.{and_then}
use Rattle.element_lengths.proofs.Passing.{passing, operation-answered}
use Rattle.element_lengths.proofs.operation_past.Goals as goal

pub returns-in_err-pairs : goal.returns-in_err-pairs
unfolding and_then
returns-in_err-pairs c = operation-answered _ _ (search rules) _ (search (passing, c.in_err-pairs.was) depth 8)

pub returns-in_err-action : goal.returns-in_err-action
unfolding and_then
returns-in_err-action c = operation-answered _ _ (search rules) _ (search (passing, c.in_ok-pairs.was, c.in_err-action.was) depth 8)

pub returns : goal.returns
unfolding and_then
returns c = operation-answered _ _ (search rules) _ (search (passing, c.in_ok-pairs.was, c.in_ok-action.was) depth 8)
