-- `element_lengths::action_past` meets its contract. Assumes nothing.
use Rattle.std.proofs.Common.{rules}
use Rattle.wire.specs.Sequence.{and_then}
use Rattle.element_lengths.proofs.Passing.{passing, action-answered}
use Rattle.element_lengths.proofs.action_past.Goals as goal

pub returns-in_err-type_id : goal.returns-in_err-type_id
unfolding and_then
returns-in_err-type_id c = action-answered _ _ (search rules) _ (search (passing, c.in_err-type_id.was) depth 8)

pub returns-in_err-asked : goal.returns-in_err-asked
unfolding and_then
returns-in_err-asked c = action-answered _ _ (search rules) _ (search (passing, c.in_ok-type_id.was, c.in_err-asked.was) depth 8)

pub returns-in_err-next : goal.returns-in_err-next
unfolding and_then
returns-in_err-next c = action-answered _ _ (search rules) _ (search (passing, c.in_ok-type_id.was, c.in_ok-asked.was, c.in_err-next.was) depth 8)

pub returns : goal.returns
unfolding and_then
returns c = action-answered _ _ (search rules) _ (search (passing, c.in_ok-type_id.was, c.in_ok-asked.was, c.in_ok-next.was) depth 8)
