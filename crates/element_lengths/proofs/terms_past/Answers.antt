-- `element_lengths::terms_past` meets its contract. Assumes nothing.
use Rattle.std.proofs.Common.{rules}
use Rattle.wire.specs.Sequence.{and_then}
use Rattle.element_lengths.proofs.Passing.{passing, terms-answered}
use Rattle.element_lengths.proofs.terms_past.Goals as goal

pub returns-in_err-count : goal.returns-in_err-count
unfolding and_then
returns-in_err-count c = terms-answered _ _ (search rules) _ (search (passing, c.in_err-count.was) depth 8)

pub returns-in_err-payload : goal.returns-in_err-payload
unfolding and_then
returns-in_err-payload c = terms-answered _ _ (search rules) _ (search (passing, c.in_ok-count.was, c.in_err-payload.was) depth 8)

pub returns-in_err-next : goal.returns-in_err-next
unfolding and_then
returns-in_err-next c = terms-answered _ _ (search rules) _ (search (passing, c.in_ok-count.was, c.in_ok-payload.was, c.in_err-next.was) depth 8)

pub returns : goal.returns
unfolding and_then
returns c = terms-answered _ _ (search rules) _ (search (passing, c.in_ok-count.was, c.in_ok-payload.was, c.in_ok-next.was) depth 8)
