-- `element_lengths::input_past` meets its contract. Assumes nothing.
use Rattle.std.proofs.Common.{rules}
use Rattle.wire.specs.Sequence.{and_then}
use Rattle.wire.proofs.Reading.{value-small}
use Rattle.element_lengths.proofs.Passing.{passing, input-answered, front_fits, indices-fit}
use Rattle.element_lengths.proofs.input_past.Goals as goal

pub returns-in_err-first : goal.returns-in_err-first
unfolding and_then
returns-in_err-first c = input-answered _ _ (search rules) _ (search (passing, c.in_err-first.was) depth 8)

pub overflow_add-count_at : goal.overflow_add-count_at
unfolding and_then
overflow_add-count_at c = search (front_fits, c.in_ok-first.was)

pub returns-in_err-count : goal.returns-in_err-count
unfolding and_then
returns-in_err-count c = input-answered _ _ (search rules) _ (search (passing, c.in_ok-first.was, c.in_err-count.was) depth 8)

pub overflow_mul-count : goal.overflow_mul-count
unfolding and_then
overflow_mul-count c = search (indices-fit, value-small, c.in_ok-count.was)

pub returns-in_err-next : goal.returns-in_err-next
unfolding and_then
returns-in_err-next c = input-answered _ _ (search rules) _ (search (passing, c.in_ok-first.was, c.in_ok-count.was, c.in_err-next.was) depth 8)

pub returns : goal.returns
unfolding and_then
returns c = input-answered _ _ (search rules) _ (search (passing, c.in_ok-first.was, c.in_ok-count.was, c.in_ok-next.was) depth 8)
