-- `element_lengths::list_past` meets its contract. Assumes nothing.
use Rattle.wire.proofs.Reading.{value-small, product-fits}
use Rattle.element_lengths.specs.code.Lengths.{by_count}
use Rattle.element_lengths.proofs.Passing.{passing, list-answered}
use Rattle.element_lengths.proofs.list_past.Goals as goal

pub returns-in_err-count : goal.returns-in_err-count
unfolding by_count
returns-in_err-count c = list-answered _ _ _ _ (search (passing, c.in_err-count.was) depth 8)

pub overflow_mul-width : goal.overflow_mul-width
unfolding by_count
overflow_mul-width c = search (product-fits, value-small, c.in_ok-count.was)

pub returns-in_err-next : goal.returns-in_err-next
unfolding by_count
returns-in_err-next c = list-answered _ _ _ _ (search (passing, c.in_ok-count.was, c.in_err-next.was) depth 8)

pub returns : goal.returns
unfolding by_count
returns c = list-answered _ _ _ _ (search (passing, c.in_ok-count.was, c.in_ok-next.was) depth 8)
