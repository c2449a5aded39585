-- `draft_slots::ranges::range_at` meets its contract. Assumes nothing.
use Rattle.draft_slots.proofs.Scanning.{slots-fit, running}
use Rattle.draft_slots.proofs.ranges.range_at.Goals as goal

pub returns-in_err-count_at : goal.returns-in_err-count_at
returns-in_err-count_at c = search (running, c.in_err-count_at.was)

pub returns-in_err-count : goal.returns-in_err-count
returns-in_err-count c = search (running, c.in_ok-count_at.was, c.in_err-count.was)

pub overflow_mul-count : goal.overflow_mul-count
overflow_mul-count c = search (slots-fit, c.in_ok-count.was)

pub returns-in_err-next : goal.returns-in_err-next
returns-in_err-next c = search (running, c.in_ok-count_at.was, c.in_ok-count.was, c.in_err-next.was) depth 10

pub returns : goal.returns
returns c = search (running, c.in_ok-count_at.was, c.in_ok-count.was, c.in_ok-next.was) depth 12
