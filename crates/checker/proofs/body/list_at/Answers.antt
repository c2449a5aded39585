-- `checker::body::list_at` meets its contract. Assumes nothing.
use Rattle.transaction.proofs.Reading.{listing}
use Rattle.transaction.specs.Form.{at_least}
use Rattle.checker.proofs.body.list_at.Goals as goal

pub returns-in_err-count : goal.returns-in_err-count
unfolding at_least
returns-in_err-count c = search (listing, c.in_err-count.was) depth 12

pub returns-then-count-least : goal.returns-then-count-least
unfolding at_least
returns-then-count-least c = search (listing, c.in_ok-count.was) depth 12

pub returns-then-count-eq0 : goal.returns-then-count-eq0
unfolding at_least
returns-then-count-eq0 c = search (listing, c.in_ok-count.was) depth 12

pub returns-in_err-next : goal.returns-in_err-next
unfolding at_least
returns-in_err-next c = search (listing, c.in_ok-count.was, c.in_err-next.was) depth 12

pub returns : goal.returns
unfolding at_least
returns c = search (listing, c.in_ok-count.was, c.in_ok-next.was) depth 12
