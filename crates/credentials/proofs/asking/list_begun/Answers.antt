-- `credentials::asking::list_begun` meets its contract. Assumes nothing.
use Rattle.credentials.proofs.Ahead.{listing}
use Rattle.credentials.proofs.asking.list_begun.Goals as goal

pub returns-in_err-count : goal.returns-in_err-count
returns-in_err-count c = search (listing, c.in_err-count.was) depth 12

pub returns-in_err-next : goal.returns-in_err-next
returns-in_err-next c = search (listing, c.in_ok-count.was, c.in_err-next.was) depth 12

pub returns-then-asks-eq0 : goal.returns-then-asks-eq0
returns-then-asks-eq0 c = search (listing, c.in_ok-count.was, c.in_ok-next.was) depth 12

pub returns : goal.returns
returns c = search (listing, c.in_ok-count.was) depth 12
