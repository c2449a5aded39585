-- `credentials::reading::credentials_at` meets its contract. Assumes nothing.
use Rattle.wire.proofs.Trying.{passed-on}
use Rattle.credentials.proofs.Besides.{counted-short, counted-other, counted_same}
use Rattle.credentials.proofs.reading.credentials_at.Goals as goal

pub returns-in_err-count : goal.returns-in_err-count
returns-in_err-count c = search (counted-short, passed-on, c.in_err-count.was) depth 12

pub returns-then-count-layout : goal.returns-then-count-layout
returns-then-count-layout c = search (counted-other, c.in_ok-count.was) depth 12

pub returns : goal.returns
returns c = search (counted_same, c.in_ok-count.was) depth 12
