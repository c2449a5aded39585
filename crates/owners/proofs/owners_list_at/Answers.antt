use Rattle.wire.proofs.Trying.{passed-on}
use Rattle.wire.proofs.Reading.{for_on, for_end, unordered-again}
use Rattle.owners.proofs.Reading.{on-owners, on-owners-refused}
use Rattle.owners.specs.Owners.{owners}
use Rattle.owners.proofs.owners_list_at.Goals as goal

pub returns-in_err-at : goal.returns-in_err-at
returns-in_err-at c = search (for_on, on-owners-refused, passed-on, c.in_err-at.was) depth 6

pub loop-preserved : goal.loop-preserved
loop-preserved c = search (for_on, on-owners, unordered-again owners, c.in_ok-at.was) depth 6

pub returns : goal.returns
returns c = search for_end
