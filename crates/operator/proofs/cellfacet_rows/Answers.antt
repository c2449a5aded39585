-- `operator::cellfacet_rows` meets its contract. Assumes nothing.
use Rattle.operator.proofs.Listing.{answered}
use Rattle.operator.proofs.cellfacet_rows.Goals as goal

pub returns : goal.returns
returns c = search answered
