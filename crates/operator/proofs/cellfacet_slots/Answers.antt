-- `operator::cellfacet_slots` meets its contract. Assumes nothing.
use Rattle.operator.proofs.Listing.{answered}
use Rattle.operator.proofs.cellfacet_slots.Goals as goal

pub returns : goal.returns
returns c = search answered
