-- `operator::word` meets its contract. Assumes nothing.
use Rattle.operator.proofs.Listing.{packing}
use Rattle.operator.proofs.Uploading.{refusal-packed}
use Rattle.operator.proofs.word.Goals as goal

pub returns-in-Ok : goal.returns-in-Ok
returns-in-Ok c = search packing

pub returns-in-Err : goal.returns-in-Err
returns-in-Err c = search (packing, refusal-packed)
