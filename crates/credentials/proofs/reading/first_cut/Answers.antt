-- `credentials::reading::first_cut` meets its contract. Assumes nothing.
use Rattle.wire.proofs.Reading.{on-part, on-cut}
use Rattle.credentials.proofs.Signatures.{cut_on, cut-end}
use Rattle.credentials.proofs.reading.first_cut.Goals as goal

pub returns-in_default : goal.returns-in_default
returns-in_default c = search (cut_on, on-part, on-cut) depth 8

pub loop-preserved : goal.loop-preserved
loop-preserved c = search (cut_on, on-part) depth 8

pub returns : goal.returns
returns c = search cut-end
