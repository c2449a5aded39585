-- `operator::uploads::cellfacet_upload_end` meets its contract. Assumes nothing.
use Rattle.operator.proofs.Uploading.{ending}
use Rattle.operator.proofs.uploads.cellfacet_upload_end.Goals as goal

pub returns-in-Ok : goal.returns-in-Ok
returns-in-Ok c = search ending

pub returns-in-Err : goal.returns-in-Err
returns-in-Err c = search ending
