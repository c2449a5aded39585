-- `operator::uploads::cellfacet_upload_piece` meets its contract. Assumes nothing.
use Rattle.operator.proofs.Uploading.{piece_sent}
use Rattle.operator.proofs.uploads.cellfacet_upload_piece.Goals as goal

pub returns : goal.returns
returns c = search piece_sent
