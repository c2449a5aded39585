-- `operator::uploads::piece_word` meets its contract. Assumes nothing.
use Rattle.operator.proofs.Uploading.{piece-answer}
use Rattle.operator.proofs.uploads.piece_word.Goals as goal

pub returns : goal.returns
returns c = search piece-answer
