-- `operator::uploads::refusal_word` meets its contract. Assumes nothing.
use Rattle.operator.proofs.Uploading.{refusal-packed}
use Rattle.operator.proofs.uploads.refusal_word.Goals as goal

pub returns : goal.returns
returns c = search refusal-packed
