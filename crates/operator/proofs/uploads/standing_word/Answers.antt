-- `operator::uploads::standing_word` meets its contract. Assumes nothing.
use Rattle.operator.proofs.Uploading.{standing-words}
use Rattle.operator.proofs.uploads.standing_word.Goals as goal

pub returns-in-None : goal.returns-in-None
returns-in-None c = search standing-words

pub returns-in-Some : goal.returns-in-Some
returns-in-Some c = search standing-words
