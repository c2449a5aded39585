-- `operator::uploads::upload_of` meets its contract. Assumes nothing.
use Rattle.operator.proofs.Uploading.{state}
use Rattle.operator.proofs.uploads.upload_of.Goals as goal

pub returns-then-number-eq0 : goal.returns-then-number-eq0
returns-then-number-eq0 c = search state

pub returns : goal.returns
returns c = search state
