-- `test_exports::put_credential` meets its contract. Assumes nothing.
use Rattle.test_exports.proofs.Putting.{put_three}
use Rattle.test_exports.proofs.put_credential.Goals as goal

pub returns : goal.returns
returns c = search put_three
