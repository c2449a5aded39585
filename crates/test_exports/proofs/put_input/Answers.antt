-- `test_exports::put_input` meets its contract. Assumes nothing.
use Rattle.test_exports.proofs.Putting.{all-four}
use Rattle.test_exports.proofs.put_input.Goals as goal

pub returns : goal.returns
returns c = search all-four
