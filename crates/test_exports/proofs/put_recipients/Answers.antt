-- `test_exports::put_recipients` meets its contract. Assumes nothing.
use Rattle.test_exports.specs.code.Values.{recipients_values}
use Rattle.test_exports.proofs.Putting.{put_one, put_three, by-case}
use Rattle.test_exports.proofs.put_recipients.Goals as goal

pub returns-in-Mint : goal.returns-in-Mint
returns-in-Mint c = search (by-case recipients_values, put_three)

pub returns-in-Transfer : goal.returns-in-Transfer
returns-in-Transfer c = search (by-case recipients_values, put_one)
