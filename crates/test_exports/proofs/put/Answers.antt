-- `test_exports::put` meets its contract. Assumes nothing.
use Rattle.std.proofs.Common.{rules}
use Rattle.test_exports.proofs.Putting.{put-past}
use Rattle.test_exports.proofs.put.Goals as goal

pub returns-else-i-numbers : goal.returns-else-i-numbers
returns-else-i-numbers c = search (put-past, rules)
