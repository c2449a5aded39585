-- `test_exports::cellfacet_test_entry` meets its contract. Assumes nothing.
use Rattle.test_exports.proofs.Putting.{entry-encoded}
use Rattle.test_exports.proofs.cellfacet_test_entry.Goals as goal

pub returns : goal.returns
returns c = search entry-encoded
