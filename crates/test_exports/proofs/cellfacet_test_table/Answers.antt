-- `test_exports::cellfacet_test_table` meets its contract. Assumes nothing.
use Rattle.test_exports.proofs.Encoding.{encoding}
use Rattle.test_exports.proofs.cellfacet_test_table.Goals as goal

pub returns-in-Ok : goal.returns-in-Ok
returns-in-Ok c = search encoding

pub returns-in-Err : goal.returns-in-Err
returns-in-Err c = search encoding
