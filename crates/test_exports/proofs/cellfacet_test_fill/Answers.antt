-- `test_exports::cellfacet_test_fill` meets its contract. Assumes nothing.
use Rattle.test_exports.proofs.Encoding.{filling}
use Rattle.test_exports.proofs.cellfacet_test_fill.Goals as goal

pub returns-in-Ok : goal.returns-in-Ok
returns-in-Ok c = search filling

pub returns-in-Err : goal.returns-in-Err
returns-in-Err c = search filling
