-- `test_exports::steps::step_numbers` meets its contract. Assumes nothing.
use Rattle.test_exports.proofs.Turns.{encoding}
use Rattle.test_exports.proofs.steps.step_numbers.Goals as goal

pub returns-in-Ok : goal.returns-in-Ok
returns-in-Ok c = search encoding

pub returns-in-Err : goal.returns-in-Err
returns-in-Err c = search encoding
