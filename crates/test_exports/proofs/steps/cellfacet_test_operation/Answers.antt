-- `test_exports::steps::cellfacet_test_operation` meets its contract. Assumes nothing.
use Rattle.transaction.specs.Answer.{memo_most}
use Rattle.writer.specs.Fields.{add_operation}
use Rattle.test_exports.proofs.Turns.{step-of-one}
use Rattle.test_exports.proofs.steps.cellfacet_test_operation.Goals as goal

pub returns : goal.returns
returns c = search (step-of-one (add_operation memo_most))
