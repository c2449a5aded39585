-- `test_exports::steps::cellfacet_test_output` meets its contract. Assumes nothing.
use Rattle.transaction.specs.Answer.{memo_most}
use Rattle.writer.specs.Fields.{add_output}
use Rattle.test_exports.proofs.Turns.{step-of-five}
use Rattle.test_exports.proofs.steps.cellfacet_test_output.Goals as goal

pub returns : goal.returns
returns c = search (step-of-five (add_output memo_most))
