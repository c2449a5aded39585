-- `test_exports::steps::cellfacet_test_finish` meets its contract. Assumes nothing.
use Rattle.transaction.specs.Avm.{avm}
use Rattle.transaction.specs.Answer.{memo_most}
use Rattle.writer.specs.Steps.{finish}
use Rattle.test_exports.proofs.Turns.{step-of-none}
use Rattle.test_exports.proofs.steps.cellfacet_test_finish.Goals as goal

pub returns : goal.returns
returns c = search (step-of-none (finish (avm memo_most)))
