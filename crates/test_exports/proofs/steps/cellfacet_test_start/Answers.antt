-- `test_exports::steps::cellfacet_test_start` meets its contract. Assumes nothing.
use Rattle.transaction.specs.Avm.{avm}
use Rattle.transaction.specs.Answer.{memo_most}
use Rattle.writer.specs.Steps.{start}
use Rattle.test_exports.proofs.Turns.{step-of-three}
use Rattle.test_exports.proofs.steps.cellfacet_test_start.Goals as goal

pub returns : goal.returns
returns c = search (step-of-three (start (avm memo_most)))
