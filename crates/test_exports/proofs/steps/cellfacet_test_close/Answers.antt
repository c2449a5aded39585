-- `test_exports::steps::cellfacet_test_close` meets its contract. Assumes nothing.
use Rattle.transaction.specs.Avm.{avm}
use Rattle.transaction.specs.Answer.{memo_most}
use Rattle.writer.specs.Steps.{close}
use Rattle.test_exports.proofs.Turns.{step-of-none}
use Rattle.test_exports.proofs.steps.cellfacet_test_close.Goals as goal

pub returns : goal.returns
returns c = search (step-of-none (close (avm memo_most)))
