-- `test_exports::steps::cellfacet_test_state` meets its contract. Assumes nothing.
use Rattle.transaction.specs.Answer.{memo_most}
use Rattle.writer.specs.Fields.{add_initial_state}
use Rattle.test_exports.proofs.Turns.{step-of-one}
use Rattle.test_exports.proofs.steps.cellfacet_test_state.Goals as goal

pub returns : goal.returns
returns c = search (step-of-one (add_initial_state memo_most))
