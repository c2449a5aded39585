-- `test_exports::steps::cellfacet_test_denomination` meets its contract. Assumes nothing.
use Rattle.transaction.specs.Answer.{memo_most}
use Rattle.writer.specs.Fields.{put_denomination}
use Rattle.test_exports.proofs.Turns.{step-of-one}
use Rattle.test_exports.proofs.steps.cellfacet_test_denomination.Goals as goal

pub returns : goal.returns
returns c = search (step-of-one (put_denomination memo_most))
