-- `string::denomination_at` meets its contract.
-- Assumes nothing.
use Rattle.string.proofs.Reading.{reading}
use Rattle.string.specs.Strings.{denomination}
use Rattle.string.proofs.denomination_at.Goals as goal

pub returns-in_err-value : goal.returns-in_err-value
unfolding denomination
returns-in_err-value c = search (reading, c.in_err-value.was) depth 12

pub returns-then-value-gt32 : goal.returns-then-value-gt32
unfolding denomination
returns-then-value-gt32 c = search (reading, c.in_ok-value.was) depth 12

pub returns : goal.returns
unfolding denomination
returns c = search (reading, c.in_ok-value.was) depth 12
