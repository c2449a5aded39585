-- `string::string_at` meets its contract.
-- Assumes nothing.
use Rattle.string.proofs.Reading.{reading}
use Rattle.string.specs.Strings.{string}
use Rattle.string.proofs.string_at.Goals as goal

pub returns-in_err-length : goal.returns-in_err-length
unfolding string
returns-in_err-length c = search (reading, c.in_err-length.was) depth 12

pub returns-then-most-length : goal.returns-then-most-length
unfolding string
returns-then-most-length c = search (reading, c.in_ok-length.was) depth 12

pub returns : goal.returns
unfolding string
returns c = search (reading, c.in_ok-length.was) depth 12
