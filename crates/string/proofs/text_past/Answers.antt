-- `string::text_past` meets its contract.
-- Assumes nothing.
use Rattle.std.proofs.Common.{rules}
use Rattle.wire.specs.Sequence.{and_then}
use Rattle.string.proofs.Reading.{reading}
use Rattle.string.proofs.Passing.{text-passed}
use Rattle.string.proofs.text_past.Goals as goal

pub returns-in_err-length : goal.returns-in_err-length
unfolding and_then
returns-in_err-length c = text-passed _ _ (search rules) _ (search (reading, c.in_err-length.was) depth 12)

pub returns : goal.returns
unfolding and_then
returns c = text-passed _ _ (search rules) _ (search (reading, c.in_ok-length.was) depth 12)
