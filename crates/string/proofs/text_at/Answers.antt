-- `string::text_at` meets its contract.
-- Assumes nothing.
use Rattle.std.proofs.Common.{rules}
use Rattle.string.proofs.Reading.{reading, if-length-wrong, unprintable-fits, if-printable, if-unprintable}
use Rattle.string.specs.Strings.{text}
use Rattle.string.proofs.text_at.Goals as goal

pub returns-in_err-length : goal.returns-in_err-length
unfolding text
returns-in_err-length c = search (reading, c.in_err-length.was) depth 12

pub returns-then-length-eq0 : goal.returns-then-length-eq0
unfolding text
returns-then-length-eq0 c = search (reading, if-length-wrong, c.in_ok-length.was, c.then-length-eq0.either) depth 12

pub returns-in_err-next : goal.returns-in_err-next
unfolding text
returns-in_err-next c = search (reading, c.in_ok-length.was, c.in_err-next.was) depth 12

pub overflow_add-first : goal.overflow_add-first
unfolding text
overflow_add-first c = search (rules, unprintable-fits)

pub returns-then-printable-length : goal.returns-then-printable-length
unfolding text
returns-then-printable-length c = search (reading, if-unprintable, c.in_ok-length.was, c.in_ok-next.was) depth 12

pub returns : goal.returns
unfolding text
returns c = search (reading, if-printable, c.in_ok-length.was, c.in_ok-next.was) depth 12
