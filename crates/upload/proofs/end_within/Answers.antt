-- `upload::end_within` meets its contract. Assumes nothing.
use Rattle.upload.proofs.Calling.{ending}
use mathlib.Core.Path.{sym}
use lib.Seq.{length-take-le}
use Rattle.upload.proofs.end_within.Goals as goal

pub returns-in-Some : goal.returns-in-Some
returns-in-Some c = search ending

pub returns-then-store-upload : goal.returns-then-store-upload
returns-then-store-upload c = search ending

pub slice_bounds-check_within-end : goal.slice_bounds-check_within-end
slice_bounds-check_within-end c = sym (length-take-le _ _ c.if-store-upload.false)

pub returns : goal.returns
returns c = search ending
