-- `draft::merge_within` meets its contract. Assumes nothing.
use mathlib.Core.Bool.{not}
use mathlib.Core.Path.{ap}
use Rattle.draft.proofs.Calling.{merge-17, merge-18, merge-19, merge-alike}
use Rattle.draft.proofs.Known.{start_fits}
use Rattle.draft.proofs.merge_within.Goals as goal

pub returns-in_default : goal.returns-in_default
returns-in_default c = search merge-17

pub returns-in_default-check_within : goal.returns-in_default-check_within
returns-in_default-check_within c = search merge-18

pub returns-then-not-same_bytes : goal.returns-then-not-same_bytes
returns-then-not-same_bytes c = search merge-19

pub overflow_add-at : goal.overflow_add-at
overflow_add-at c = search start_fits

-- the search does not enter as many facts as hold here
pub returns : goal.returns
returns c =
    merge-alike _ _ _ _ _ c.check_within.ensures _ _ c.in-Ok.is c.type_inv.first
    _ c.check_within-2.ensures _ _ c.in-Ok-check_within.is c.type_inv.second
    _ _ c.between.ensures c.between-2.ensures _ c.same_bytes.ensures
    (ap not c.if-not-same_bytes.false) _ c.merge_alike.ensures
