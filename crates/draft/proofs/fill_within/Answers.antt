-- `draft::fill_within` meets its contract. Assumes nothing.
use Rattle.draft.proofs.Calling.{fill-17, fill-15, fill-21, fill-at}
use Rattle.draft.proofs.Known.{start_fits}
use Rattle.draft.proofs.fill_within.Goals as goal

pub returns-in_default : goal.returns-in_default
returns-in_default c = search fill-17

pub overflow_add-first : goal.overflow_add-first
overflow_add-first c = search start_fits

pub returns-in_default-place_of : goal.returns-in_default-place_of
returns-in_default-place_of c = search fill-15

pub returns-then-signature-ne-SIGNATURE_WIDTH : goal.returns-then-signature-ne-SIGNATURE_WIDTH
returns-then-signature-ne-SIGNATURE_WIDTH c = search fill-21

pub returns : goal.returns
returns c = search fill-at
