-- `draft::merge_alike` meets its contract. Assumes nothing.
use Rattle.draft.proofs.Calling.{merge-20, merge-14, merge-0}
use Rattle.draft.proofs.merge_alike.Goals as goal

pub returns-in-Some : goal.returns-in-Some
returns-in-Some c = search merge-20

pub returns-then-out-first : goal.returns-then-out-first
returns-then-out-first c = search merge-14

pub returns : goal.returns
returns c = search merge-0
