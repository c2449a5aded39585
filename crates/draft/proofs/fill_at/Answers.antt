-- `draft::fill_at` meets its contract. Assumes nothing.
use Rattle.draft.proofs.Calling.{fill-20, fill-0}
use Rattle.draft.proofs.fill_at.Goals as goal

pub returns-then-clash : goal.returns-then-clash
returns-then-clash c = search fill-20

pub returns : goal.returns
returns c = search fill-0
