-- `draft_slots::compare::is_blank` meets its contract. Assumes nothing.
use Rattle.draft_slots.proofs.Blocks.{blanks}
use Rattle.draft_slots.proofs.compare.is_blank.Goals as goal

pub returns-then-s-eq-SIGNATURE_WIDTH : goal.returns-then-s-eq-SIGNATURE_WIDTH
returns-then-s-eq-SIGNATURE_WIDTH c = search blanks

pub returns-else-s-eq-SIGNATURE_WIDTH : goal.returns-else-s-eq-SIGNATURE_WIDTH
returns-else-s-eq-SIGNATURE_WIDTH c = search blanks
