-- `draft_slots::compare::slot_of` meets its contract. Assumes nothing.
use Rattle.std.proofs.Common.{refl}
use Rattle.draft_slots.proofs.Blocks.{slot-cut}
use Rattle.draft_slots.proofs.compare.slot_of.Goals as goal

pub returns : goal.returns
returns c = slot-cut _ _ _ _ _ _ c.get.ensures.lookup refl c.unwrap_or-rest.ensures c.min.ensures
