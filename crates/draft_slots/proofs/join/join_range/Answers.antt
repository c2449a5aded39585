use Rattle.draft_slots.proofs.InPlace.{join-on, join-end}
use Rattle.draft_slots.proofs.join.join_range.Goals as goal

pub loop-i-preserved : goal.loop-i-preserved
loop-i-preserved c = search join-on

pub returns : goal.returns
returns c = search join-end
