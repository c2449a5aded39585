use Rattle.draft_slots.proofs.Blocks.{same-all, same-on, same_end}
use Rattle.draft_slots.proofs.compare.same_block.Goals as goal

pub loop-i-init : goal.loop-i-init
loop-i-init c = same-all _ _

pub loop-i-preserved : goal.loop-i-preserved
loop-i-preserved c = search same-on

pub returns : goal.returns
returns c = search same_end
