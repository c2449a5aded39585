use Rattle.wire.proofs.Bytes.{below_all, separating}
use Rattle.wire.proofs.is_below.Goals as goal

pub loop-i-init : goal.loop-i-init
loop-i-init c = below_all _ _

pub returns-then-a-i : goal.returns-then-a-i
returns-then-a-i c = search separating

pub loop-i-preserved : goal.loop-i-preserved
loop-i-preserved c = search separating
