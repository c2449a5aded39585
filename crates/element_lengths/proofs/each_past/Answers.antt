use Rattle.wire.proofs.Trying.{passed-on}
use Rattle.element_lengths.proofs.Repeating.{repeating}
use Rattle.element_lengths.proofs.each_past.Goals as goal

pub loop-init : goal.loop-init
loop-init g c = search repeating

pub returns-in_err-at : goal.returns-in_err-at
returns-in_err-at g c = search (repeating, passed-on, c.in_err-at.was)

pub loop-preserved : goal.loop-preserved
loop-preserved g c = search (repeating, c.in_ok-at.was)

pub returns : goal.returns
returns g c = search repeating
