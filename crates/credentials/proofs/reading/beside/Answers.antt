-- `credentials::reading::beside` meets its contract. Assumes nothing.
use Rattle.credentials.proofs.Besides.{onward}
use Rattle.credentials.proofs.reading.beside.Goals as goal

pub loop-init : goal.loop-init
loop-init c = search onward

pub returns-in_default : goal.returns-in_default
returns-in_default c = search onward

pub returns-in_err-at : goal.returns-in_err-at
returns-in_err-at c = search (onward, c.in_err-at.was)

pub loop-preserved : goal.loop-preserved
loop-preserved c = search (onward, c.in_ok-at.was)

pub returns : goal.returns
returns c = search onward
