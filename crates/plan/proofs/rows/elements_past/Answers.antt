-- `plan::rows::elements_past` meets its contract. Assumes nothing.
use Rattle.plan.proofs.Passing.{elements-passing}
use Rattle.plan.proofs.rows.elements_past.Goals as goal

pub loop-init : goal.loop-init
loop-init c = search elements-passing

pub returns-in_err-at : goal.returns-in_err-at
returns-in_err-at c = search (elements-passing, c.in_err-at.was)

pub loop-preserved : goal.loop-preserved
loop-preserved c = search (elements-passing, c.in_ok-at.was)

pub returns : goal.returns
returns c = search elements-passing
