-- `checker::body::plan_at` meets its contract. Assumes nothing.
use mathlib.Core.Path.{refl}
use native.Mathlib.Omega.{arith}
use Rattle.checker.proofs.Planning.{turns}
use Rattle.checker.proofs.body.plan_at.Goals as goal

pub loop-count-init : goal.loop-count-init
loop-count-init c = (omega arith, refl)

pub returns-in_err-count : goal.returns-in_err-count
returns-in_err-count c = search (turns, c.in_err-count.was)

pub overflow_add-wanted : goal.overflow_add-wanted
overflow_add-wanted c = search (turns, c.in_ok-count.was)

pub overflow_add-phase : goal.overflow_add-phase
overflow_add-phase c = search (turns, c.in_ok-count.was)

pub loop-count-smaller : goal.loop-count-smaller
loop-count-smaller c = search (turns, c.in_ok-count.was)

pub loop-count-preserved : goal.loop-count-preserved
loop-count-preserved c = (search (turns, c.in_ok-count.was), search (turns, c.in_ok-count.was))

pub returns : goal.returns
returns c = search (turns, c.in_ok-count.was)
