-- `credentials::asking::next_wanted` meets its contract. Assumes nothing.
use native.Mathlib.Omega.{arith}
use Rattle.credentials.proofs.Ahead.{nexts}
use Rattle.credentials.proofs.asking.next_wanted.Goals as goal

pub loop-left-init : goal.loop-left-init
loop-left-init c = search nexts

pub element_wanted-requires : goal.element_wanted-requires
element_wanted-requires c = omega (arith, c.loop-left-test.false)

pub returns : goal.returns
returns c = search nexts

pub returns-in_err-credential : goal.returns-in_err-credential
returns-in_err-credential c = search (nexts, c.in_err-credential.was)

pub overflow_add-result : goal.overflow_add-result
overflow_add-result c = search (nexts, c.in_ok-credential.was)

pub returns-in-Asks : goal.returns-in-Asks
returns-in-Asks c = search (nexts, c.in_ok-credential.was)

pub overflow_add-phase : goal.overflow_add-phase
overflow_add-phase c = search (nexts, c.in_ok-credential.was)

pub loop-left-smaller : goal.loop-left-smaller
loop-left-smaller c = search (nexts, c.in_ok-credential.was)

pub loop-left-preserved : goal.loop-left-preserved
loop-left-preserved c = search (nexts, c.in_ok-credential.was)
