use native.Mathlib.Omega.{arith}
use Rattle.wire.specs.Sequence.{guard}
use Rattle.wire.proofs.Trying.{passed-on}
use Rattle.wire.proofs.Reading.{for_on, for_end, part-made}
use Rattle.element.specs.Operations.{initial_state_after}
use Rattle.element.proofs.Reading.{on-fx, on-fx-unknown, on-fx-refused, if-fx-follows, if-fx-not, fx-again, states-are}
use Rattle.element.proofs.Reading.{on-state-outputs, on-state-outputs-refused}
use Rattle.element.proofs.operations.states_from.Goals as goal

ruleset states =
    (for_on, on-fx, on-fx-unknown, on-fx-refused, if-fx-follows, if-fx-not, on-state-outputs, on-state-outputs-refused, fx-again, passed-on, part-made)

pub loop-init : goal.loop-init
unfolding guard initial_state_after
loop-init c = (tt, states-are _ c.type_inv.s _ _)

pub returns-in_err-fx : goal.returns-in_err-fx
unfolding guard initial_state_after
returns-in_err-fx c = search (states, c.in_err-fx.was) depth 10

pub returns-then-fx-gt1 : goal.returns-then-fx-gt1
unfolding guard initial_state_after
returns-then-fx-gt1 c = search (states, c.in_ok-fx.was) depth 10

pub returns-then-not-integer_follows : goal.returns-then-not-integer_follows
unfolding guard initial_state_after
returns-then-not-integer_follows c = search (states, c.in_ok-fx.was) depth 10

pub returns-in_err-at : goal.returns-in_err-at
unfolding guard initial_state_after
returns-in_err-at c = search (for_on, on-fx, if-fx-follows, on-state-outputs-refused, passed-on, c.in_ok-fx.was, c.in_err-at.was) depth 10 fits 6000

pub loop-preserved : goal.loop-preserved
unfolding guard initial_state_after
loop-preserved c = (omega arith, search (for_on, on-fx, if-fx-follows, on-state-outputs, fx-again, c.in_ok-fx.was, c.in_ok-at.was) depth 10 fits 6000)

pub returns : goal.returns
unfolding guard initial_state_after
returns c = search for_end
