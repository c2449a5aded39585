-- `writer_rules::elements::state_rules` meets its contract. Assumes nothing.
use mathlib.Core.Path.{refl}
use Rattle.wire.specs.Numbers.{cut_at}
use Rattle.wire.specs.Sequence.{and_then, guard, named}
use Rattle.wire.proofs.Trying.{passed-on}
use Rattle.element.specs.Operations.{initial_state_after}
use Rattle.element.proofs.Reading.{on-fx, on-fx-short, on-fx-unknown}
use Rattle.writer_rules.specs.Judged.{judged}
use Rattle.writer_rules.proofs.States.{fx-short, outputs-judged, if-after, if-not-after}
use Rattle.writer_rules.proofs.elements.state_rules.Goals as goal

pub returns-in_err-fx : goal.returns-in_err-fx
unfolding judged initial_state_after named and_then guard
returns-in_err-fx c = let s = c.args.bytes.now in
    on-fx-short s 0 _ _ _ _ c.u32_at.ensures _ c.in_err-fx.was (cut_at 4 s 0) refl
    (fx-short s _ c.u32_at.ensures _ c.in_err-fx.was _ (passed-on _ _ c.from_residual.ensures))

pub returns-then-fx-gt1 : goal.returns-then-fx-gt1
unfolding judged initial_state_after named and_then guard
returns-then-fx-gt1 c = search (on-fx-unknown, c.in_ok-fx.was) depth 12

pub returns-then-not-is_below : goal.returns-then-not-is_below
unfolding judged initial_state_after named and_then guard
returns-then-not-is_below c = search (on-fx, if-not-after, c.in_ok-fx.was) depth 12

pub returns : goal.returns
unfolding judged initial_state_after named and_then guard
returns c = search (on-fx, if-after, outputs-judged, c.in_ok-fx.was) depth 12
