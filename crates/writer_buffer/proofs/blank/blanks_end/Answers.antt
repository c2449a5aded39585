-- `writer_buffer::blank::blanks_end` meets its contract. Assumes nothing.
use Prim.Native.Nat.{◌+◌, ◌-◌}
use mathlib.Core.Path.{refl}
use native.Mathlib.Omega.{arith}
use Rattle.wire.proofs.Trying.{passed-on}
use Rattle.writer_buffer.proofs.Blanks.{fitted-next}
use Rattle.writer_buffer.proofs.Loops.{of_end, end-full, end_on, end_none}
use Rattle.writer_buffer.proofs.blank.blanks_end.Goals as goal

pub loop-init : goal.loop-init
loop-init c = (λ r h most ws w k. h most ws w (omega (arith, k)), omega arith)

pub returns-in_default : goal.returns-in_default
returns-in_default c = let l = c.loop in
    l.invariant.0 _ (of_end c.args.s.now c.args.type_id l.cursor (c.args.count - l.counter) _ c.next_wanted.ensures _ (omega arith) c.in_default.is)

pub returns-in_err-at : goal.returns-in_err-at
returns-in_err-at c = let l = c.loop in
    l.invariant.0 _ (end-full c.args.s.now c.args.type_id l.cursor
    (c.args.count - l.counter) _ c.next_wanted.ensures _ c.in-Some.is _ refl _ _ _ c.blank_end.ensures _ c.in_err-at.was _
    (passed-on _ _ c.from_residual.ensures))

pub loop-preserved : goal.loop-preserved
loop-preserved c = let l = c.loop in (
  λ r h.
      l.invariant.0 r (end_on c.args.s.now c.args.type_id l.cursor (c.args.count - l.counter) _ c.next_wanted.ensures _ c.in-Some.is (c.args.count -
      (l.counter + 1)) (omega arith) _ _ _ c.blank_end.ensures r _ c.in_ok-at.was h),
  (fitted-next _ _ _ _ c.blank_end.ensures _ c.in_ok-at.was).1,
)

pub returns : goal.returns
returns c = let l = c.loop in
    l.invariant.0 _ (end_none c.args.type_id c.args.s.now l.cursor (c.args.count - l.counter) l.at c.args.limit (omega arith) l.invariant.1)
