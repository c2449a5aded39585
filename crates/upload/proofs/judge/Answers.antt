-- `upload::judge` meets its contract. Assumes nothing.
use Rattle.std.proofs.Common.{rules}
use Rattle.upload.proofs.Laying.{judged-more, judged-refused}
use mathlib.Core.Path.{refl, sym}
use lib.Seq.{length-take-le}
use Rattle.upload.proofs.judge.Goals as goal

pub slice_bounds-check_within-end-2 : goal.slice_bounds-check_within-end-2
slice_bounds-check_within-end-2 c = sym (length-take-le _ _ (search rules))

pub returns-then-is_some : goal.returns-then-is_some
returns-then-is_some c = let a = c.args in
    judged-refused _ a.store.now a.piece.now a.at c.requires.piece_in_bounds _ c.put_at.ensures _ refl _ c.check_within.ensures
    _ c.shown-refusal.ensures _ c.is_some.ensures c.if-is_some.true _ _
    c.copy_from_slice.ensures.after c.put_at-then-is_some.ensures

pub returns-else-is_some : goal.returns-else-is_some
returns-else-is_some c = let a = c.args in
    judged-more _ a.store.now a.piece.now a.at c.requires.piece_in_bounds _ c.put_at.ensures _ refl _ c.check_within.ensures
    _ c.shown-refusal.ensures _ c.is_some.ensures c.if-is_some.false
