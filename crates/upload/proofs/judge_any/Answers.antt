-- `upload::judge_any` meets its contract. Assumes nothing.
use Rattle.upload.proofs.Calling.{any-room, any-long, any-fits}
use native.Mathlib.Omega.{arith}
use Rattle.upload.proofs.judge_any.Goals as goal

pub returns-then-store-at : goal.returns-then-store-at
returns-then-store-at c = grind (arith, any-room)

pub returns-then-at-piece-gt-MOST_BYTES : goal.returns-then-at-piece-gt-MOST_BYTES
returns-then-at-piece-gt-MOST_BYTES c = let a = c.args in
    any-long _ a.at a.piece.now a.store.now (omega (arith, c.if-store-at-2.false)) c.if-at-piece-gt-MOST_BYTES.true _
    c.refuse-then-at-piece-gt-MOST_BYTES.ensures

pub returns-then-piece-le-SHORT : goal.returns-then-piece-le-SHORT
returns-then-piece-le-SHORT c = let a = c.args in
    any-fits _ a.at a.piece.now a.store.now (omega (arith, c.if-store-at-2.false)) _ _ c.judge_within.ensures

pub returns : goal.returns
returns c = let a = c.args in
    any-fits _ a.at a.piece.now a.store.now (omega (arith, c.if-store-at-2.false)) _ _ c.judge_within-2.ensures
