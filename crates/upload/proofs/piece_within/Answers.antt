-- `upload::piece_within` meets its contract. Assumes nothing.
use Rattle.upload.proofs.Calling.{piece-stands, piece-room, piece-more, piece-refused}
use Rattle.upload.proofs.Laying.{stands, free}
use native.Mathlib.Omega.{arith}
use Rattle.upload.proofs.piece_within.Goals as goal

pub returns-then-is_some : goal.returns-then-is_some
returns-then-is_some c = let a = c.args in
    let (e, q) = stands _ _ c.is_some.ensures c.if-is_some.true in
    piece-stands _ a.upload a.piece.now a.store.now e q

pub overflow_add-result : goal.overflow_add-result
overflow_add-result c = let a = c.args in
    omega (arith, piece-room _ a.upload a.piece.now a.store.now (free _ _ c.is_some.ensures c.if-is_some.false) _ _ c.judge_any.ensures c.in-None.is)

pub returns-in-None : goal.returns-in-None
returns-in-None c = let a = c.args in
    piece-more _ a.upload a.piece.now a.store.now (free _ _ c.is_some.ensures c.if-is_some.false) _ _ c.judge_any.ensures c.in-None.is

pub returns-in-Some : goal.returns-in-Some
returns-in-Some c = let a = c.args in
    piece-refused _ a.upload a.piece.now a.store.now (free _ _ c.is_some.ensures c.if-is_some.false) _ _ c.judge_any.ensures _ c.in-Some.is
