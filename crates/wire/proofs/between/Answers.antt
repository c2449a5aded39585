-- `wire::between` meets its contract. Assumes nothing.
use Rattle.wire.proofs.Bytes.{part_out, part_none, part-over}
use Rattle.wire.proofs.between.Goals as goal

pub returns-then-s-start : goal.returns-then-s-start
returns-then-s-start c = part_out _ _ _ c.if-s-start.true

pub returns-then-end-start : goal.returns-then-end-start
returns-then-end-start c = part_none _ _ _ c.if-end-start.true

pub returns-then-s-end : goal.returns-then-s-end
returns-then-s-end c = part-over _ _ _ c.if-s-end.true
