-- `wire::next_below` meets its contract. Assumes nothing.
use Rattle.wire.proofs.Bytes.{below_parts}
use Rattle.wire.proofs.next_below.Goals as goal

pub returns-then-s-end : goal.returns-then-s-end
returns-then-s-end c = search below_parts

pub returns-then-end-middle : goal.returns-then-end-middle
returns-then-end-middle c = search below_parts

pub returns-then-middle-start : goal.returns-then-middle-start
returns-then-middle-start c = search below_parts
