-- `writer_buffer::blank::closing_end` meets its contract. Assumes nothing.
use native.Mathlib.Omega.{arith}
use Rattle.writer_buffer.proofs.Loops.{closing-full, closing-on}
use Rattle.writer_buffer.proofs.blank.closing_end.Goals as goal

pub returns-then-limit-at : goal.returns-then-limit-at
returns-then-limit-at c = let a = c.args in
    closing-full a.layout a.s.now a.at a.limit (omega arith) _ c.refuse.ensures

pub returns : goal.returns
returns c = let a = c.args in
    closing-on a.layout a.s.now a.at _ c.first_wanting-from.ensures a.limit _ c.blanks_end.ensures
