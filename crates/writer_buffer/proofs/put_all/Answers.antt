-- `writer_buffer::put_all` meets its contract. Assumes nothing.
use native.Mathlib.Omega.{arith}
use Rattle.writer_buffer.proofs.Numbering.{front_fits, sum_fits, second_fits, integers-fit, all-stored}
use Rattle.writer_buffer.proofs.put_all.Goals as goal

pub put_at-requires : goal.put_at-requires
put_at-requires c = search front_fits

pub put_at-requires-2 : goal.put_at-requires-2
put_at-requires-2 c = search second_fits

pub overflow_add-at-3 : goal.overflow_add-at-3
overflow_add-at-3 c = let a = c.args in
    omega (arith, sum_fits a.first.now a.second.now a.numbers.now a.buf.now a.at c.requires)

pub put_integers-requires : goal.put_integers-requires
put_integers-requires c = search integers-fit

pub returns : goal.returns
returns c = search all-stored
