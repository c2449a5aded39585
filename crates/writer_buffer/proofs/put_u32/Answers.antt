-- `writer_buffer::put_u32` meets its contract. Assumes nothing.
use native.Mathlib.Omega.{arith}
use Rattle.writer_buffer.proofs.Stores.{not_there, integer-there}
use Rattle.writer_buffer.proofs.put_u32.Goals as goal

pub returns-then-buf-at-ge4 : goal.returns-then-buf-at-ge4
returns-then-buf-at-ge4 c = let a = c.args in
    integer-there a.buf.now a.at a.value (omega arith) _ c.put_integer.ensures

pub returns-else-at-buf : goal.returns-else-at-buf
returns-else-at-buf c = let a = c.args in
    not_there a.buf.now a.at a.value (omega arith)
