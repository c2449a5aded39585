-- `writer_buffer::store` meets its contract. Assumes nothing.
use mathlib.Core.Path.{ap, ◌∙◌}
use native.Mathlib.Omega.{arith}
use Rattle.wire.proofs.Trying.{passed-on}
use Rattle.writer_buffer.proofs.Stores.{room-refuses, all_done}
use Rattle.writer_buffer.proofs.Numbering.{length-all}
use Rattle.writer_buffer.proofs.store.Goals as goal

pub returns-in_err-room_of : goal.returns-in_err-room_of
returns-in_err-room_of c = let a = c.args in
    ap (λ r. (r, a.buf.now)) (passed-on _ _ c.from_residual.ensures)
    ∙ room-refuses _ a.buf.now _ c.room_of.ensures _ _ _ c.in_err-room_of.was

pub returns : goal.returns
returns c = let a = c.args in
    all_done _ a.buf.now _ c.room_of.ensures _ _ c.in_ok-room_of.was _ (omega (arith, length-all a.first.now a.second.now a.numbers.now)) _ c.put_all.ensures
