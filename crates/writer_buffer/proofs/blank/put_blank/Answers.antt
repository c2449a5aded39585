-- `writer_buffer::blank::put_blank` meets its contract. Assumes nothing.
use Rattle.std.proofs.Common.{rules}
use native.Mathlib.Omega.{arith}
use Rattle.transaction.specs.Slots.{signature_width}
use Rattle.writer_buffer.proofs.Blanks.{blank-back}
use Rattle.writer_buffer.proofs.blank.put_blank.Goals as goal

pub put_zeros-requires : goal.put_zeros-requires
unfolding signature_width
put_zeros-requires c = search rules

pub returns : goal.returns
unfolding signature_width
returns c = let a = c.args in record {
  value = omega arith;
  buf_after = blank-back a.buf.now _ _ _ a.at a.code a.count (omega arith) (omega arith) (omega arith)
      c.put_u32.ensures c.put_u32-2.ensures c.put_zeros.ensures;
}
