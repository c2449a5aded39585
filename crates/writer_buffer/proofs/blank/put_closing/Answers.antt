-- `writer_buffer::blank::put_closing` meets its contract. Assumes nothing.
use Rattle.writer_buffer.proofs.Loops.{closing-room, closing-written}
use Rattle.writer_buffer.proofs.blank.put_closing.Goals as goal

pub put_blanks-requires : goal.put_blanks-requires
put_blanks-requires c = let a = c.args in
    closing-room a.layout a.buf.now a.at c.requires _ c.put_u32.ensures _ c.first_wanting-from.ensures

pub returns : goal.returns
returns c = let a = c.args in
    closing-written a.layout a.buf.now a.at c.requires _ c.put_u32.ensures _ c.first_wanting-from.ensures _
    c.put_blanks.ensures
