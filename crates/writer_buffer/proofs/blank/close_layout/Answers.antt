-- `writer_buffer::blank::close_layout` meets its contract. Assumes nothing.
use mathlib.Core.Path.{ap, ◌∙◌}
use Rattle.wire.proofs.Trying.{passed-on}
use Rattle.writer_buffer.proofs.Ending.{close-room, close-done, close-full}
use Rattle.writer_buffer.proofs.blank.close_layout.Goals as goal

pub put_closing-requires : goal.put_closing-requires
put_closing-requires c = let a = c.args in
    close-room a.layout a.buf.now a.at _ c.most_in-limit.ensures _ c.closing_end.ensures c.requires.1 _ c.in_ok-end.was

pub returns-in_err-end : goal.returns-in_err-end
returns-in_err-end c = λ most ws v e.
    let a = c.args in
    ap (λ r. (r, a.buf.now)) (passed-on _ _ c.from_residual.ensures)
    ∙ close-full a.layout a.buf.now a.at _ c.most_in-limit.ensures _ c.closing_end.ensures _ c.in_err-end.was most ws v e

pub returns : goal.returns
returns c = let a = c.args in
    close-done a.layout a.buf.now a.at _ c.most_in-limit.ensures _ c.closing_end.ensures _ c.in_ok-end.was _ c.put_closing.ensures
