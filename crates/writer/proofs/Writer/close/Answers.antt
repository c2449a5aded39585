-- `writer::Writer::close` meets its contract. Assumes nothing.
use Rattle.writer.proofs.Laws.{ready-long}
use Rattle.writer.proofs.Methods.{not-list, close-not, close-small, close-unready, close-refused, close-is}
use Rattle.writer.proofs.Writer.close.Goals as goal

pub returns-in_default : goal.returns-in_default
returns-in_default c = close-not c.args.self c.args.buf.now _ c.due_at.ensures _ (not-list _ c.in_default.not-List) _ c.not_due.ensures

pub returns-in-Err : goal.returns-in-Err
returns-in-Err c = search close-unready

pub returns-in-Err-list_rules : goal.returns-in-Err-list_rules
returns-in-Err-list_rules c = search (close-refused, ready-long) depth 8

pub put_segment-requires : goal.put_segment-requires
put_segment-requires c = search close-small

pub returns : goal.returns
returns c = search (close-is, ready-long) depth 8
