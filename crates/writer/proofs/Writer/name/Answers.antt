-- `writer::Writer::name` meets its contract. Assumes nothing.
use Rattle.writer.proofs.Laws.{readied}
use Rattle.writer.proofs.Naming.{field-unready, field-small}
use Rattle.writer.proofs.Methods.{name-refused, name-is}
use Rattle.writer.proofs.Writer.name.Goals as goal

pub returns-in-Err : goal.returns-in-Err
returns-in-Err c = search field-unready

pub returns-in-Err-text_rules : goal.returns-in-Err-text_rules
returns-in-Err-text_rules c = search (name-refused, readied) depth 8

pub put_segment-requires : goal.put_segment-requires
put_segment-requires c = search (field-small, readied) depth 8

pub returns : goal.returns
returns c = search (name-is, readied) depth 8
