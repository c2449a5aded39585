-- `writer::Writer::add_input` meets its contract. Assumes nothing.
use Rattle.writer.proofs.Laws.{readied}
use Rattle.writer.proofs.Naming.{element-unready, element-sane}
use Rattle.writer.proofs.Methods.{input-refused, input-is}
use Rattle.writer.proofs.Writer.add_input.Goals as goal

pub returns-in-Err : goal.returns-in-Err
returns-in-Err c = search element-unready

pub returns-in-Err-rules : goal.returns-in-Err-rules
returns-in-Err-rules c = search (input-refused, readied) depth 8

pub put_element-requires : goal.put_element-requires
put_element-requires c = search (element-sane, readied) depth 8

pub returns : goal.returns
returns c = search (input-is, readied) depth 8
