-- `writer::Writer::add_operation` meets its contract. Assumes nothing.
use Rattle.writer_rules.specs.code.Elements.{integers_bytes}
use Rattle.writer.proofs.Laws.{readied}
use Rattle.writer.proofs.Naming.{element-unready, element-sane}
use Rattle.writer.proofs.Methods.{operation-refused, operation-is}
use Rattle.writer.proofs.Writer.add_operation.Goals as goal

pub returns-in-Err : goal.returns-in-Err
unfolding integers_bytes
returns-in-Err c = search element-unready

pub returns-in-Err-operation_rules : goal.returns-in-Err-operation_rules
unfolding integers_bytes
returns-in-Err-operation_rules c = search (operation-refused, readied) depth 8

pub put_element-requires : goal.put_element-requires
unfolding integers_bytes
put_element-requires c = search (element-sane, readied) depth 8

pub returns : goal.returns
unfolding integers_bytes
returns c = search (operation-is, readied) depth 8
