-- `writer::Writer::add_initial_state` meets its contract. Assumes nothing.
use Rattle.writer_rules.specs.code.Elements.{integers_bytes}
use Rattle.writer.proofs.Laws.{readied}
use Rattle.writer.proofs.Naming.{element-unready, element-sane}
use Rattle.writer.proofs.Methods.{state-refused, state-is}
use Rattle.writer.proofs.Writer.add_initial_state.Goals as goal

pub returns-in-Err : goal.returns-in-Err
unfolding integers_bytes
returns-in-Err c = search element-unready

pub returns-in-Err-state_rules : goal.returns-in-Err-state_rules
unfolding integers_bytes
returns-in-Err-state_rules c = search (state-refused, readied) depth 8

pub put_element-requires : goal.put_element-requires
unfolding integers_bytes
put_element-requires c = search (element-sane, readied) depth 8

pub returns : goal.returns
unfolding integers_bytes
returns c = search (state-is, readied) depth 8
