-- `writer::steps::put_element` meets its contract. Assumes nothing.
use native.Mathlib.Omega.{arith}
use Rattle.writer.proofs.Settling.{sane-inv, element-refused, element-done}
use Rattle.writer.proofs.steps.put_element.Goals as goal

pub overflow_add-count : goal.overflow_add-count
overflow_add-count c = omega (arith, (sane-inv c.args.writer c.requires).1)

pub returns-in-Err : goal.returns-in-Err
returns-in-Err c = search element-refused

pub returns-in-Ok : goal.returns-in-Ok
returns-in-Ok c = search element-done
