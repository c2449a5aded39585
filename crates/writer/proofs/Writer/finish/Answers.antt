-- `writer::Writer::finish` meets its contract. Assumes nothing.
use native.Mathlib.Omega.{arith}
use Rattle.transaction.specs.Answer.{memo_most}
use Rattle.writer.proofs.Methods.{finish-not, finish-small, finish-refused, finish-done}
use Rattle.writer.proofs.Writer.finish.Goals as goal

pub returns-then-not-end_at : goal.returns-then-not-end_at
returns-then-not-end_at c = let a = c.args in
    finish-not a.self a.buf.now _ c.end_at.ensures memo_most c.if-not-end_at.true _
    c.not_due.ensures

pub overflow_add-phase : goal.overflow_add-phase
overflow_add-phase c = let a = c.args in
    omega (arith, finish-small a.self a.buf.now _ c.end_at.ensures c.if-not-end_at.false)

pub returns-in-Err : goal.returns-in-Err
returns-in-Err c = let a = c.args in
    finish-refused a.self a.buf.now _ c.end_at.ensures
    c.if-not-end_at.false memo_most _ _
    c.append.ensures _ c.in-Err.is _
    c.refused.ensures

pub returns-in-Ok : goal.returns-in-Ok
returns-in-Ok c = let a = c.args in
    finish-done a.self a.buf.now _ c.end_at.ensures
    c.if-not-end_at.false memo_most _ _
    c.append.ensures _ c.in-Ok.is _ c.stored.ensures
