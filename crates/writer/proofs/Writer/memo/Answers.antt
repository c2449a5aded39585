-- `writer::Writer::memo` meets its contract. Assumes nothing.
use Prim.Native.Nat.{◌<◌, ◌^◌}
use native.Mathlib.Omega.{arith}
use Rattle.transaction.specs.Answer.{memo_most}
use Rattle.writer.proofs.Laws.{readied}
use Rattle.writer.proofs.Naming.{field-unready, field-small}
use Rattle.writer.proofs.Methods.{memo-refused, memo-is}
use Rattle.writer.proofs.Writer.memo.Goals as goal

pub returns-in-Err : goal.returns-in-Err
returns-in-Err c = search field-unready

pub returns-in-Err-memo_rules : goal.returns-in-Err-memo_rules
returns-in-Err-memo_rules c = search (memo-refused, readied) depth 8

pub put_segment-requires : goal.put_segment-requires
put_segment-requires c = search (field-small, readied) depth 8

pub returns : goal.returns
returns c = let k : memo_most < 256 ^ 4 = omega arith in search (memo-is, readied, k) depth 8
