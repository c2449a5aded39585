-- `writer_buffer::put_integers` meets its contract. Assumes nothing.
use Prim.Native.Nat.{◌+◌, ◌≤◌}
use mathlib.Core.Path.{ap}
use native.Mathlib.Omega.{arith}
use lib.ListN.{length, get_or}
use Rattle.writer_buffer.proofs.Numbering.{integers-end, integers-on}
use Rattle.writer_buffer.proofs.Stores.{length-integer}
use Rattle.writer_buffer.proofs.put_integers.Goals as goal

pub loop-number-preserved : goal.loop-number-preserved
loop-number-preserved c =
    let l = c.loop-number in
    let inv = l.invariant in
    let fits : l.at + 4 ≤ length l.buf = omega (arith, inv.0, inv.1, c.loop-number-test.true, c.requires) in (
      omega (arith, inv.0, ap length c.put_u32.ensures, length-integer l.buf l.at (get_or c.args.numbers.now l.number-index 0)),
      omega (arith, inv.1),
      integers-on c.args.numbers.now l.number-index l.at l.buf _ inv.2 c.type_inv.numbers c.loop-number-test.true fits _ c.put_u32.ensures,
    )

pub returns : goal.returns
returns c = let l = c.loop-number in
    integers-end c.args.numbers.now l.number-index l.at _ _ l.invariant.2 (omega arith)
