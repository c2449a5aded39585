use mathlib.Core.Path.{◌≡◌}
use native.Mathlib.Nat.{sub-zero}
use native.Mathlib.Omega.{arith}
use lib.ListN.{length}
use Rattle.wire.proofs.Bytes.{integer-none, integer-left, integer-more}
use Rattle.wire.proofs.put_integer.Goals as goal

pub loop-i-init : goal.loop-i-init
loop-i-init c = integer-none c.args.room.now c.args.value

pub loop-i-preserved : goal.loop-i-preserved
loop-i-preserved c =
    let a = c.args in
    let s = a.room.now in
    let l = c.loop-i in (
      rw l.invariant.0 (integer-left a.value (length s) l.i (omega arith) (omega arith)),
      rw (l.invariant.1, l.invariant.0) (integer-more s a.value l.i (omega arith) (omega arith)),
    )

pub returns : goal.returns
returns c = let e : c.loop-i.i ≡ 0 = omega arith in rw (e, sub-zero) at c.loop-i.invariant.1
