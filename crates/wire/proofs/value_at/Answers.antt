use native.Mathlib.Omega.{arith}
use Prim.Native.Nat.{◌+◌}
use mathlib.Core.Path.{◌≡◌, refl}
use Rattle.wire.specs.Bytes.{value}
use Rattle.wire.proofs.Bytes.{value-more, value_room}
use Rattle.wire.proofs.value_at.Goals as goal

pub loop-i-init : goal.loop-i-init
unfolding value
loop-i-init c = refl

pub overflow_mul-total : goal.overflow_mul-total
overflow_mul-total c = let a = c.args in omega
    (arith, value_room a.s.now a.at c.type_inv.s c.loop-i.i (omega arith) (omega arith))

pub overflow_add-total : goal.overflow_add-total
overflow_add-total c = let a = c.args in omega (
  arith,
  c.type_inv.s (a.at + c.loop-i.i),
  value_room a.s.now a.at c.type_inv.s c.loop-i.i (omega arith)
      (omega arith),
)

pub loop-i-preserved : goal.loop-i-preserved
loop-i-preserved c = let a = c.args in cc (value-more a.s.now a.at c.loop-i.i (omega arith))

pub returns : goal.returns
returns c = let e : c.loop-i.i ≡ c.args.width = omega arith in cc
