-- `phone::word` meets its contract. Assumes nothing.
use mathlib.Core.Path.{ap}
use Prim.Native.Nat.{ℕ, ◌+◌, ◌*◌}
use native.Mathlib.Omega.{arith}
use Rattle.wire.proofs.Numbers.{number-range}
use Rattle.phone.proofs.word.Goals as goal

pub overflow_add-result : goal.overflow_add-result
overflow_add-result c = omega (arith, c.from.ensures, (number-range c.args.refusal.rule).1, c.requires)

pub returns : goal.returns
returns c = ap (λ (n : ℕ). n * 4294967296 + c.args.refusal.place) c.from.ensures
