-- The invariant: the comparison from index i on gives the answer of the whole. Assumes nothing.
use mathlib.Core.Path.{◌≡◌}
use Rattle.wire.specs.Bytes.{below}
use Rattle.wire.proofs.Bytes.{below_from}
use Rattle.wire.proofs.is_below.Given as goal

abbrev pub invariant-loop-i : goal.invariant-loop-i
invariant-loop-i l = below_from l.a l.b l.i ≡ below l.a l.b
