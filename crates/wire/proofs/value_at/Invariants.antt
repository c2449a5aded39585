-- The invariant: i bytes are read, and total is the integer that they encode. Assumes nothing.
use mathlib.Core.Path.{◌≡◌}
use lib.ListN.{take, drop}
use Rattle.wire.specs.Bytes.{value}
use Rattle.wire.proofs.value_at.Given as goal

abbrev pub invariant-loop-i : goal.invariant-loop-i
invariant-loop-i l = l.total ≡ value (take l.i (drop l.at l.s))
