-- The invariant: the bytes from i on are written, and rest is what is left of the integer. Assumes nothing.
use Prim.Native.Nat.{◌-◌, ◌/◌, ◌%◌, ◌^◌}
use mathlib.Core.Path.{◌≡◌}
use mathlib.Core.List.{◌++◌}
use lib.ListN.{length, take}
use Rattle.wire.specs.Bytes.{digits}
use Rattle.wire.proofs.put_integer.Given as goal

abbrev pub invariant-loop-i : goal.invariant-loop-i
invariant-loop-i l = (l.rest ≡ l.value / 256 ^ (length l.initial.room - l.i))
    × (l.room ≡ take l.i l.initial.room ++ digits (length l.initial.room - l.i) (l.value % 256 ^ (length l.initial.room - l.i)))
