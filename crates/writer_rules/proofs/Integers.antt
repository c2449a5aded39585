-- Slices of integers of 4 bytes. Assumes nothing.
use Prim.Native.Nat.{ℕ, ◌*◌}
use mathlib.Core.Path.{◌≡◌, refl}
use mathlib.Core.List.{List, [], ◌∷◌}
use native.Mathlib.Omega.{arith}
use lib.ListN.{length, get_or, length-append}
use Rattle.wire.specs.Bytes.{digits}
use Rattle.wire.specs.laws.Bytes.{length_digits}
use Rattle.writer_rules.specs.code.Elements.{integers_bytes}
use mir.Val.{Fits}
use mir.Syntax.{w32}

-- each integer of the slice fits 4 bytes: what the rule for a slice of them gives
abbrev pub Words : List ℕ → Type 0
Words l = (j : ℕ) → Fits w32 (get_or l j 0)

pub length-integers : (l : List ℕ) → length (integers_bytes l) ≡ 4 * length l
unfolding integers_bytes
length-integers [] = refl
length-integers (n ∷ l) = omega (arith, length-append (digits 4 n) (integers_bytes l), length_digits 4 n, length-integers l)
