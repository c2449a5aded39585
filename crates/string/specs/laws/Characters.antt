-- The first character that is not printable is inside the text, or just past it
use Rattle.std.specs.Prelude.{ℕ, suc, ◌+◌, ◌≤◌, Bool, true, false, List, [], ◌∷◌, length}
use Rattle.std.proofs.Common.{arith}
use Rattle.wire.specs.Bytes.{pick}
use Rattle.wire.specs.Fields.{blob}
use Rattle.string.specs.Characters.{is_printable, unprintable}

pub unprintable-le : (s : List ℕ) → unprintable s ≤ length s
unfolding unprintable
unprintable-le [] = omega arith
unprintable-le (x ∷ s) = go (is_printable x) (unprintable-le s)
  where
    go : (t : Bool) → unprintable s ≤ length s → pick t (suc (unprintable s)) 0 ≤ suc (length s)
    go true h = omega arith
    go false h = omega arith

pub unprintable-within : (n at : ℕ) (b : List ℕ) → at + unprintable b ≤ at + length ((blob n).write b)
unfolding blob
unprintable-within n at b = omega (arith, unprintable-le b)
