-- What a call leaves in a range lent to it. Assumes nothing.
use Prim.Native.Nat.{ℕ, ◌+◌, ◌-◌, ◌%◌, ◌^◌, ◌≤◌}
use mathlib.Core.Path.{◌≡◌, ap, ◌∙◌}
use mathlib.Core.List.{List}
use native.Mathlib.Omega.{arith}
use lib.ListN.{length, take, drop, length-drop}
use lib.Seq.{length-take-le}
use Rattle.wire.specs.Bytes.{digits}

-- n bytes of s are lent from `at` on
abbrev pub lent : List ℕ → ℕ → ℕ → List ℕ
lent s at n = take (at + n - at) (drop at s)

module _ (s : List ℕ) (at n : ℕ) (h : at + n ≤ length s) where
  pub length-lent : length (lent s at n) ≡ n
  length-lent = let d : at + n - at ≡ n = omega arith in rw d (length-take-le n (drop at s) (rw length-drop (omega arith)))

  -- y is an integer of n bytes
  pub lent-integer : (v : ℕ) (y : List ℕ) → y ≡ digits (length (lent s at n)) (v % 256 ^ length (lent s at n)) → y ≡ digits n (v % 256 ^ n)
  lent-integer v y e = e ∙ ap (λ k. digits k (v % 256 ^ k)) length-lent
