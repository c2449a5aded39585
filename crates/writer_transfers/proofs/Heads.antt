-- The fields of a head, written one after the other. Assumes nothing.
use Prim.Native.Nat.{ℕ, ◌+◌, ◌%◌, ◌^◌, ◌≤◌}
use mathlib.Core.Path.{◌≡◌, refl, sym, ap, ◌∙◌}
use mathlib.Core.List.{List, ◌++◌, append_assoc}
use native.Mathlib.Omega.{arith}
use lib.ListN.{length, take, length-append}
use lib.Seq.{length-take-le, take_at, take_all}
use Rattle.wire.specs.Bytes.{digits}
use Rattle.wire.specs.laws.Bytes.{length_digits}
use Rattle.writer_rules.proofs.Lent.{lent, lent-integer}

-- a call leaves y in the range lent to it: if y is ys, then ys follows the bytes before
put-after : (s y ys r : List ℕ) (at n : ℕ) → at ≤ length s → y ≡ ys → length ys ≡ n → take (at + n) (take at s ++ (y ++ r)) ≡ take at s ++ ys
put-after s y ys r at n h e l =
    rw (e, ← append_assoc) (take_at (take at s ++ ys) r (at + n) (omega (arith, length-append (take at s) ys, length-take-le at s h)))

module _ (s y r : List ℕ) (at : ℕ) where
  pub bytes_after : (b : List ℕ) (h : at + length b ≤ length s) → y ≡ b → take (at + length b) (take at s ++ (y ++ r)) ≡ take at s ++ b
  bytes_after b h e = put-after s y b r at (length b) (omega arith) e refl

  pub integer-after : (n v : ℕ) (h : at + n ≤ length s) → y ≡ digits (length (lent s at n)) (v % 256 ^ length (lent s at n))
      → take (at + n) (take at s ++ (y ++ r)) ≡ take at s ++ digits n (v % 256 ^ n)
  integer-after n v h e = put-after s y (digits n (v % 256 ^ n)) r at n (omega arith) (lent-integer s at n h v y e) (length_digits n (v % 256 ^ n))

pub all-put : (h f : List ℕ) (n : ℕ) → length h ≡ n → take n h ≡ f → h ≡ f
all-put h f n l e = sym (take_all n h (omega arith)) ∙ e

pub first-bytes : (h b : List ℕ) (n : ℕ) → take (0 + length b) h ≡ b → length b ≡ n → take n h ≡ b
first-bytes h b n e l = let k : 0 + length b ≡ n = omega arith in ap (λ i. take i h) (sym k) ∙ e

-- h is g with one field more, and f is the bytes of g before that field
module _ (h g f : List ℕ) (n m : ℕ) where
  pub then-bytes : (b : List ℕ) → take (m + length b) h ≡ take m g ++ b → m + length b ≡ n → take m g ≡ f → take n h ≡ f ++ b
  then-bytes b e l p = ap (λ k. take k h) (sym l) ∙ e ∙ ap (λ z. z ++ b) p

  pub then-integer : (w u v : ℕ) → take n h ≡ take m g ++ digits w u → u ≡ v → take m g ≡ f → take n h ≡ f ++ digits w v
  then-integer w u v e l p = e ∙ rw (p, l)
