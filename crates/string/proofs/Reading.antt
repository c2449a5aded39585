-- Laws for the readers of strings, in the form of those of wire's proofs/Reading. Assumes nothing.
use Rattle.std.specs.Prelude.{Ok, Err, Result, Option, Some, None, cond, position}
use Rattle.std.specs.Option.{unwrap_or}
use Rattle.std.specs.List.{position_or_len}
use Prim.Native.Nat.{ℕ, suc, ◌+◌, ◌-◌, ◌^◌, ◌<◌}
use mathlib.Core.Path.{◌≡◌, refl, ap, ◌∙◌}
use mathlib.Core.Bool.{Bool, true, false, not}
use mathlib.Core.Logic.{◌⊎◌, inl, inr}
use mathlib.Core.List.{List, [], ◌∷◌}
use native.Mathlib.Omega.{arith}
use lib.ListN.{length, drop, length-take, length-drop}
use lib.Dec.{ltb, leb, eqb}
use borrow.Author.Tests.{lt-ltb, le-ltb, lt-leb, ltb-false, eq-eqb, ne_eqb}
use Rattle.wire.specs.declared.Refusal.{Refusal}
use Rattle.wire.specs.Bytes.{pick, between}
use Rattle.wire.specs.Numbers.{by, not_printable}
use Rattle.wire.specs.Fields.{blob}
use Rattle.wire.specs.code.Answer.{ended}
use Rattle.wire.proofs.Bytes.{Slice}
use Rattle.wire.proofs.Trying.{passed-on}
use Rattle.wire.proofs.Reading as W
use Rattle.string.specs.Strings.{string}
use Rattle.string.specs.Characters.{is_printable, unprintable}
use Rattle.string.specs.laws.Characters.{unprintable-le}

module _ {R : Type 0} (most : ℕ) (s : List ℕ) (at : ℕ) (z : R) (stop : Refusal → R) (go : List ℕ → ℕ → R) (x : Result ℕ Refusal) where
  pub on-string : (n : ℕ) → x ≡ ended (string 4 most) s at → x ≡ Ok n → ((v : List ℕ) → z ≡ go v n) → z ≡ (string 4 most).parse s at stop go
  on-string = W.ends (string 4 most) R s at z stop go x

  pub on-string-refused : (e : Refusal) → x ≡ ended (string 4 most) s at → x ≡ Err e → z ≡ stop e → z ≡ (string 4 most).parse s at stop go
  on-string-refused = W.stops (string 4 most) R s at z stop go x

-- the first byte that the code's test finds is the first character that is not printable
abbrev pub is_unprintable : ℕ → Bool
is_unprintable x = not (is_printable x)

unprintable-first : (s : List ℕ) → position_or_len is_unprintable s ≡ unprintable s
unfolding unprintable
unprintable-first [] = refl
unprintable-first (x ∷ s) = turn (is_printable x) (unprintable-first s)
  where
    turn : (t : Bool) → position_or_len is_unprintable s ≡ unprintable s
        → cond (not (not t)) (1 + position_or_len is_unprintable s) 0 ≡ pick t (suc (unprintable s)) 0
    turn true e = omega (arith, e)
    turn false e = refl

pub unprintable-found : (s : List ℕ) (r : Option ℕ) → r ≡ position is_unprintable s → unwrap_or r (length s) ≡ unprintable s
unprintable-found s r h = rw (h, unprintable-first s) (cases (ltb (unprintable s) (length s)) refl)
  where
    cases : (t : Bool) → ltb (unprintable s) (length s) ≡ t → unwrap_or (cond t (Some (unprintable s)) None) (length s) ≡ unprintable s
    cases true e = refl
    cases false e = omega (arith, ltb-false (unprintable s) (length s) e, unprintable-le s)

-- a length that is 0 or too large; the format tests for each by itself
pub if-length-wrong : {R : Type 0} (n most : ℕ) (z x y : R) → (n ≡ 0) ⊎ ((n ≡ 0 → ⊥) × (most < n)) → z ≡ y → z ≡ pick (ltb 0 n) (pick (leb n most) x y) y
if-length-wrong n most z x y (inl h) e = rw (le-ltb 0 n (omega arith)) e
if-length-wrong n most z x y (inr (h, k)) e = rw (lt-ltb 0 n (omega arith), lt-leb n most k) e

-- the characters of a body that is all there, after the code has checked them: u is the index of the first that is not printable
module _ (k : ℕ) (s : List ℕ) (at : ℕ) (z X : Result ℕ Refusal) (x : Result ℕ Refusal) (n : ℕ) (b : List ℕ) (u : ℕ)
    (p : x ≡ ended (blob k) s at) (q : x ≡ Ok n) (c : Slice s) (e : b ≡ between at n s) (d : u ≡ unprintable b) where
  pub if-printable : u ≡ k → z ≡ X
      → z ≡ pick (eqb (unprintable (between at n s)) (length (between at n s))) X (Err (by not_printable (at + unprintable (between at n s))))
  if-printable h i = rw (← e, ← d, h, e, W.part-long k s at x n p q c, eq-eqb k k refl) i

  pub if-unprintable : (u ≡ k → ⊥) → (f : Refusal) → f ≡ by not_printable (at + u) → z ≡ Err f
      → z ≡ pick (eqb (unprintable (between at n s)) (length (between at n s))) X (Err (by not_printable (at + unprintable (between at n s))))
  if-unprintable h f g i = rw (W.part-long k s at x n p q c, ← e, ← d, ne_eqb u k h) (i ∙ ap Err g)

-- the offset of that character fits in 64 bits
pub unprintable-fits : (s b : List ℕ) (a e u : ℕ) → b ≡ between a e s → u ≡ unprintable b → length s < 2 ^ 64 → a < 2 ^ 64 → a + u < 2 ^ 64
unprintable-fits s b a e u h k i j = omega (arith, k, unprintable-le b, ap length h, length-take (e - a) (drop a s), length-drop a s)

pub ruleset reading = (W.on_value, W.on-integer-refused, passed-on, W.on-part, W.on-part-refused, W.tests, W.part-made)
