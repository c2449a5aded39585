-- Two byte strings compared from an index on, byte by byte and block by block; what a slot holds. Assumes nothing.
use Rattle.std.proofs.Common.{min, Bor, Option, Some, None}
use Rattle.std.proofs.Math.Nat.{add-mod_left, mod-le, mod-eq_of_lt}
use Rattle.std.specs.Option.{unwrap_or}
use Rattle.std.specs.Slice.{IsGetRangeResult}
use Prim.Native.Nat.{ℕ, ◌+◌, ◌-◌, ◌%◌, ◌≤◌, ◌<◌}
use mathlib.Core.Path.{◌≡◌, refl, sym, ap, ap₂, ◌∙◌}
use mathlib.Core.Bool.{Bool, true, false, ◌&&◌}
use mathlib.Core.Logic.{◌⊎◌, inl, inr}
use mathlib.Core.List.{List, [], ◌∷◌, ◌++◌}
use native.Mathlib.Decide.{dec_le}
use native.Mathlib.Omega.{arith}
use native.Mathlib.Numerals.{add-one}
use lib.ListN.{length, take, drop, get_or, drop_of_length-le, length-append, length-drop, length-take, replicate, length-replicate}
use lib.Seq.{drop-cons, drop-append-add, take_all}
use lib.Dec.{eqb}
use borrow.Author.Tests.{ne_eqb}
use Rattle.wire.proofs.Bytes.{found}
use Rattle.transaction.specs.Slots.{signature_width, blank, slot_at}
use Rattle.draft_slots.specs.Joining.{same}
use Rattle.draft_slots.proofs.Comparing.{same-eq, same-no}

and_assoc : (x y z : Bool) → ((x && y) && z) ≡ (x && (y && z))
and_assoc true y z = refl
and_assoc false y z = refl

and-true : (x : Bool) → (x && true) ≡ x
and-true true = refl
and-true false = refl

-- ---- byte by byte, x being the result so far

-- whether a and b are equal from index i on; opaque, so that `search` reads a, b and i off it
unfoldable pub same_from : List ℕ → List ℕ → ℕ → Bool
same_from a b i = same (drop i a) (drop i b)

pub same-all : (a b : List ℕ) → (true && same_from a b 0) ≡ same a b
unfolding same_from
same-all a b = refl

module _ (a b : List ℕ) (i : ℕ) (x y : Bool) (w : (x && same_from a b i) ≡ y) (l : length a ≡ length b) where
  pub same-on : i < length a → ((x && eqb (get_or a i 0) (get_or b i 0)) && same_from a b (i + 1)) ≡ y
  unfolding same same_from
  same-on h =
      let k : i < length b = omega arith in
      and_assoc x (eqb (get_or a i 0) (get_or b i 0)) _ ∙ sym (rw (add-one, drop-cons a i 0, drop-cons b i 0)) ∙ w

  pub same_end : length a ≤ i → x ≡ y
  unfolding same same_from
  same_end h =
      let k : length b ≤ i = omega arith in
      sym (rw (drop_of_length-le a, drop_of_length-le b) (and-true x)) ∙ w

-- ---- block by block

same-append : (x y u v : List ℕ) → length x ≡ length y → same (x ++ u) (y ++ v) ≡ (same x y && same u v)
unfolding same
same-append [] [] u v e = refl
same-append [] (q ∷ y) u v e = absurd (omega arith)
same-append (p ∷ x) [] u v e = absurd (omega arith)
same-append (p ∷ x) (q ∷ y) u v e =
    let f : length x ≡ length y = omega arith in
    ap (λ (t : Bool). eqb p q && t) (same-append x y u v f) ∙ sym (and_assoc (eqb p q) (same x y) (same u v))

-- r and s are left: the blocks x and y, of which t says whether they are equal, and behind them u and v
module _ (r s x y u v : List ℕ) (z t : Bool) (w : same r s ≡ z) (k : length r ≡ length s) (a : r ≡ x ++ u) (b : s ≡ y ++ v) (l : length x ≡ length y)
    (e : t ≡ same x y) where
  split : (t && same u v) ≡ z
  split = sym (rw (a, b, e) (same-append x y u v l)) ∙ w

  pub block_same : t ≡ true → (same u v ≡ z) × (length u ≡ length v)
  block_same h = (sym (ap (λ (t : Bool). t && same u v) h) ∙ split, omega (arith, ap length a, ap length b, length-append x u, length-append y v))

  pub block-differs : t ≡ false → false ≡ z
  block-differs h = sym (ap (λ (t : Bool). t && same u v) h) ∙ split

-- what of r no whole block takes
abbrev pub rest_of : List ℕ → List ℕ
rest_of r = drop (length r - length r % 64) r

-- the first block taken off, the rest is the same
pub rest-on : (r x u : List ℕ) → r ≡ x ++ u → length x ≡ 64 → rest_of u ≡ rest_of r
rest-on r x u e l =
    let n : length r ≡ 64 + length u = ap length e ∙ length-append x u ∙ ap (λ (k : ℕ). k + length u) l in
    let m : length r % 64 ≡ length u % 64 = ap (λ (k : ℕ). k % 64) n ∙ add-mod_left 64 (length u) in
    let k : length r - length r % 64 ≡ length x + (length u - length u % 64) = omega (arith, n, m, l, mod-le (length u) 64) in
    sym (rw (k, e) (drop-append-add x u (length u - length u % 64)))

pub rest_alike : (r s : List ℕ) → length r ≡ length s → length (rest_of r) ≡ length (rest_of s)
rest_alike r s k = length-drop _ r ∙ ap (λ (n : ℕ). n - (n - n % 64)) k ∙ sym (length-drop _ s)

-- r and s are the rests once no whole block is left
pub same_rest : (r s u v : List ℕ) (z t : Bool) → same r s ≡ z → length r ≡ length s → rest_of r ≡ u → rest_of s ≡ v → length r < 64 → t ≡ same u v → t ≡ z
same_rest r s u v z t w k a b h e = e ∙ ap₂ same (sym a ∙ whole r h) (sym b ∙ whole s (omega arith)) ∙ w
  where
    whole : (l : List ℕ) → length l < 64 → rest_of l ≡ l
    whole l h = let q : length l - length l % 64 ≡ 0 = omega (arith, mod-eq_of_lt h) in rw q refl

-- ---- the bytes of a slot, and what cannot be in one

pub differ-length : (a b : List ℕ) → (length a ≡ length b → ⊥) → false ≡ same a b
differ-length a b n = sym (same-no a b (λ e. n (ap length e)))

-- the slot as the code cuts it out: the first 65 bytes of what follows `at`
module _ (s : List ℕ) (at : ℕ) where
  rest : (o : Option (Bor (List ℕ))) (d : Bor (List ℕ)) → IsGetRangeResult s at (length s) o → d.now ≡ [] → (unwrap_or o d).now ≡ drop at s
  rest None d g e = e ∙ sym (drop_of_length-le s (past g.0))
    where
      past : (length s < at) ⊎ (length s < length s) → length s ≤ at
      past (inl h) = omega arith
      past (inr h) = absurd (omega arith)
  rest (Some x) d g e = g.0.2 ∙ take_all (length s - at) (drop at s) (omega (arith, length-drop at s))

  pub slot-cut : (o : Option (Bor (List ℕ))) (d x : Bor (List ℕ)) (n : ℕ) → IsGetRangeResult s at (length s) o → d.now ≡ [] → x ≡ unwrap_or o d
      → n ≡ min (length x.now) 65
      → take n x.now ≡ slot_at s at
  unfolding slot_at signature_width
  slot-cut o d x n g e h k = rw (k, h, rest o d g e) (cut (drop at s) (dec_le (length (drop at s)) 65))
    where
      cut : (l : List ℕ) → Dec (length l ≤ 65) → take (min (length l) 65) l ≡ take 65 l
      cut l (yes h) = let e : min (length l) 65 ≡ length l = omega arith in rw e (take_all (length l) l (omega arith) ∙ sym (take_all 65 l h))
      cut l (no h) = let e : min (length l) 65 ≡ 65 = omega arith in rw e

not-blank : (s : List ℕ) → (length s ≡ 65 → ⊥) → false ≡ same s blank
unfolding blank signature_width
not-blank s n = differ-length s (replicate 65 0) (λ e. n (e ∙ length-replicate {A = ℕ} 65 0))

pub blank-else : (s : List ℕ) → (length s ≡ 65 → ⊥) → eqb (length s) 65 ≡ same s blank
blank-else s n = ne_eqb (length s) 65 n ∙ not-blank s n

pub blank-test : (s : List ℕ) (r : Bool) → r ≡ same s (replicate 65 0) → r ≡ same s blank
unfolding blank signature_width
blank-test s r e = e

-- an empty slot is complete: its 65 bytes are inside the draft
pub blank-fits : (d : List ℕ) (p : ℕ) (x : List ℕ) (r : Bool) → x ≡ slot_at d p → r ≡ same x blank → r ≡ true → p + 65 ≤ length d
unfolding slot_at blank signature_width
blank-fits d p x r w e t =
    let q : take 65 (drop p d) ≡ replicate 65 0 = sym w ∙ same-eq x (replicate 65 0) (found e t) in
    omega (arith, simp (length-take, length-drop, length-replicate {A = ℕ}) at (ap length q))

pub ruleset blanks = (blank-else, blank-test)
