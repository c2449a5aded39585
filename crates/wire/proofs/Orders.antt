-- The lists of a format in plain words: a list whose elements are each read given the bytes of the one before is good exactly if every element is
-- good and every two adjacent elements are in order. Assumes nothing.
use mathlib.Core.Path.{◌≡◌, refl, sym, ap, ap₂, ◌∙◌}
use mathlib.Core.Logic.Iff
use mathlib.Core.Logic.{◌↔◌, ◌⊎◌, inl, inr, ⊎_elim}
use Prim.Native.Nat.{ℕ, suc, ◌^◌, ◌<◌}
use native.Mathlib.Nat.{le_refl}
use native.Mathlib.Omega.{arith}
use mathlib.Core.Bool.{Bool, true, false, not}
use mathlib.Core.List.{List, [], ◌∷◌, ◌++◌, map}
use lib.ListN.{length, take}
use lib.Seq.{take_at}
use lib.Dec.{ltb, eqb}
use borrow.Author.Tests.{ltb-true, ltb-false, lt-ltb, le-ltb, eqb-true, eqb-false, eq-eqb, not-true}
use Rattle.wire.specs.Bytes.{pick, digits, below}
use Rattle.wire.specs.laws.Bytes.{length_digits}
use Rattle.wire.specs.Numbers.{ReadingRule}
use Rattle.wire.specs.Format.{Format}
use Rattle.wire.specs.Fields.{integer, constant}
use Rattle.wire.specs.Sequence.{guard, tag, items}
use Rattle.wire.specs.Series.{left, above, not_below, series, count_prefixed}
use Rattle.wire.specs.Parsers.{Chain, listed}
use Rattle.wire.specs.code.Order.{key_below}
use Rattle.wire.specs.Orders.{All, OneOf, Adjacent, Ascending}
use Rattle.wire.proofs.Bytes.{below-empty, below-digits}

-- ---- tests, and the facts that they decide

pub test-lt : (a b : ℕ) → (ltb a b ≡ true) ↔ (a < b)
test-lt a b = (ltb-true a b, lt-ltb a b)

pub test-not : (t : Bool) → (not t ≡ true) ↔ (t ≡ false)
test-not true = (not-true true, λ e. sym e)
test-not false = (λ e. refl, λ e. refl)

-- ---- an integer that must be v, and an integer that encodes one of the values listed

pub constant-good : (w v : ℕ) (x : ReadingRule) → (constant w v x).Good tt ↔ (v < 256 ^ w)
unfolding constant integer
constant-good w v x = (λ h. h.0, λ h. (h, eq-eqb v v refl))

module _ {K : Type 0} (code : K → ℕ) (decode : ℕ → K) (back : (k : K) → decode (code k) ≡ k) where
  pub listed-good : (ks : List K) (k : K) → (listed code ks (code k) ≡ true) ↔ OneOf k ks
  listed-good [] k = (λ e. let z : ◌≡◌ {A = ℕ} 0 1 = cc in absurd (omega arith), λ h. absurd h)
  listed-good (j ∷ ks) k = turn (eqb (code k) (code j)) refl (listed-good ks k)
    where
      turn : (b : Bool) → eqb (code k) (code j) ≡ b → (listed code ks (code k) ≡ true) ↔ OneOf k ks
          → (pick b true (listed code ks (code k)) ≡ true) ↔ ((k ≡ j) ⊎ OneOf k ks)
      turn true p on = (λ e. inl (sym (back k) ∙ ap decode (eqb-true (code k) (code j) p) ∙ back j), λ h. refl)
      turn false p on = (λ e. inr (on.0 e), ⊎_elim (λ e. absurd (eqb-false (code k) (code j) p (ap code e))) on.1)

  pub tag-good : (N : Format ℕ) (ks : List K) (x : ReadingRule) (k : K) → N.Good (code k) → (tag code decode back N ks x).Good k ↔ OneOf k ks
  unfolding tag
  tag-good N ks x k fits = (λ h. (listed-good ks k).0 h.1, λ h. (fits, (listed-good ks k).1 h))

-- ---- the empty string is below every other

pub empty-below : (a : List ℕ) → 0 < length a → below [] a ≡ true
unfolding below
empty-below [] h = absurd (omega arith)
empty-below (x ∷ xs) h = refl

-- ---- no string is below itself, and of two different strings one is below the other

pub below_self : (a : List ℕ) → below a a ≡ false
unfolding below
below_self [] = refl
below_self (x ∷ a) = rw (le-ltb x x (le_refl x)) (below_self a)

pub below-neither : (a b : List ℕ) → below a b ≡ false → below b a ≡ false → a ≡ b
unfolding below
below-neither [] [] h k = refl
below-neither [] (y ∷ b) h k = let z : ◌≡◌ {A = ℕ} 0 1 = cc in absurd (omega arith)
below-neither (x ∷ a) [] h k = let z : ◌≡◌ {A = ℕ} 0 1 = cc in absurd (omega arith)
below-neither (x ∷ a) (y ∷ b) h k = turn (ltb x y) (ltb y x) refl refl (below-neither a b) h k
  where
    turn : (s t : Bool) → ltb x y ≡ s → ltb y x ≡ t → (below a b ≡ false → below b a ≡ false → a ≡ b)
        → pick s true (pick t false (below a b)) ≡ false → pick t true (pick s false (below b a)) ≡ false
        → x ∷ a ≡ y ∷ b
    turn true t p q on h k = let z : ◌≡◌ {A = ℕ} 0 1 = cc in absurd (omega arith)
    turn false true p q on h k = let z : ◌≡◌ {A = ℕ} 0 1 = cc in absurd (omega arith)
    turn false false p q on h k =
        ap₂ (λ (n : ℕ) (l : List ℕ). n ∷ l) (omega (arith, ltb-false x y p, ltb-false y x q)) (on h k)

-- keys are in order by the identifier, and by the index where the identifiers are equal
pub key_below-order : (a b : List ℕ) (i j : ℕ) → (key_below a i b j ≡ true) ↔ ((below a b ≡ true) ⊎ ((a ≡ b) × (i < j)))
unfolding key_below
key_below-order a b i j = turn (below a b) (below b a) refl refl
  where
    turn : (s t : Bool) → below a b ≡ s → below b a ≡ t → (pick s true (pick t false (ltb i j)) ≡ true) ↔ ((s ≡ true) ⊎ ((a ≡ b) × (i < j)))
    turn true t p q = (λ h. inl refl, λ h. refl)
    turn false true p q = (
      λ h. let z : ◌≡◌ {A = ℕ} 0 1 = cc in absurd (omega arith),
      ⊎_elim
          (λ h. let z : ◌≡◌ {A = ℕ} 0 1 = cc in absurd (omega arith))
          (λ h.
          let e : below b a ≡ false = rw h.0 (below_self b) in
          let z : ◌≡◌ {A = ℕ} 0 1 = cc in
          absurd (omega arith)),
    )
    turn false false p q = (
      λ h. inr (below-neither a b p q, ltb-true i j h),
      ⊎_elim (λ h. let z : ◌≡◌ {A = ℕ} 0 1 = cc in absurd (omega arith)) (λ h. lt-ltb i j h.1),
    )

-- integers of one width are in the order of their big-endian bytes
pub digits-order : (w i j : ℕ) → i < 256 ^ w → j < 256 ^ w → (below (digits w i) (digits w j) ≡ true) ↔ (i < j)
digits-order w i j hi hj = rw (below-digits w i j hi hj) (test-lt i j)

-- ---- lists of elements, each read given the bytes of the one before

module _ {A : Type 0} (E : List ℕ → Format A) (Fit : A → Type 0) (R : List ℕ → A → Type 0) (S : A → A → Type 0)
    (good : (prev : List ℕ) (a : A) → (E prev).Good a ↔ (Fit a × R prev a))
    (next : (prev : List ℕ) (a b : A) → Fit a → Fit b → R ((E prev).write a) b ↔ S a b)
    (start : (a : A) → Fit a → R [] a) where
  chain-after : (prev : List ℕ) (a : A) (l : List A) → Fit a → Chain E (left E) ((E prev).write a) l ↔ (All Fit l × Adjacent S (a ∷ l))
  chain-after prev a [] fa = (λ c. (tt, tt), λ c. tt)
  chain-after prev a (b ∷ l) fa =
      let on : Fit b → Chain E (left E) ((E ((E prev).write a)).write b) l ↔ (All Fit l × Adjacent S (b ∷ l)) = chain-after ((E prev).write a) b l in (
        λ c.
            let (fb, r) = (good ((E prev).write a) b).0 c.0 in
            let (fl, sl) = (on fb).0 c.1 in
            ((fb, fl), ((next prev a b fa fb).0 r, sl)),
        λ c.
            let fb = c.0.0 in
            ((good ((E prev).write a) b).1 (fb, (next prev a b fa fb).1 c.1.0), (on fb).1 (c.0.1, c.1.1)),
      )

  pub chain-good : (l : List A) → Chain E (left E) [] l ↔ (All Fit l × Adjacent S l)
  chain-good [] = (λ c. (tt, tt), λ c. tt)
  chain-good (a ∷ l) = (
    λ c.
        let fa = ((good [] a).0 c.0).0 in
        let (fl, sl) = (chain-after [] a l fa).0 c.1 in
        ((fa, fl), sl),
    λ c.
        let fa = c.0.0 in
        ((good [] a).1 (fa, start a fa), (chain-after [] a l fa).1 (c.0.1, c.1)),
  )

-- ---- the orders: each element above the one before, no element below the one before, and no order at all

module _ {A : Type 0} (F : Format A) (Fit : A → Type 0) (good : (a : A) → F.Good a ↔ Fit a) where
  pub above_good : ((a : A) → Fit a → 0 < length (F.write a)) → (l : List A)
      → Chain (above F) (left (above F)) [] l ↔ (All Fit l × Adjacent (λ a b. below (F.write a) (F.write b) ≡ true) l)
  unfolding guard
  above_good non_empty =
      chain-good (above F) Fit (λ prev a. below prev (F.write a) ≡ true) (λ a b. below (F.write a) (F.write b) ≡ true)
      (λ prev a. Iff.and (good a) Iff.rfl)
      (λ prev a b fa fb. Iff.rfl)
      (λ a fa. empty-below (F.write a) (non_empty a fa))

  pub not_below-good : (l : List A) → Chain (not_below F) (left (not_below F)) [] l ↔ (All Fit l × Adjacent (λ a b. below (F.write b) (F.write a) ≡ false) l)
  unfolding guard
  not_below-good =
      chain-good (not_below F) Fit (λ prev a. below (F.write a) prev ≡ false) (λ a b. below (F.write b) (F.write a) ≡ false)
      (λ prev a. Iff.and (good a) (test-not (below (F.write a) prev)))
      (λ prev a b fa fb. Iff.rfl)
      (λ a fa. below-empty (F.write a))

  pub unordered-good : (prev : List ℕ) (l : List A) → Chain (λ prev. F) (left (λ prev. F)) prev l ↔ All Fit l
  unordered-good prev [] = Iff.rfl
  unordered-good prev (a ∷ l) = Iff.and (good a) (unordered-good (F.write a) l)

-- integers of w bytes, each above the one before
pub ascending-good : (w : ℕ) → 0 < w → (l : List ℕ) → Chain (above (integer w)) (left (above (integer w))) [] l ↔ (All (λ n. n < 256 ^ w) l × Ascending l)
unfolding guard integer
ascending-good w some =
    chain-good (above (integer w)) (λ n. n < 256 ^ w) (λ prev n. below prev (digits w n) ≡ true) (λ m n. m < n)
    (λ prev n. Iff.rfl)
    (λ prev m n. digits-order w m n)
    (λ n h. empty-below (digits w n) (rw (length_digits w n) some))

-- elements that start with a key of n + 1 bytes, each key above the one before
module _ {A : Type 0} (E : List ℕ → Format A) (Fit : A → Type 0) (n : ℕ) (key : A → List ℕ) (S : A → A → Type 0)
    (good : (prev : List ℕ) (a : A) → (E prev).Good a ↔ (Fit a × (below (take (suc n) prev) (key a) ≡ true)))
    (front : (prev : List ℕ) (a : A) → (t : List ℕ) × ((E prev).write a ≡ key a ++ t))
    (wide : (a : A) → Fit a → length (key a) ≡ suc n)
    (order : (a b : A) → Fit a → Fit b → (below (key a) (key b) ≡ true) ↔ S a b) where
  pub keyed-good : (l : List A) → Chain E (left E) [] l ↔ (All Fit l × Adjacent S l)
  keyed-good =
      chain-good E Fit (λ prev a. below (take (suc n) prev) (key a) ≡ true) S good
      (λ prev a b fa fb. rw ((front prev a).1, take_at (key a) (front prev a).0 (suc n) (wide a fa)) (order a b fa fb))
      (λ a fa. empty-below (key a) (omega (arith, wide a fa)))

-- ---- a given number of elements, and a list with its count in front

module _ {A : Type 0} (E : List ℕ → Format A) (P : List A → Type 0) (good : (l : List A) → Chain E (left E) [] l ↔ P l) where
  pub series-good : (n : ℕ) (l : List A) → (series E n).Good l ↔ ((length l ≡ n) × P l)
  unfolding items
  series-good n l = Iff.and Iff.rfl (good l)

  pub counted-good : (C : Format ℕ) (l : List A) → (count_prefixed C E).Good l ↔ (C.Good (length l) × P l)
  unfolding count_prefixed items
  counted-good C l = (λ h. (h.0, (good l).0 h.1.1), λ h. (h.0, (refl, (good l).1 h.1)))

-- ---- lists ordered by the images of their elements under a function

pub adjacent-map : {A B : Type 0} (f : A → B) (R : B → B → Type 0) (l : List A) → Adjacent (λ a b. R (f a) (f b)) l ↔ Adjacent R (map f l)
adjacent-map f R [] = Iff.rfl
adjacent-map f R (a ∷ []) = Iff.rfl
adjacent-map f R (a ∷ (b ∷ l)) = Iff.and Iff.rfl (adjacent-map f R (b ∷ l))
