-- The parsers of the combinators, how their values are written, and which values are good: what the formats of Sequence, Fields and Series have as
-- their fields `parse`, `write` and `Good`. Assumes nothing.
use Rattle.std.specs.Prelude.{◌≡◌, ℕ, zero, suc, ◌+◌, ◌-◌, Bool, true, false, List, [], ◌∷◌, ◌++◌, length, take, drop, leb, eqb}
use Rattle.wire.specs.declared.Refusal.{Refusal}
use Rattle.wire.specs.Bytes.{Bytes, pick}
use Rattle.wire.specs.Numbers.{ReadingRule, by, cut_at}
use Rattle.wire.specs.Format.{Format}

-- ---- n bytes

module _ (n : ℕ) where
  unfoldable pub blob_parse : {R : Type 0} → List ℕ → ℕ → (Refusal → R) → (List ℕ → ℕ → R) → R
  blob_parse s at stop go = pick (leb n (length s - at)) (go (take n (drop at s)) (at + n)) (stop (cut_at n s at))

  abbrev pub Sized : List ℕ → Type 0
  Sized b = (length b ≡ n) × Bytes b

-- ---- a format after another; it may depend on the first one's value

module _ {A : Type 0} {B : A → Type 0} (F : Format A) (G : (a : A) → Format (B a)) where
  abbrev pub then_parse : {R : Type 0} → List ℕ → ℕ → (Refusal → R) → (((a : A) × B a) → ℕ → R) → R
  then_parse s at stop go = F.parse s at stop λ a m. (G a).parse s m stop λ b n. go (a, b) n

  abbrev pub then_write : ((a : A) × B a) → List ℕ
  then_write v = F.write v.0 ++ (G v.0).write v.1

  abbrev pub Both : ((a : A) × B a) → Type 0
  Both v = F.Good v.0 × (G v.0).Good v.1

-- ---- a rule on the value, checked when the value is wholly read; a value that breaks it is refused at `place`, computed from its start and itself

module _ {A : Type 0} (F : Format A) (ok : A → Bool) where
  abbrev pub Kept : A → Type 0
  Kept v = F.Good v × (ok v ≡ true)

  module _ (x : ReadingRule) (place : ℕ → A → ℕ) where
    abbrev pub guard_parse : {R : Type 0} → List ℕ → ℕ → (Refusal → R) → (A → ℕ → R) → R
    guard_parse s at stop go = F.parse s at stop λ a m. pick (ok a) (go a m) (stop (by x (place at a)))

-- ---- the same bytes as a value of another type

module _ {A B : Type 0} (F : Format A) (to : A → B) where
  abbrev pub as_parse : {R : Type 0} → List ℕ → ℕ → (Refusal → R) → (B → ℕ → R) → R
  as_parse s at stop go = F.parse s at stop λ a m. go (to a) m

-- the values that `Has` says and those that `Fit` says correspond one to one
pub record Same {A B : Type 0} (Has : A → Type 0) (Fit : B → Type 0) : Type 0 where
  pub to : A → B
  pub from : B → A
  pub fit : (a : A) → Has a → Fit (to a)
  pub has : (b : B) → Fit b → Has (from b)
  pub from-to : (a : A) → Has a → from (to a) ≡ a
  pub to-from : (b : B) → Fit b → to (from b) ≡ b

-- ---- an integer that stands for one of the tags listed; any other is refused by x, at its start

module _ {K : Type 0} (code : K → ℕ) where
  -- `go` of the first listed tag with the integer n, or `other` if there is none
  abbrev pub find : {R : Type 0} → List K → ℕ → (K → R) → R → R
  find [] n go other = other
  find (k ∷ ks) n go other = pick (eqb n (code k)) (go k) (find ks n go other)

  abbrev pub listed : List K → ℕ → Bool
  listed ks n = find ks n (λ k. true) false

  module _ (N : Format ℕ) (ks : List K) where
    abbrev pub Tagged : K → Type 0
    Tagged k = N.Good (code k) × (listed ks (code k) ≡ true)

    module _ (x : ReadingRule) where
      abbrev pub tag_parse : {R : Type 0} → List ℕ → ℕ → (Refusal → R) → (K → ℕ → R) → R
      tag_parse s at stop go = N.parse s at stop λ n m. find ks n (λ k. go k m) (stop (by x at))

-- ---- n elements; an element's format may depend on a state that the elements before it determine

module _ {A S : Type 0} (P : S → Format A) (step : S → A → S) where
  unfoldable pub list_parse : {R : Type 0} → ℕ → S → List ℕ → ℕ → (Refusal → R) → (List A → ℕ → R) → R
  list_parse zero st s at stop go = go [] at
  list_parse (suc n) st s at stop go = (P st).parse s at stop λ a m. list_parse n (step st a) s m stop λ l k. go (a ∷ l) k

  unfoldable pub list_write : S → List A → List ℕ
  list_write st [] = []
  list_write st (a ∷ l) = (P st).write a ++ list_write (step st a) l

  -- each element is good in the state that the elements before it determine
  abbrev pub Chain : S → List A → Type 0
  Chain st [] = Unit {0}
  Chain st (a ∷ l) = (P st).Good a × Chain (step st a) l

  abbrev pub Listed : ℕ → S → List A → Type 0
  Listed n st l = (length l ≡ n) × Chain st l
