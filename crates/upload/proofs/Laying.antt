-- What a piece is answered, and the store with a piece laid into it. Assumes nothing.
use Rattle.std.specs.Prelude.{Ok, Err, Result, Option, None, Some}
use Prim.Native.Nat.{ℕ, ◌+◌, ◌≤◌, ◌-◌}
use mathlib.Core.Path.{◌≡◌, refl, sym, ap, ap₂, ◌∙◌}
use mathlib.Core.List.{List, ◌++◌, append_assoc}
use native.Mathlib.Omega.{arith}
use lib.ListN.{length, take, drop, length-append, length-drop, take-append-drop}
use lib.Seq.{length-take-le, take_at, drop_at, drop-drop}
use borrow.Author.Tests.{ne_eqb}
use Rattle.wire.specs.declared.Refusal.{Refusal}
use Rattle.wire.specs.Numbers.{number_of, rule_number}
use Rattle.wire.specs.declared.Rule.{Rule}
use Rattle.wire.specs.declared.Rule.TheVariants as R
use Rattle.std.specs.Result.{result_err}
use Rattle.std.specs.Option.{is_some}
use mathlib.Core.Bool.{Bool, true, false, false≢true}
use lib.Dec.{eqb}
use Rattle.transaction.specs.Answer.{checked}
use Rattle.transaction.specs.declared.Layout.{Layout}
use Rattle.upload.specs.Calls.{shown, joined, laid, judged}

-- ---- the check's answer as a piece shows it

not-cut : (r : Rule) → (r ≡ R.CutShort → ⊥) → eqb (rule_number r) 2 ≡ false
not-cut R.CutShort n = absurd (n refl)
not-cut R.TooLong n = refl
not-cut R.WrongCodec n = refl
not-cut R.UnknownType n = refl
not-cut R.ZeroAmount n = refl
not-cut R.OutOfOrder n = refl
not-cut R.BadThreshold n = refl
not-cut R.BadLength n = refl
not-cut R.NotPrintable n = refl
not-cut R.BadDenomination n = refl
not-cut R.EmptyList n = refl
not-cut R.WrongCount n = refl
not-cut R.BytesAfterEnd n = refl
not-cut R.NoRoom n = refl
not-cut R.NoEntry n = refl
not-cut R.StepNotDue n = refl
not-cut R.FirstNotAccepted n = refl
not-cut R.SecondNotAccepted n = refl
not-cut R.DraftsDiffer n = refl
not-cut R.Conflict n = refl
not-cut R.NotASignature n = refl

module _ (x : Result (Layout × ℕ) Refusal) where
  pub shown-refused : (e : Refusal) → x ≡ Err e → (number_of e ≡ 2 → ⊥) → Some e ≡ shown x
  unfolding shown
  shown-refused e q i = rw (q, ne_eqb (number_of e) 2 i)

  -- y is the check's refusal, if there is one
  module _ (y : Option Refusal) (h : y ≡ result_err x) where
    pub shown-accepted : (z : Option Refusal) → y ≡ None → z ≡ None → z ≡ shown x
    unfolding shown
    shown-accepted z q r = r ∙ go x (sym h ∙ q)
      where
        go : (x : Result (Layout × ℕ) Refusal) → result_err x ≡ None → None ≡ shown x
        go (Ok (w, n)) q = refl
        go (Err e) q = let z : ◌≡◌ {A = ℕ} 0 1 = cc in absurd (omega arith)

    module _ (e : Refusal) (q : y ≡ Some e) where
      told : x ≡ Err e
      told = go x (sym h ∙ q)
        where
          go : (x : Result (Layout × ℕ) Refusal) → result_err x ≡ Some e → x ≡ Err e
          go (Ok (w, n)) q = let z : ◌≡◌ {A = ℕ} 0 1 = cc in absurd (omega arith)
          go (Err d) q = ap Err cc

      pub shown-cut : e.rule ≡ R.CutShort → None ≡ shown x
      unfolding shown
      shown-cut i = rw (told, i)

      pub shown-other : (e.rule ≡ R.CutShort → ⊥) → Some e ≡ shown x
      unfolding shown
      shown-other i = rw (told, not-cut e.rule i)

pub ruleset showing = (shown-accepted, shown-cut, shown-other)

-- ---- whether a refusal stands

pub stands : (x : Option Refusal) (t : Bool) → t ≡ is_some x → t ≡ true → (e : Refusal) × (x ≡ Some e)
stands (Some e) t p q = (e, refl)
stands None t p q = absurd (false≢true (sym p ∙ q))

pub free : (x : Option Refusal) (t : Bool) → t ≡ is_some x → t ≡ false → x ≡ None
free None t p q = refl
free (Some e) t p q = absurd (false≢true (sym q ∙ p))

-- ---- a piece in the store

-- p was copied over the bytes from `at` up to e: that is the store with p laid there
pub copied-piece : (s y p : List ℕ) (at e : ℕ) → y ≡ p → e ≡ at + length p → take at s ++ (y ++ drop (e - at) (drop at s)) ≡ laid at p s
unfolding laid
copied-piece s y p at e h there =
    let n : e - at ≡ length p = omega arith in
    rw (h, n, drop-drop (length p) at s) (sym (append_assoc (take at s) p (drop (at + length p) s)))

module _ (s p : List ℕ) (at : ℕ) (fits : at + length p ≤ length s) where
  pub length-joined : length (joined at p s) ≡ at + length p
  length-joined = omega (arith, length-append (take at s) p, length-take-le at s (omega arith))

  pub length-laid : length (laid at p s) ≡ length s
  unfolding laid
  length-laid = omega (arith, length-joined, length-append (joined at p s) (drop (at + length p) s), length-drop (at + length p) s)

  -- its front is the bytes joined
  pub take-laid : (e : ℕ) → e ≡ at + length p → take e (laid at p s) ≡ joined at p s
  unfolding laid
  take-laid e h = take_at (joined at p s) (drop (at + length p) s) e (omega (arith, length-joined))

  -- and what is behind them is as before
  pub drop-laid : drop (at + length p) (laid at p s) ≡ drop (at + length p) s
  unfolding laid
  drop-laid = drop_at (joined at p s) (drop (at + length p) s) (at + length p) length-joined

  -- laying back what stood there gives the store as it was
  pub laid-back : (a : List ℕ) → a ≡ take (length p) (drop at s) → laid at a (laid at p s) ≡ s
  unfolding laid
  laid-back a h =
      let d : List ℕ = drop (at + length p) s in
      let same : length a ≡ length p = ap length h ∙ length-take-le (length p) (drop at s) (omega (arith, length-drop at s)) in
      let front : take at (joined at p s ++ d) ≡ take at s =
      ap (take at) (append_assoc (take at s) p d) ∙ take_at (take at s) (p ++ d) at (length-take-le at s (omega arith)) in
      let behind : drop (at + length a) (joined at p s ++ d) ≡ d = drop_at (joined at p s) d (at + length a) (omega (arith, length-joined)) in
      let rest : d ≡ drop (length p) (drop at s) = sym (drop-drop (length p) at s) in
      rw (front, behind)
      (append_assoc (take at s) a d
      ∙ ap₂ (λ (x y : List ℕ). take at s ++ (x ++ y)) h rest
      ∙ ap (λ (x : List ℕ). take at s ++ x) (take-append-drop (length p) (drop at s))
      ∙ take-append-drop at s)

-- ---- a piece that fits, judged where it stands

module _ (most : ℕ) (s p : List ℕ) (at : ℕ) (fits : at + length p ≤ length s) (t : List ℕ) (put : t ≡ laid at p s)
    (e : ℕ) (there : e ≡ at + length p) (x : Result (Layout × ℕ) Refusal) (px : x ≡ checked most (take e t)) (r : Option Refusal) (pr : r ≡ shown x) where
  answer : r ≡ shown (checked most (joined at p s))
  answer = pr ∙ ap shown (px ∙ ap (checked most) (ap (take e) put ∙ take-laid s p at fits e there))

  module _ (b : Bool) (pb : b ≡ is_some r) where
    pub judged-more : b ≡ false → (r, t) ≡ judged most at p s
    unfolding judged
    judged-more q =
        rw (free r b pb q, sym answer ∙ free r b pb q) (ap (λ (u : List ℕ). (None, u)) put)

    -- the bytes from `at` up to e, put aside, are laid back
    pub judged-refused : b ≡ true → (a u : List ℕ) → a ≡ take (e - at) (drop at s) → u ≡ laid at a t → (r, u) ≡ judged most at p s
    unfolding judged
    judged-refused q a u ha hu =
        let (f, i) = stands r b pb q in
        let n : e - at ≡ length p = omega arith in
        rw (i, sym answer ∙ i) (ap (λ (v : List ℕ). (Some f, v)) (hu ∙ ap (laid at a) put ∙ laid-back s p at fits a (ha ∙ rw n)))
