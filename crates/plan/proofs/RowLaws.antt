-- The code's answer to what is due at a phase is the first segment of the plan there. Assumes nothing.
use Rattle.std.specs.Prelude.{Result}
use Rattle.wire.specs.declared.Refusal.{Refusal}
use Prim.Native.Nat.{ℕ, zero, suc, ◌+◌, ◌-◌, ◌≤◌, ◌<◌}
use mathlib.Core.Path.{◌≡◌, refl, sym, ap, ◌∙◌, subst, subst₂}
use mathlib.Core.Bool.{Bool, true, false, false≢true}
use mathlib.Core.Logic.{◌⊎◌, inl, inr}
use native.Mathlib.Omega.{arith}
use native.Mathlib.Numerals.{add-one}
use mathlib.Core.List.{List}
use lib.Dec.{eqb, leb}
use borrow.Author.Tests.{eq-eqb, ne_eqb, leb-true, leb-false}
use Rattle.wire.specs.Bytes.{pick}
use Rattle.wire.specs.Series.{series}
use Rattle.wire.specs.code.Answer.{ended}
use Rattle.transaction.specs.Plan.{content_of, elements_of, Plan, shut, end, field, many, own_plan, plan, type_of, plan_of}
use Rattle.transaction.specs.declared.FieldName.{FieldName}
use Rattle.transaction.specs.declared.ListName.{ListName}
use Rattle.transaction.specs.declared.TransactionType.{TransactionType}
use Rattle.transaction.specs.declared.TransactionType.TheVariants as K
use Rattle.plan.specs.declared.Due.{Due}
use Rattle.plan.specs.declared.Due.TheVariants as D
use Rattle.plan.specs.Due.{tail, after, due, due_of}
use Rattle.plan.specs.code.Rows.{last_phase, Live}

-- ---- rows: by tests of how many segments are begun; nothing is due past the last segment

module _ (p : Plan) (begun : ℕ) where
  pub past : (n : ℕ) → after n p ≡ shut → n ≤ begun → D.Nothing ≡ due_of (after begun p)
  past n e h =
      let j : begun ≡ begun - n + n = omega arith in
      sym (ap (λ (i : ℕ). due_of (after i p)) j ∙ ap due_of (beyond (begun - n)))
    where
      beyond : (k : ℕ) → after (k + n) p ≡ shut
      beyond zero = let j : 0 + n ≡ n = omega arith in ap (λ (i : ℕ). after i p) j ∙ e
      beyond (suc k) =
          let j : suc k + n ≡ suc (k + n) = omega arith in
          ap (λ (i : ℕ). after i p) j ∙ ap tail (beyond k)

  module _ (z : Due) where
    pub part-first : begun < 1 → z ≡ due_of p → z ≡ due_of (after begun p)
    part-first h e = let j : begun ≡ 0 = omega arith in rw j e

    pub part-here : (i j : ℕ) → i ≤ begun → begun < j → j ≡ suc i → z ≡ due_of (after i p) → z ≡ due_of (after begun p)
    part-here i j h k l e = let j : begun ≡ i = omega arith in rw j e

pub ruleset row = (part-first, part-here, past)

-- ---- types: by tests of the type id, in the order of `type_of` and of `types`

module _ (z : Due) (begun type_id i : ℕ) (a b : TransactionType) where
  pub type-here : type_id ≡ i → z ≡ due_of (after begun (own_plan a)) → z ≡ due_of (after begun (own_plan (pick (eqb type_id i) a b)))
  type-here h e = rw (eq-eqb type_id i h) e

  pub type-other : (type_id ≡ i → ⊥) → z ≡ due_of (after begun (own_plan b)) → z ≡ due_of (after begun (own_plan (pick (eqb type_id i) a b)))
  type-other h e = rw (ne_eqb type_id i h) e

pub ruleset by-type = (type-here, type-other)

module _ (n i : ℕ) (b : Bool) where
  pub number-here : n ≡ i → true ≡ pick (eqb n i) true b
  number-here h = rw (eq-eqb n i h)

  pub number-other : (z : Bool) → (n ≡ i → ⊥) → z ≡ b → z ≡ pick (eqb n i) true b
  number-other z h e = rw (ne_eqb n i h) e

pub ruleset numbers = (number-here, number-other)

-- ---- plans: past the memo, what is due is in the type's own part

after_tail : (k : ℕ) (p : Plan) → after (suc k) p ≡ after k (tail p)
after_tail zero p = refl
after_tail (suc k) p = ap tail (after_tail k p)

module _ (z : Due) (type_id phase : ℕ) where
  pub in-own : 4 ≤ phase → z ≡ due_of (after (phase - 4) (own_plan (type_of type_id))) → z ≡ due_of (due phase (plan_of type_id))
  in-own f h =
      let p : Plan = plan_of type_id in
      let k : ℕ = phase - 4 in
      let j : phase ≡ suc (suc (suc (suc k))) = omega arith in
      h ∙ sym (ap (λ (i : ℕ). due_of (due i p)) j ∙ ap due_of (after_tail (suc (suc k)) p ∙ after_tail (suc k) (tail p) ∙ after_tail k (tail (tail p))))

-- no plan has a phase after the last
plan-over : (k : TransactionType) → after last_phase (plan k) ≡ shut
plan-over K.Base = refl
plan-over K.CreateAsset = refl
plan-over K.Operation = refl
plan-over K.Import = refl
plan-over K.Export = refl

pub phase-small : (type_id phase : ℕ) (f : Due → Bool) → f D.Nothing ≡ false → f (due_of (due phase (plan_of type_id))) ≡ true → phase ≤ last_phase
phase-small type_id phase f none h = go (leb phase last_phase) refl
  where
    beyond : (k : ℕ) → last_phase ≤ k → f (due_of (after k (plan_of type_id))) ≡ true → ⊥
    beyond k e h = false≢true (sym none ∙ ap f (past (plan_of type_id) k last_phase (plan-over (type_of type_id)) e) ∙ h)

    go : (b : Bool) → leb phase last_phase ≡ b → phase ≤ last_phase
    go true e = leb-true phase last_phase e
    go false e =
        let k : ℕ = phase - 1 in
        let l = leb-false phase last_phase e in
        let j : phase ≡ suc k = omega arith in
        absurd (beyond k (omega arith) (subst (λ (i : ℕ). f (due_of (due i (plan_of type_id))) ≡ true) j h))

pub due-next : (k : ℕ) (p q : Plan) → Live q → due k p ≡ q → due (suc k) p ≡ tail q
due-next zero p q live e = absurd (subst Live (sym e) live)
due-next (suc k) p q live e = ap tail e

-- something is due only in the phases up to the last
abbrev is_more : Due → Bool
is_more D.Nothing = false
is_more D.Finish = true
is_more (D.Field f) = true
is_more (D.List l n) = true

pub live-phase : (type_id phase : ℕ) → Live (due phase (plan_of type_id)) → phase ≤ last_phase
live-phase type_id phase h = phase-small type_id phase is_more refl (more (due phase (plan_of type_id)) h)
  where
    more : (p : Plan) → Live p → is_more (due_of p) ≡ true
    more shut h = absurd h
    more end h = refl
    more (field f p) h = refl
    more (many l least p) h = refl

pub live-next : (type_id phase : ℕ) → Live (due phase (plan_of type_id)) → due (phase + 1) (plan_of type_id) ≡ tail (due phase (plan_of type_id))
live-next type_id phase h = rw add-one (due-next phase (plan_of type_id) (due phase (plan_of type_id)) h refl)

-- ---- what is due determines the first segment of the plan

module _ (x : Due) (T : Plan → Type 0) where
  pub if-nothing : (p : Plan) → x ≡ due_of p → x ≡ D.Nothing → T shut → T p
  if-nothing shut h q t = t
  if-nothing end h q t = let z : ◌≡◌ {A = ℕ} 0 1 = cc in absurd (omega arith)
  if-nothing (field f p) h q t = let z : ◌≡◌ {A = ℕ} 0 1 = cc in absurd (omega arith)
  if-nothing (many l least p) h q t = let z : ◌≡◌ {A = ℕ} 0 1 = cc in absurd (omega arith)

  pub if-end : (p : Plan) → x ≡ due_of p → x ≡ D.Finish → T end → T p
  if-end shut h q t = let z : ◌≡◌ {A = ℕ} 0 1 = cc in absurd (omega arith)
  if-end end h q t = t
  if-end (field f p) h q t = let z : ◌≡◌ {A = ℕ} 0 1 = cc in absurd (omega arith)
  if-end (many l least p) h q t = let z : ◌≡◌ {A = ℕ} 0 1 = cc in absurd (omega arith)

  -- nothing is left to read
  pub if-over : (p : Plan) → x ≡ due_of p → (x ≡ D.Nothing) ⊎ (x ≡ D.Finish) → T shut → T end → T p
  if-over p h (inl q) t u = if-nothing p h q t
  if-over p h (inr q) t u = if-end p h q u

  pub if-field : (p : Plan) → x ≡ due_of p → (f : FieldName) → x ≡ D.Field f → ((q : Plan) → T (field f q)) → T p
  if-field shut h f q t = let z : ◌≡◌ {A = ℕ} 0 1 = cc in absurd (omega arith)
  if-field end h f q t = let z : ◌≡◌ {A = ℕ} 0 1 = cc in absurd (omega arith)
  if-field (field g p) h f q t = let e : f ≡ g = cc in subst (λ (j : FieldName). T (field j p)) e (t p)
  if-field (many l least p) h f q t = let z : ◌≡◌ {A = ℕ} 0 1 = cc in absurd (omega arith)

  pub if-list : (p : Plan) → x ≡ due_of p → (l : ListName) (n : ℕ) → x ≡ D.List l n → ((q : Plan) → T (many l n q)) → T p
  if-list shut h l n q t = let z : ◌≡◌ {A = ℕ} 0 1 = cc in absurd (omega arith)
  if-list end h l n q t = let z : ◌≡◌ {A = ℕ} 0 1 = cc in absurd (omega arith)
  if-list (field f p) h l n q t = let z : ◌≡◌ {A = ℕ} 0 1 = cc in absurd (omega arith)
  if-list (many m k p) h l n q t =
      let e : l ≡ m = cc in
      let i : n ≡ k = cc in
      subst₂ (λ (m : ListName) (k : ℕ). T (many m k p)) e i (t p)

-- ---- by name

pub by_field : (most : ℕ) (f g : FieldName) (s : List ℕ) (at : ℕ) (z : Result ℕ Refusal) → f ≡ g → z ≡ ended (content_of most g) s at
    → z ≡ ended (content_of most f) s at
by_field most f g s at z h e = rw h e

pub by-list : (l m : ListName) (n : ℕ) (s : List ℕ) (at : ℕ) (z : Result ℕ Refusal) → l ≡ m → z ≡ ended (series (elements_of m).element n) s at
    → z ≡ ended (series (elements_of l).element n) s at
by-list l m n s at z h e = rw h e
