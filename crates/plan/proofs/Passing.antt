-- Laws for functions that skip a field or an element that was read, by its name. Assumes nothing.
use Rattle.std.specs.Prelude.{Ok, Err, Result}
use Rattle.std.specs.Result.{result_unwrap_or}
use Prim.Native.Nat.{ℕ, zero, suc, ◌+◌, ◌-◌, ◌≤◌, ◌<◌}
use mathlib.Core.Logic.{◌⊎◌, inl, inr}
use mathlib.Core.Path.{◌≡◌, sym, ap, ◌∙◌, subst}
use mathlib.Core.List.{List, ◌∷◌}
use native.Mathlib.Omega.{arith}
use native.Mathlib.Numerals.{sub-one}
use native.Mathlib.Nat.{not-suc-le-zero}
use lib.ListN.{length}
use Rattle.wire.specs.declared.Refusal.{Refusal}
use Rattle.wire.specs.Format.{Format, took, refused, read}
use Rattle.wire.specs.laws.Format.{parse-inv}
use Rattle.wire.specs.Fields.{blob}
use Rattle.wire.specs.laws.Sizes.{length-integer}
use Rattle.wire.specs.Sequence.{guard, items}
use Rattle.wire.specs.Series.{left, series_from, not_below}
use Rattle.wire.specs.Parsers.{list_parse}
use Rattle.wire.specs.laws.Items.{list-inv}
use Rattle.wire.specs.code.Answer.{ended, Passes, Tells}
use Rattle.wire.proofs.Bytes.{Slice}
use Rattle.wire.proofs.Passing.{passes-wide}
use Rattle.wire.proofs.Reading.{blob-wide}
use Rattle.string.specs.Strings.{memo, text, denomination}
use Rattle.element.specs.Outputs.{transferable_output}
use Rattle.element.specs.Inputs.{input}
use Rattle.element.specs.Operations.{operation, initial_state}
use Rattle.transaction.specs.Plan.{content_of, elements_of}
use Rattle.transaction.specs.declared.FieldName.{FieldName}
use Rattle.transaction.specs.declared.FieldName.TheVariants as F
use Rattle.transaction.specs.declared.ListName.{ListName}
use Rattle.transaction.specs.declared.ListName.TheVariants as L
use Rattle.plan.specs.code.Rows.{FieldPast, FieldSigns, silent_of, ElementTells, ElementsPast, AskingTells}
use Rattle.wire.proofs.Trying.{same-parts}

-- ---- fields

module _ (s : List ℕ) (at : ℕ) (f : FieldName) (x : Result ℕ Refusal) (y : ℕ) (p : y ≡ result_unwrap_or x at) where
  by_name : (g : FieldName) → f ≡ g → ((most : ℕ) → Passes (content_of most g) s at x) → FieldPast f s at y
  by_name g q h =
      subst (λ (g : FieldName). FieldPast g s at y) (sym q)
      (λ most v n e. p ∙ ap (λ (x : Result ℕ Refusal). result_unwrap_or x at) (h most v n e))

  pub memo-past : f ≡ F.Memo → ((most : ℕ) → Passes (memo most) s at x) → FieldPast f s at y
  memo-past q h = by_name F.Memo q h

  pub text-past : (f ≡ F.Name) ⊎ (f ≡ F.Symbol) → ((most : ℕ) → Passes (text most) s at x) → FieldPast f s at y
  text-past (inl q) h = by_name F.Name q (λ most. h 128)
  text-past (inr q) h = by_name F.Symbol q (λ most. h 4)

  pub denomination-past : f ≡ F.Denomination → x ≡ ended (blob 1) s at → Slice s → FieldPast f s at y
  unfolding denomination guard
  denomination-past q h b = by_name F.Denomination q (λ most. passes-wide denomination 1 (λ v g. length-integer 1 v) s at b x h)

  pub chain-past : f ≡ F.Chain → x ≡ ended (blob 32) s at → Slice s → FieldPast f s at y
  chain-past q h b = by_name F.Chain q (λ most. passes-wide (blob 32) 32 (blob-wide 32) s at b x h)

pub ruleset field-passing = (memo-past, text-past, denomination-past, chain-past)

pub by-signs : (s : List ℕ) (at : ℕ) (f g : FieldName) (y : ℕ) → f ≡ g → FieldSigns g s at y → FieldSigns f s at y
by-signs s at f g y q h = subst (λ (g : FieldName). FieldSigns g s at y) (sym q) h

-- ---- elements

module _ (s : List ℕ) (at : ℕ) (l : ListName) (y : Result (ℕ × ℕ) Refusal) where
  by-list : (m : ListName) → l ≡ m → ElementTells m s at y → ElementTells l s at y
  by-list m q h = subst (λ (m : ListName). ElementTells m s at y) (sym q) h

  pub input-past : (l ≡ L.Input) ⊎ (l ≡ L.Imported) → ((prev : List ℕ) → Tells (input prev) (λ v. length v.indices) s at y) → ElementTells l s at y
  input-past (inl q) h = by-list L.Input q h
  input-past (inr q) h = by-list L.Imported q h

  pub imported-past : l ≡ L.Imported → ((prev : List ℕ) → Tells (input prev) (λ v. length v.indices) s at y) → ElementTells l s at y
  imported-past q h = input-past (inr q) h

  pub operation-past : l ≡ L.Operation → Tells operation (λ v. length v.terms.0) s at y → ElementTells l s at y
  operation-past q h = by-list L.Operation q (λ prev. h)

  module _ (x : Result ℕ Refusal) (p : y ≡ silent_of x) where
    pub output-past : (l ≡ L.Output) ⊎ (l ≡ L.Exported) → ((prev : List ℕ) → Passes (not_below transferable_output prev) s at x) → ElementTells l s at y
    output-past (inl q) h = by-list L.Output q (λ prev v n e. p ∙ ap silent_of (h prev v n e))
    output-past (inr q) h = by-list L.Exported q (λ prev v n e. p ∙ ap silent_of (h prev v n e))

    pub state-past : l ≡ L.State → ((prev : List ℕ) → Passes (initial_state prev) s at x) → ElementTells l s at y
    state-past q h = by-list L.State q (λ prev v n e. p ∙ ap silent_of (h prev v n e))

pub ruleset element-passing = (input-past, imported-past, operation-past, output-past, state-past)

-- the type of the credential that an element asks for determines the format of the element
module _ (s : List ℕ) (at c : ℕ) (y : Result (ℕ × ℕ) Refusal) where
  pub asking-operation : c ≡ 14 → Tells operation (λ v. length v.terms.0) s at y → AskingTells c s at y
  asking-operation q h L.Output i z = absurd (z i)
  asking-operation q h L.Input i z = absurd (omega arith)
  asking-operation q h L.State i z = absurd (z i)
  asking-operation q h L.Operation i z = λ prev. h
  asking-operation q h L.Imported i z = absurd (omega arith)
  asking-operation q h L.Exported i z = absurd (z i)

  pub asking-input : (c ≡ 14 → ⊥) → ((prev : List ℕ) → Tells (input prev) (λ v. length v.indices) s at y) → AskingTells c s at y
  asking-input q h L.Output i z = absurd (z i)
  asking-input q h L.Input i z = h
  asking-input q h L.State i z = absurd (z i)
  asking-input q h L.Operation i z = absurd (q i)
  asking-input q h L.Imported i z = h
  asking-input q h L.Exported i z = absurd (z i)

-- ---- a list that was read: its first element, and the others

pub record FirstOf (l : ListName) (c : ℕ) (prev s : List ℕ) (at : ℕ) (v : List (elements_of l).Element) (n : ℕ) : Type 0 where
  pub element : (elements_of l).Element
  pub others : List (elements_of l).Element
  pub next : ℕ
  pub all : v ≡ element ∷ others
  pub first : read ((elements_of l).element prev) s at ≡ took element next
  pub rest : read (series_from (elements_of l).element (((elements_of l).element prev).write element) c) s next ≡ took others n

pub first_of : (l : ListName) (c : ℕ) (prev s : List ℕ) (at : ℕ) (v : List (elements_of l).Element) (n : ℕ)
    → read (series_from (elements_of l).element prev (suc c)) s at ≡ took v n → FirstOf l c prev s at v n
unfolding items list_parse
first_of l c prev s at v n e =
    let E : List ℕ → Format (elements_of l).Element = (elements_of l).element in
    let (a, m, ea, e₁) = parse-inv (E prev) s at (λ a m. list_parse E (left E) c (left E prev a) s m refused (λ l k. took (a ∷ l) k)) v n e in
    let (u, k, eu, e₂) = list-inv E (left E) c (left E prev a) s m (λ l k. took (a ∷ l) k) v n e₁ in
    let i : k ≡ n = cc in
    record { element = a; others = u; next = m; all = cc; first = ea; rest = subst (λ (k : ℕ). read (series_from E ((E prev).write a) c) s m ≡ took u k) i eu }

-- ---- elements: what skips those from the i-th on, from `at` on, skips all c from `start` on

-- n elements: the first is refused; it is skipped, and then the others; there are none
module _ (l : ListName) (s : List ℕ) (at : ℕ) (x : Result (ℕ × ℕ) Refusal) (h : ElementTells l s at x) where
  first-unread : (n : ℕ) (r : Result ℕ Refusal) (e : Refusal) → 0 < n → x ≡ Err e → ElementsPast l n s at r
  first-unread zero r e o q prev v m i = absurd (not-suc-le-zero o)
  first-unread (suc n) r e o q prev v m i =
      let f = first_of l n prev s at v m i in
      let g = h prev f.element f.next f.first in
      let z : ◌≡◌ {A = ℕ} 0 1 = cc in absurd (omega arith)

  first_past : (n k m : ℕ) (r : Result ℕ Refusal) → 0 < n → x ≡ Ok (k, m) → ElementsPast l (n - 1) s m r → ElementsPast l n s at r
  first_past zero k m r o q d prev v end i = absurd (not-suc-le-zero o)
  first_past (suc n) k m r o q d prev v end i =
      let f = first_of l n prev s at v end i in
      let g = h prev f.element f.next f.first in
      let next : f.next ≡ m = (same-parts (sym g ∙ q)).1 in
      let d' : ElementsPast l n s m r = subst (λ (n : ℕ). ElementsPast l n s m r) (sub-one (suc n)) d in
      d' _ f.others end (subst
      (λ (j : ℕ). read (series_from (elements_of l).element (((elements_of l).element prev).write f.element) n) s j ≡ took f.others end) next f.rest)

none_left : (l : ListName) (n : ℕ) (s : List ℕ) (at : ℕ) → n ≤ 0 → ElementsPast l n s at (Ok at)
unfolding items list_parse
none_left l zero s at o prev v m i = let e : at ≡ m = cc in ap Ok e
none_left l (suc n) s at o prev v m i = absurd (not-suc-le-zero o)

module _ (l : ListName) (s : List ℕ) (c start : ℕ) where
  unfoldable pub ElementsOnward : ℕ → ℕ → Type 0
  ElementsOnward i at = (r : Result ℕ Refusal) → ElementsPast l (c - i) s at r → ElementsPast l c s start r

  pub elements-start : ElementsOnward 0 start
  unfolding ElementsOnward
  elements-start r h = let e : c - 0 ≡ c = omega arith in subst (λ (n : ℕ). ElementsPast l n s start r) e h

  module _ (i at : ℕ) (o : ElementsOnward i at) where
    pub elements-end : c ≤ i → ElementsPast l c s start (Ok at)
    unfolding ElementsOnward
    elements-end z = o (Ok at) (none_left l (c - i) s at (omega arith))

    module _ (x : Result (ℕ × ℕ) Refusal) (h : ElementTells l s at x) (some_left : i < c) where
      pub elements-unread : (e : Refusal) (r : Result ℕ Refusal) → x ≡ Err e → ElementsPast l c s start r
      unfolding ElementsOnward
      elements-unread e r q = o r (first-unread l s at x h (c - i) r e (omega arith) q)

      pub elements-on : (p : ℕ × ℕ) → x ≡ Ok p → ElementsOnward (i + 1) p.1
      unfolding ElementsOnward
      elements-on (k, m) q r d =
          let e : c - (i + 1) ≡ (c - i) - 1 = omega arith in
          o r (first_past l s at x h (c - i) k m r (omega arith) q (subst (λ (n : ℕ). ElementsPast l n s m r) e d))

pub ruleset elements-passing = (elements-start, elements-end, elements-unread, elements-on)
