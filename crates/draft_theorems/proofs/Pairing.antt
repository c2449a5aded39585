-- One pair of drafts: when it meets the conflict refusal. Assumes nothing but `Laws`.
use Rattle.std.specs.Prelude.{Option, None, Some}
use mathlib.Core.Path.{◌≡◌, refl, sym, ap, ◌∙◌, subst}
use mathlib.Core.Logic.{◌↔◌}
use mathlib.Core.Bool.{Bool, true, false}
use mathlib.Core.List.{List}
use Prim.Native.Nat.{ℕ, ◌<◌}
use native.Mathlib.Decide.{dec_lt}
use native.Mathlib.Omega.{arith}
use lib.Dec.{leb}
use lib.ListN.{length}
use Rattle.draft_slots.specs.Joining.{same, Filled, Clash, first_clash}
use Rattle.draft_slots.proofs.Comparing.{same-eq, first-none, first_some}
use Rattle.draft.specs.Reader.{Reader, Draft, body, slot_count, slot}
use Rattle.draft.specs.Calls.{answer_number, answer_place, merged, decide_merge, merge_call}
use Rattle.draft_theorems.specs.Demand.{FirstClash, Pair}
use Rattle.draft_theorems.proofs.Laws.{Laws, Like, like-self, like-read, on, slot-on}
use Rattle.draft_theorems.proofs.Merging.{called, first-clash}

pub first_one : (R : Reader) (d e : List ℕ) (j k : ℕ) → FirstClash R d e j → FirstClash R d e k → j ≡ k
first_one R d e j k a b = go (dec_lt j k) (dec_lt k j)
  where
    go : Dec (j < k) → Dec (k < j) → j ≡ k
    go (yes h) t = absurd (b.before j h a.here)
    go (no h) (yes t) = absurd (a.before k t b.here)
    go (no h) (no t) = omega arith

-- without a clash the number is 0 or 14
never-20 : (t : Bool) (m out : List ℕ) → answer_number (decide_merge true true true None t m out).0 ≡ 20 → ⊥
never-20 true m out h = omega arith
never-20 false m out h = omega arith

module _ (R : Reader) (L : Laws R) (d e out : List ℕ) (hd : Draft R d) (he : Draft R e) where
  module _ (same_body : body R d ≡ body R e) where
    pub le : Like R d e
    le = like-read R L d e hd he same_body

    pub call-is : (o : Option ℕ) → first_clash 0 (R.slots d) d e ≡ o
        → merge_call R d e out ≡ decide_merge true true true o (leb (length d) (length out)) (merged R d e) out
    call-is o h = called R L d hd d e (like-self R d hd) le o (leb (length d) (length out)) out h refl

    pub no-first : first_clash 0 (R.slots d) d e ≡ None → (k : ℕ) → FirstClash R d e k → ⊥
    unfolding slot_count slot
    no-first h k f =
        first-none 0 (R.slots d) d e h k f.k-in
        (subst (λ (s : List ℕ). Clash (on R d d k) s) (slot-on R d e k le.slots) f.here)

    pub pair-exactly : (k : ℕ) → ((answer_number (merge_call R d e out).0 ≡ 20) × (answer_place (merge_call R d e out).0 ≡ k)) ↔ FirstClash R d e k
    pair-exactly k = go (first_clash 0 (R.slots d) d e) refl
      where
        go : (o : Option ℕ) → first_clash 0 (R.slots d) d e ≡ o
            → ((answer_number (merge_call R d e out).0 ≡ 20) × (answer_place (merge_call R d e out).0 ≡ k)) ↔ FirstClash R d e k
        go None h = (
          λ w. absurd (never-20 (leb (length d) (length out)) (merged R d e) out (sym (ap (λ a. answer_number a.0) (call-is None h)) ∙ w.0)),
          λ f. absurd (no-first h k f),
        )
        go (Some j) h =
            let c : merge_call R d e out ≡ decide_merge true true true (Some j) (leb (length d) (length out)) (merged R d e) out = call-is (Some j) h in
            let f : FirstClash R d e j = first-clash R L d hd d e (like-self R d hd) le j (first_some 0 (R.slots d) d e j h) in (
              λ w. subst (FirstClash R d e) (sym (ap (λ a. answer_place a.0) c) ∙ w.1) f,
              λ g. (ap (λ a. answer_number a.0) c, ap (λ a. answer_place a.0) c ∙ first_one R d e j k f g),
            )

  pub pair-agreeing : ((k : ℕ) → k < slot_count R d → Filled (slot R d k) → Filled (slot R e k) → slot R d k ≡ slot R e k)
      → answer_number (merge_call R d e out).0 ≡ 20 → ⊥
  unfolding merge_call
  pair-agreeing agree = go (same (body R d) (body R e)) refl
    where
      go : (t : Bool) → same (body R d) (body R e) ≡ t → answer_number (merge_call R d e out).0 ≡ 20 → ⊥
      go true t h =
          let f : FirstClash R d e (answer_place (merge_call R d e out).0) = (pair-exactly (same-eq (body R d) (body R e) t)
          (answer_place (merge_call R d e out).0)).0 (h, refl) in
          f.here.differ (agree (answer_place (merge_call R d e out).0) f.k-in f.here.first f.here.second)
      go false t h =
          let z : ◌≡◌ {A = ℕ} 19 20 = rw (hd.accepted, he.accepted, t) at h in omega arith

  pub pair : Pair R d e out
  pair = record { agreeing = pair-agreeing; exactly = pair-exactly }
