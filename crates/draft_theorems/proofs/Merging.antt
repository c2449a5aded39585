-- One call of merge over two drafts of one unsigned transaction: it joins them, or meets the conflict refusal. Assumes nothing but `Laws`.
use Rattle.std.specs.Prelude.{Ok, Option, None, Some}
use mathlib.Core.Path.{◌≡◌, refl, sym, ap, ◌∙◌, subst, subst⁻¹}
use mathlib.Core.Bool.{Bool, true}
use mathlib.Core.List.{List, ◌++◌}
use Prim.Native.Nat.{ℕ, ◌≤◌, ◌<◌}
use native.Mathlib.Nat.{zero-add}
use native.Mathlib.Omega.{arith}
use lib.Dec.{leb}
use lib.ListN.{length, drop, get_or}
use borrow.Author.Tests.{le-leb}
use Rattle.wire.specs.Bytes.{Bytes}
use Rattle.wire.specs.Numbers.{conflict}
use Rattle.transaction.specs.Slots.{slot_at, put_all}
use Rattle.transaction.proofs.Slots.{bytes-slot_at}
use Rattle.draft_slots.specs.Joining.{same, Clash, join, first_clash}
use Rattle.draft_slots.proofs.Comparing.{same-of-eq, ClashFrom, first-none, first_some, length-join, bytes-join}
use Rattle.draft_slots.proofs.Putting.{Long}
use Rattle.draft.specs.Reader.{Reader, Draft, body, slot_count, slot}
use Rattle.draft.specs.Calls.{refuse, merged, decide_merge, merge_call}
use Rattle.draft_theorems.specs.Demand.{FirstClash}
use Rattle.draft_theorems.proofs.Laws.{Laws, Like, on, length-on, like-put_all, put_all-on}

decided : (a b c : Bool) (o p : Option ℕ) (r t : Bool) (m out : List ℕ) → a ≡ true → b ≡ true → c ≡ true → o ≡ p → r ≡ t
    → decide_merge a b c o r m out ≡ decide_merge true true true p t m out
decided a b c o p r t m out ha hb hc ho hr = rw (ha, hb, hc, ho, hr)

-- how a call of merge ends if there is room
pub data Ends (R : Reader) (d x y out : List ℕ) : Type 0 where
  joins : ((k : ℕ) → k < length (R.slots d) → Clash (on R d x k) (on R d y k) → ⊥)
      → merge_call R x y out ≡ (Ok (length (merged R x y)), merged R x y ++ drop (length (merged R x y)) out)
      → Ends R d x y out
  clash : (k : ℕ) → FirstClash R x y k → k < length (R.slots d) → Clash (on R d x k) (on R d y k)
      → merge_call R x y out ≡ (refuse conflict k, out)
      → Ends R d x y out

module _ (R : Reader) (L : Laws R) (d : List ℕ) (hd : Draft R d) (x y : List ℕ) (lx : Like R d x) (ly : Like R d y) where
  -- ---- the joins of the slots

  both : ℕ → List ℕ
  both p = join (slot_at x p) (slot_at y p)

  both_long : Long both (R.slots d)
  unfolding both
  both_long k b = length-join (on R d x k) (on R d y k) (length-on R L d hd x lx k b) (length-on R L d hd y ly k b)

  both_bytes : (p : ℕ) → Bytes (both p)
  unfolding both
  both_bytes p = bytes-join (slot_at x p) (slot_at y p) (bytes-slot_at x p lx.draft.bytes) (bytes-slot_at y p ly.draft.bytes)

  merged-eq : merged R x y ≡ put_all (R.slots d) both x
  unfolding merged both
  merged-eq = ap (λ (ps : List ℕ). put_all ps (λ p. join (slot_at x p) (slot_at y p)) x) lx.slots

  pub merged-like : Like R d (merged R x y)
  merged-like = subst⁻¹ (Like R d) merged-eq (like-put_all R L d hd x lx both both_long both_bytes)

  pub merged_on : (k : ℕ) → k < length (R.slots d) → on R d (merged R x y) k ≡ join (on R d x k) (on R d y k)
  unfolding both
  merged_on k b = ap (λ (m : List ℕ). on R d m k) merged-eq ∙ put_all-on R L d hd x lx both both_long both_bytes k b

  -- ---- the answer

  -- the answer, by the first clash and the room
  pub called : (o : Option ℕ) (t : Bool) (out : List ℕ) → first_clash 0 (R.slots d) x y ≡ o → leb (length x) (length out) ≡ t
      → merge_call R x y out ≡ decide_merge true true true o t (merged R x y) out
  unfolding merge_call
  called o t out ho hr =
      decided (R.accepts x) (R.accepts y) (same (body R x) (body R y)) (first_clash 0 (R.slots x) x y) o
      (leb (length x) (length out)) t (merged R x y) out lx.draft.accepted ly.draft.accepted
      (same-of-eq (body R x) (body R y) (sym lx.unsigned ∙ ly.unsigned))
      (ap (λ (ps : List ℕ). first_clash 0 ps x y) lx.slots ∙ ho) hr

  pub first-clash : (k : ℕ) → ClashFrom 0 (R.slots d) x y k → FirstClash R x y k
  unfolding slot_count slot
  first-clash k c =
      let e : c.k ≡ k = sym (zero-add c.k) ∙ c.at in
      subst (FirstClash R x y) e
      (record {
        k-in = subst⁻¹ (λ (ps : List ℕ). c.k < length ps) lx.slots c.k-in;
        here = subst⁻¹ (λ (ps : List ℕ). Clash (slot_at x (get_or ps c.k 0)) (slot_at y (get_or (R.slots y) c.k 0))) lx.slots
            (subst⁻¹ (λ (ps : List ℕ). Clash (slot_at x (get_or (R.slots d) c.k 0)) (slot_at y (get_or ps c.k 0))) ly.slots c.here);
        before = λ n b q. c.before n b
            (subst (λ (ps : List ℕ). Clash (slot_at x (get_or (R.slots d) n 0)) (slot_at y (get_or ps n 0))) ly.slots
            (subst (λ (ps : List ℕ). Clash (slot_at x (get_or ps n 0)) (slot_at y (get_or (R.slots y) n 0))) lx.slots q));
      })

  pub ends : (out : List ℕ) → length d ≤ length out → Ends R d x y out
  ends out room = go (first_clash 0 (R.slots d) x y) refl
    where
      go : (o : Option ℕ) → first_clash 0 (R.slots d) x y ≡ o → Ends R d x y out
      go None e =
          joins (first-none 0 (R.slots d) x y e)
          (called None true out e (le-leb (length x) (length out) (omega (arith, lx.frame.long))))
      go (Some k) e =
          let c = first_some 0 (R.slots d) x y k e in
          let q : c.k ≡ k = sym (zero-add c.k) ∙ c.at in
          clash k (first-clash k c)
          (subst (λ (n : ℕ). n < length (R.slots d)) q c.k-in)
          (subst (λ (n : ℕ). Clash (on R d x n) (on R d y n)) q c.here)
          (called (Some k) (leb (length x) (length out)) out e refl)
