-- The answers of check and merge as one integer. Assumes nothing.
use Rattle.std.specs.Prelude.{Ok, Err, Option, Result, None, Some}
use Prim.Native.Nat.{ℕ, ◌≤◌}
use lib.Dec.{leb}
use mathlib.Core.Path.{◌≡◌, refl, sym, ap, ◌∙◌, subst}
use mathlib.Core.Bool.{Bool, true, false}
use mathlib.Core.List.{List, ◌++◌}
use native.Mathlib.Omega.{arith}
use lib.ListN.{length, drop}
use Rattle.wire.specs.Bytes.{Bytes}
use Rattle.wire.specs.Format.{Format, verdict}
use Rattle.wire.specs.declared.Rule.{Rule}
use Rattle.wire.specs.declared.Refusal.{Refusal}
use Rattle.wire.proofs.Bytes.{Slice, slice-bytes, found}
use Rattle.wire.specs.Numbers.{refusal, number_of, no_room, first_not_accepted, second_not_accepted, drafts_differ, conflict}
use Rattle.transaction.specs.Slots.{slot_at}
use Rattle.transaction.proofs.Slots.{length-slot_at}
use Rattle.transaction.specs.Credentials.{Want}
use Rattle.transaction.specs.Family.{Unsigned, unsigned, wants, check}
use Rattle.transaction.specs.Avm.{avm}
use Rattle.transaction.specs.Answer.{memo_most, checked}
use Rattle.transaction.specs.declared.Layout.{Layout}
use Rattle.transaction.proofs.Verdicts.{checked-place, checked-accepted, checked_refused}
use Rattle.transaction.proofs.Signed.{parts-of, same-unsigned, length-eq, spaced-slots}
use Rattle.draft_slots.specs.Joining.{same, join, first_clash}
use Rattle.draft_slots.proofs.Comparing.{first_some, same-eq, length-join}
use Rattle.draft_slots.proofs.Putting.{spaced-at, length-put_all}
use Rattle.draft.specs.Reader.{Reader, reader, body}
use Rattle.draft.specs.Calls.{answer_number, answer_place, refuse, merged, decide_merge, merge_call}
use Rattle.draft.proofs.Packing.{spaced-count}
use Rattle.phone.specs.Packed.{packed, packed_call}

-- x is what the check answered
module _ (s : List ℕ) (b : Slice s) (x : Result (Layout × ℕ) Refusal) (p : x ≡ checked memo_most s) where
  pub accepted-packed : (w : Layout) (n : ℕ) → x ≡ Ok (w, n) → n ≡ packed (verdict (check (avm memo_most) s))
  accepted-packed w n q =
      let (v, t, _) = checked-accepted memo_most s w n (found q p) in
      omega (arith, ap (λ o. packed (verdict o)) t)

  pub refused-packed : (e : Refusal) → x ≡ Err e → (n : ℕ) → n ≡ packed (number_of e, e.place) → n ≡ packed (verdict (check (avm memo_most) s))
  refused-packed e q n h = h ∙ sym (ap packed (checked_refused memo_most s e (found q p)))

  pub refused-small : (e : Refusal) → x ≡ Err e → e.place ≤ 65536
  refused-small e q = checked-place memo_most s e (slice-bytes s b) (found q p)

pub ruleset packing = (accepted-packed, refused-packed)

-- ---- merge

-- no answer is both done and refused
refuses : {P : Type 0} (n : ℕ) (s : List ℕ) (e : Refusal) (t : List ℕ) → ◌≡◌ {A = (Result ℕ Refusal) × List ℕ} (Ok n, s) (Err e, t) → P
refuses n s e t q =
    let y : Ok n ≡ Err e = ap (λ (z : Result ℕ Refusal × List ℕ). z.0) q in
    let z : ◌≡◌ {A = ℕ} 0 1 = cc in
    absurd (omega arith)

abbrev U : Format (Unsigned (avm memo_most))
U = unsigned (avm memo_most)

abbrev W : Unsigned (avm memo_most) → List Want
W = wants (avm memo_most)

abbrev R : Reader
R = reader (avm memo_most)

module _ (d e out : List ℕ) (b : Bytes d) where
  -- the slot number of a conflict is at most 65,536
  slot_small : R.accepts d ≡ true → (k : ℕ) → first_clash 0 (R.slots d) d e ≡ Some k → k ≤ 65536
  slot_small h k q =
      let (u, l, p) = parts-of U W d b h in
      let c = first_some 0 (R.slots d) d e k q in
      omega (arith, p.short, spaced-count 0 (R.slots d) (length d) (spaced-slots U W d u l p), c.at, c.k-in)

  module _ (f : Refusal) (s : List ℕ) where
    small : (r : Rule) (p : ℕ) (t : List ℕ) → p ≤ 65536 → ◌≡◌ {A = (Result ℕ Refusal) × List ℕ} (Err f, s) (refuse r p, t) → f.place ≤ 65536
    small r p t h q =
        let y : Err f ≡ refuse r p = ap (λ (z : Result ℕ Refusal × List ℕ). z.0) q in
        let z : refusal r p ≡ f = cc in subst (λ (g : Refusal). g.place ≤ 65536) z h

    decided-small : (u v w : Bool) (o : Option ℕ) (r : Bool) (m : List ℕ) → (u ≡ true → (k : ℕ) → o ≡ Some k → k ≤ 65536)
        → (Err f, s) ≡ decide_merge u v w o r m out → f.place ≤ 65536
    decided-small false v w o r m h q = small first_not_accepted 0 out (omega arith) q
    decided-small true false w o r m h q = small second_not_accepted 0 out (omega arith) q
    decided-small true true false o r m h q = small drafts_differ 0 out (omega arith) q
    decided-small true true true (Some k) r m h q = small conflict k out (h refl k refl) q
    decided-small true true true None false m h q = small no_room 0 out (omega arith) q
    decided-small true true true None true m h q = refuses (length m) (m ++ drop (length m) out) f s (sym q)

  -- a is what merge answered, and s what it left of out
  module _ (a : Result ℕ Refusal) (s : List ℕ) (p : (a, s) ≡ merge_call R d e out) where
    pub merge-small : (f : Refusal) → a ≡ Err f → f.place ≤ 65536
    unfolding merge_call
    merge-small f q =
        decided-small f s (R.accepts d) (R.accepts e) (same (body R d) (body R e)) (first_clash 0 (R.slots d) d e) (leb (length d) (length out))
        (merged R d e) slot_small
        (ap (λ (x : Result ℕ Refusal). (x, s)) (sym q) ∙ p)

-- the same, with the call's contract before what is known of the first draft
pub called-small : (d e out : List ℕ) (a : Result ℕ Refusal) (s : List ℕ) → (a, s) ≡ merge_call R d e out → (f : Refusal) → a ≡ Err f
    → Bytes d → f.place ≤ 65536
called-small d e out a s p f q b = merge-small d e out b a s p f q

-- a is what merge answered, and s what it left of out
module _ (d e out : List ℕ) (a : Result ℕ Refusal) (s : List ℕ) (p : (a, s) ≡ merge_call R d e out) where
  pub merge-done : (n : ℕ) → a ≡ Ok n → (n, s) ≡ packed_call (merge_call R d e out)
  merge-done n q =
      let z : n ≡ packed (answer_number (Ok n), answer_place (Ok n)) = omega arith in
      ap (λ (i : ℕ). (i, s)) z ∙ ap (λ (x : Result ℕ Refusal). packed_call (x, s)) (sym q) ∙ ap packed_call p

  pub merge-refused : (f : Refusal) → a ≡ Err f → (n : ℕ) → n ≡ packed (number_of f, f.place) → (n, s) ≡ packed_call (merge_call R d e out)
  merge-refused f q n h = ap (λ (i : ℕ). (i, s)) h ∙ ap (λ (x : Result ℕ Refusal). packed_call (x, s)) (sym q) ∙ ap packed_call p

pub ruleset merged-packing = (merge-done, merge-refused)

-- ---- a merge that is done has at most 65,536 bytes

-- what holds if the merge m is done
record Tests (u v w : Bool) (m : List ℕ) (n : ℕ) : Type 0 where
  pub first : u ≡ true
  pub second : v ≡ true
  pub alike : w ≡ true
  pub long : n ≡ length m

decided-done : (n : ℕ) (s out : List ℕ) (u v w : Bool) (o : Option ℕ) (r : Bool) (m : List ℕ) → (Ok n, s) ≡ decide_merge u v w o r m out → Tests u v w m n
decided-done n s out false v w o r m q = refuses n s (refusal first_not_accepted 0) out q
decided-done n s out true false w o r m q = refuses n s (refusal second_not_accepted 0) out q
decided-done n s out true true false o r m q = refuses n s (refusal drafts_differ 0) out q
decided-done n s out true true true (Some k) r m q = refuses n s (refusal conflict k) out q
decided-done n s out true true true None false m q = refuses n s (refusal no_room 0) out q
decided-done n s out true true true None true m q =
    let y : Ok n ≡ Ok (length m) = ap (λ (z : Result ℕ Refusal × List ℕ). z.0) q in
    let z : n ≡ length m = cc in
    record { first = refl; second = refl; alike = refl; long = z }

module _ (d e : List ℕ) (bd : Bytes d) (be : Bytes e) where
  done-long : R.accepts d ≡ true → R.accepts e ≡ true → body R d ≡ body R e → length (merged R d e) ≤ 65536
  unfolding merged body
  done-long hd he h =
      let (u, l, p) = parts-of U W d bd hd in
      let (v, m, o) = parts-of U W e be he in
      let q = same-unsigned U W d e u v l m p o h in
      let spaced = spaced-slots U W d u l p in
      omega (
        arith,
        p.short,
        length-put_all (λ k. join (slot_at d k) (slot_at e k)) d 0 (R.slots d) spaced (λ k b.
            let fits = (spaced-at 0 (R.slots d) (length d) spaced k b).1 in
            length-join (slot_at d _) (slot_at e _) (length-slot_at d _ fits)
            (length-slot_at e _ (omega (arith, length-eq U W d u l p, length-eq U W e u m q)))),
      )

  pub merge-fits : (out s : List ℕ) (n : ℕ) → (Ok n, s) ≡ merge_call R d e out → n ≤ 65536
  unfolding merge_call
  merge-fits out s n q =
      let t = decided-done n s out (R.accepts d) (R.accepts e) (same (body R d) (body R e)) _ (leb (length d) (length out)) (merged R d e) q in
      omega (arith, t.long, done-long t.first t.second (same-eq (body R d) (body R e) t.alike))
