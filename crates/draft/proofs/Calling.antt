-- What fill and merge answer, by what the code has found. Assumes nothing.
use Rattle.std.specs.Prelude.{Ok, Err, Some, None, Option, Result}
use mathlib.Core.Path.{◌≡◌, refl, sym, ap, ap₂, ◌∙◌}
use mathlib.Core.Bool.{Bool, true, false, not}
use mathlib.Core.List.{List, ◌++◌}
use Prim.Native.Nat.{ℕ, ◌+◌, ◌≤◌, ◌<◌}
use native.Mathlib.Omega.{arith}
use lib.Dec.{leb, ltb, eqb}
use borrow.Author.Tests.{le-leb, lt-leb, eq-eqb, ne_eqb}
use lib.ListN.{length, drop, get_or}
use Rattle.wire.specs.Bytes.{between, pick}
use Rattle.wire.specs.declared.Refusal.{Refusal}
use Rattle.wire.specs.Numbers.{refusal, no_room, no_entry, first_not_accepted, second_not_accepted, drafts_differ, conflict, not_a_signature}
use Rattle.wire.proofs.Bytes.{Slice}
use Rattle.transaction.specs.Slots.{signature_width, slot_at, put_slot}
use Rattle.transaction.specs.Answer.{checked}
use Rattle.transaction.specs.declared.Layout.{Layout}
use Rattle.draft_slots.specs.Joining.{same, join, clashes, first_clash}
use Rattle.draft_slots.specs.code.Scan.{scan_from, placed, joined_at, join_all, joined_with}
use Rattle.draft_slots.proofs.Comparing.{same-eq}
use Rattle.draft_slots.proofs.InPlace.{length-joined_at, length-join_all, joined-put, joined-all}
use Rattle.draft.specs.Reader.{Reader, body}
use Rattle.draft.specs.Calls.{merged, decide_merge, merge_call, decide_fill, fill_call}
use Rattle.draft.proofs.Known.{avm_reader, Known, known, not-accepted, known-body, alike}

-- an equal answer beside the same lent bytes
beside : (r a : Refusal) (s : List ℕ) (z : Result ℕ Refusal × List ℕ) → r ≡ a → (Err a, s) ≡ z → (Err r, s) ≡ z
beside r a s z h e = ap (λ (x : Refusal). (Err x, s)) h ∙ e

placed_at : (ps : List ℕ) (k p : ℕ) → placed ps k ≡ Some p → (ltb k (length ps) ≡ true) × (get_or ps k 0 ≡ p)
placed_at ps k p = go (ltb k (length ps))
  where
    go : (b : Bool) → pick b (Some (get_or ps k 0)) None ≡ Some p → (b ≡ true) × (get_or ps k 0 ≡ p)
    go true h = (refl, cc)
    go false h = let z : ◌≡◌ {A = ℕ} 0 1 = cc in absurd (omega arith)

placed-none : (ps : List ℕ) (k : ℕ) → placed ps k ≡ None → ltb k (length ps) ≡ false
placed-none ps k = go (ltb k (length ps))
  where
    go : (b : Bool) → pick b (Some (get_or ps k 0)) None ≡ None → b ≡ false
    go true h = let z : ◌≡◌ {A = ℕ} 0 1 = cc in absurd (omega arith)
    go false h = refl

sixty-five : (n : ℕ) → n ≡ 65 → n ≡ signature_width
unfolding signature_width
sixty-five n h = h

-- ---- merging two drafts of one unsigned transaction, whose c credentials start at `at`

module _ (d e out : List ℕ) (at c : ℕ) where
  abbrev Alike : Result ℕ Refusal × List ℕ
  Alike = decide_merge true true true (first_clash 0 (scan_from c d at) d e) (leb (length d) (length out)) (joined_with e c at d) out

  chosen : (o : Option ℕ) (r : Bool) → first_clash 0 (scan_from c d at) d e ≡ o → leb (length d) (length out) ≡ r
      → decide_merge true true true o r (joined_with e c at d) out ≡ Alike
  chosen o r ho hr = sym (rw (ho, hr))

  module _ (z : Option ℕ) (hz : z ≡ first_clash 0 (scan_from c d at) d e) where
    pub merge-20 : (k : ℕ) → z ≡ Some k → (r : Refusal) → r ≡ refusal conflict k → (Err r, out) ≡ Alike
    merge-20 k i r h = beside r (refusal conflict k) out _ h (chosen (Some k) _ (sym hz ∙ i) refl)

    module _ (i : z ≡ None) where
      no-clash : first_clash 0 (scan_from c d at) d e ≡ None
      no-clash = sym hz ∙ i

      pub merge-14 : length out < length d → (r : Refusal) → r ≡ refusal no_room 0 → (Err r, out) ≡ Alike
      merge-14 l r h = beside r (refusal no_room 0) out _ h (chosen None false no-clash (lt-leb (length d) (length out) l))

      -- the front of out was lent, and is now u, the merge
      pub merge-0 : (u : List ℕ) → length d ≤ length out
          → (v : List ℕ) → u ≡ joined_with e c at v → v ≡ d
          → (Ok (length d), u ++ drop (length d) out) ≡ Alike
      merge-0 u l v h k =
          ap₂ (λ (i : ℕ) (s : List ℕ). (Ok i, s ++ drop i out)) (sym (length-join_all e (scan_from c e at) d))
          (h ∙ ap (λ (s : List ℕ). joined_with e c at s) k)
          ∙ chosen None true no-clash (le-leb (length d) (length out) l)

-- ---- filling the slot that starts at p: a is what it holds

module _ (d : List ℕ) (k p : ℕ) (s a : List ℕ) (ha : a ≡ slot_at d p) (t : Bool) (ht : t ≡ clashes a s) where
  clash : clashes (slot_at d p) s ≡ t
  clash = sym (ht ∙ ap (λ (y : List ℕ). clashes y s) ha)

  pub fill-20 : t ≡ true → (r : Refusal) → r ≡ refusal conflict k → (Err r, d) ≡ decide_fill true true true (clashes (slot_at d p) s) k (joined_at p s d) d
  fill-20 q r h = beside r (refusal conflict k) d _ h (sym (rw (clash ∙ q)))

  pub fill-0 : t ≡ false → (u : List ℕ) → u ≡ joined_at p s d
      → (Ok (length u), u) ≡ decide_fill true true true (clashes (slot_at d p) s) k (joined_at p s d) d
  fill-0 q u h =
      ap (λ (y : List ℕ). (Ok (length y), y)) h ∙ ap (λ (n : ℕ). (Ok n, joined_at p s d)) (length-joined_at p s d) ∙ sym (rw (clash ∙ q))

-- with memos of at most `most` bytes
module _ (most : ℕ) where
  abbrev R : Reader
  R = avm_reader most

  -- ---- merge

  decided : (d e out : List ℕ) (a b c : Bool) (o : Option ℕ) (r : Bool) → R.accepts d ≡ a → R.accepts e ≡ b → same (body R d) (body R e) ≡ c
      → first_clash 0 (R.slots d) d e ≡ o → leb (length d) (length out) ≡ r → decide_merge a b c o r (merged R d e) out ≡ merge_call R d e out
  unfolding merge_call
  decided d e out a b c o r ha hb hc ho hr = sym (rw (ha, hb, hc, ho, hr))

  module _ (d e out : List ℕ) (x : Result (Layout × ℕ) Refusal) (px : x ≡ checked most d) where
    pub merge-17 : (f : Refusal) → x ≡ Err f → (r : Refusal) → r ≡ refusal first_not_accepted 0 → (Err r, out) ≡ merge_call R d e out
    merge-17 f q r h = beside r (refusal first_not_accepted 0) out _ h (decided d e out false _ _ _ _ (not-accepted most d x f px q) refl refl refl refl)

    module _ (w : Layout) (n : ℕ) (qx : x ≡ Ok (w, n)) (bd : Slice d) (y : Result (Layout × ℕ) Refusal) (py : y ≡ checked most e) where
      first : Known most d w n
      first = known most d bd x w n px qx

      pub merge-18 : (f : Refusal) → y ≡ Err f → (r : Refusal) → r ≡ refusal second_not_accepted 0 → (Err r, out) ≡ merge_call R d e out
      merge-18 f q r h = beside r (refusal second_not_accepted 0) out _ h
          (decided d e out true false _ _ _ first.accepts (not-accepted most e y f py q) refl refl refl)

      module _ (v : Layout) (m : ℕ) (qy : y ≡ Ok (v, m)) (be : Slice e) (a b : List ℕ)
          (ha : a ≡ between 0 w.credentials_at d) (hb : b ≡ between 0 v.credentials_at e) (t : Bool) (ht : t ≡ same a b) where
        second : Known most e v m
        second = known most e be y v m py qy

        bodies : same (body R d) (body R e) ≡ t
        bodies = sym (ht ∙ ap₂ same (ha ∙ known-body most d w n first) (hb ∙ known-body most e v m second))

        pub merge-19 : not t ≡ true → (r : Refusal) → r ≡ refusal drafts_differ 0 → (Err r, out) ≡ merge_call R d e out
        merge-19 q r h = beside r (refusal drafts_differ 0) out _ h
            (decided d e out true true false _ _ first.accepts second.accepts (bodies ∙ go t q) refl refl)
          where
            go : (t : Bool) → not t ≡ true → t ≡ false
            go false q = refl
            go true q = let z : ◌≡◌ {A = ℕ} 0 1 = cc in absurd (omega arith)

        -- the two are drafts of one transaction
        module _ (q : not t ≡ false) where
          same-bodies : same (body R d) (body R e) ≡ true
          same-bodies = bodies ∙ go t q
            where
              go : (t : Bool) → not t ≡ false → t ≡ true
              go true q = refl
              go false q = let z : ◌≡◌ {A = ℕ} 0 1 = cc in absurd (omega arith)

          joined : joined_with e w.credentials_count (w.credentials_at + 4) d ≡ merged R d e
          unfolding merged
          joined =
              let both = alike most d e w v n m first second (same-eq (body R d) (body R e) same-bodies) in
              let slots : scan_from w.credentials_count e (w.credentials_at + 4) ≡ R.slots d =
              ap₂ (λ (c q : ℕ). scan_from c e (q + 4)) both.3 both.2 ∙ second.slots ∙ both.0 in
              ap (λ (ps : List ℕ). join_all ps e d) slots ∙ joined-all e 0 (R.slots d) d first.spaced both.1

          pub merge-alike : (z : Result ℕ Refusal × List ℕ) → z ≡ Alike d e out (w.credentials_at + 4) w.credentials_count → z ≡ merge_call R d e out
          merge-alike z h =
              h ∙ ap₂ (λ (ps x : List ℕ). decide_merge true true true (first_clash 0 ps d e) (leb (length d) (length out)) x out) first.slots joined
              ∙ decided d e out true true true _ _ first.accepts second.accepts same-bodies refl refl

  -- ---- fill

  settled : (d : List ℕ) (k : ℕ) (s : List ℕ) (a b l c : Bool) → R.accepts d ≡ a → ltb k (length (R.slots d)) ≡ b → eqb (length s) 65 ≡ l
      → clashes (slot_at d (get_or (R.slots d) k 0)) s ≡ c
      → decide_fill a b l c k (put_slot (get_or (R.slots d) k 0) (join (slot_at d (get_or (R.slots d) k 0)) s) d) d ≡ fill_call R d k s
  unfolding fill_call signature_width
  settled d k s a b l c ha hb hl hc = sym (rw (ha, hb, hl, hc))

  module _ (d : List ℕ) (k : ℕ) (s : List ℕ) (x : Result (Layout × ℕ) Refusal) (px : x ≡ checked most d) where
    pub fill-17 : (f : Refusal) → x ≡ Err f → (r : Refusal) → r ≡ refusal first_not_accepted 0 → (Err r, d) ≡ fill_call R d k s
    fill-17 f q r h = beside r (refusal first_not_accepted 0) d _ h (settled d k s false _ _ _ (not-accepted most d x f px q) refl refl refl)

    module _ (w : Layout) (n : ℕ) (qx : x ≡ Ok (w, n)) (bd : Slice d) (z : Option ℕ)
        (hz : z ≡ placed (scan_from w.credentials_count d (w.credentials_at + 4)) k) where
      draft : Known most d w n
      draft = known most d bd x w n px qx

      place : placed (R.slots d) k ≡ z
      place = ap (λ (ps : List ℕ). placed ps k) (sym draft.slots) ∙ sym hz

      pub fill-15 : z ≡ None → (r : Refusal) → r ≡ refusal no_entry 0 → (Err r, d) ≡ fill_call R d k s
      fill-15 q r h = beside r (refusal no_entry 0) d _ h (settled d k s true false _ _ draft.accepts (placed-none (R.slots d) k (place ∙ q)) refl refl)

      module _ (p : ℕ) (qz : z ≡ Some p) where
        there : (ltb k (length (R.slots d)) ≡ true) × (get_or (R.slots d) k 0 ≡ p)
        there = placed_at (R.slots d) k p (place ∙ qz)

        pub fill-21 : (length s ≡ 65 → ⊥) → (r : Refusal) → r ≡ refusal not_a_signature 0 → (Err r, d) ≡ fill_call R d k s
        fill-21 q r h = beside r (refusal not_a_signature 0) d _ h (settled d k s true true false _ draft.accepts there.0 (ne_eqb (length s) 65 q) refl)

        pub fill-at : length s ≡ 65 → (y : Result ℕ Refusal × List ℕ) → y ≡ decide_fill true true true (clashes (slot_at d p) s) k (joined_at p s d) d
            → y ≡ fill_call R d k s
        fill-at l y h =
            h ∙ ap (λ (x : List ℕ). decide_fill true true true (clashes (slot_at d p) s) k x d) (joined-put p s d (sixty-five (length s) l))
            ∙ ap (λ (i : ℕ). decide_fill true true true (clashes (slot_at d i) s) k (put_slot i (join (slot_at d i) s) d) d) (sym there.1)
            ∙ settled d k s true true true _ draft.accepts there.0 (eq-eqb (length s) 65 l) refl
