-- One call of fill, and successive calls over a blank draft. Assumes nothing but `Laws`.
use Rattle.std.specs.Prelude.{Ok, Result}
use Rattle.wire.specs.declared.Refusal.{Refusal}
use mathlib.Core.Path.{◌≡◌, refl, sym, ap, ◌∙◌, subst, subst⁻¹}
use mathlib.Core.Logic.{◌⊎◌, inl, inr}
use mathlib.Core.Bool.{Bool, true, false}
use mathlib.Core.List.{List, [], ◌∷◌, map}
use Prim.Native.Nat.{ℕ, suc, ◌+◌, ◌≤◌, ◌<◌}
use native.Mathlib.Decide.{dec_lt, ℕ_discrete}
use native.Mathlib.Omega.{arith}
use lib.ListN.{length, drop, get_or, length-drop}
use lib.Seq.{drop-cons}
use borrow.Author.Tests.{lt-ltb, eq-eqb}
use Rattle.wire.specs.Bytes.{Bytes}
use Rattle.wire.specs.Numbers.{conflict}
use Rattle.transaction.specs.Slots.{signature_width, blank, slot_at, put_slot, put_all}
use Rattle.transaction.proofs.Slots.{length-slot_at, bytes-slot_at, length-blank, bytes-blank}
use Rattle.draft_slots.specs.Joining.{Clash, clashes, join}
use Rattle.draft_slots.proofs.Comparing.{dec-same, join-second, join-empty, length-join, bytes-join, clashes-of, clashes-none}
use Rattle.draft_slots.proofs.Putting.{spaced-at, spaced-before, outside-at, by_slots, length-put, bytes-put, put-own, put-before, put-after}
use Rattle.draft_slots.proofs.Putting.{put-slot, put-slot-before, put-slot-after}
use Rattle.draft.specs.Reader.{Reader, Draft, slot_count, slot}
use Rattle.draft.specs.Calls.{refuse, decide_fill, fill_call}
use Rattle.draft_theorems.specs.Filling.{signatures, emptied, BlankOf, Fills, Leaves, Filling}
use Rattle.draft_theorems.proofs.Laws.{Laws, Like, like-self, like-read, like-refilled, slot-on, like-put_all, put_all-on}

-- ---- one slot replaced

module _ (R : Reader) (L : Laws R) (d : List ℕ) (hd : Draft R d) (k : ℕ) (kb : k < slot_count R d) where
  at-k : ℕ
  at-k = get_or (R.slots d) k 0

  k-in : k < length (R.slots d)
  unfolding slot_count
  k-in = kb

  fits : at-k + signature_width ≤ length d
  unfolding at-k
  fits = (spaced-at 0 (R.slots d) (length d) (L.apart d hd) k k-in).1

  module _ (s : List ℕ) (hs : length s ≡ signature_width) (bs : Bytes s) where
    put-like : Like R d (put_slot at-k s d)
    unfolding at-k
    put-like =
        like-refilled R L d (put_slot at-k s d) hd (bytes-put at-k s d bs hd.bytes)
        record { long = length-put at-k s d hs fits; outside = λ n o. away n (outside-at (R.slots d) n o k k-in) }
      where
        away : (n : ℕ) → (n < at-k) ⊎ (at-k + signature_width ≤ n) → get_or (put_slot at-k s d) n 0 ≡ get_or d n 0
        away n (inl h) = put-before at-k s d hs fits n h
        away n (inr h) = put-after at-k s d hs fits n h

    put-here : slot R (put_slot at-k s d) k ≡ s
    unfolding at-k
    put-here = slot-on R d (put_slot at-k s d) k put-like.slots ∙ put-slot at-k s d hs fits

    put-others : (j : ℕ) → j < slot_count R d → (j ≡ k → ⊥) → slot R (put_slot at-k s d) j ≡ slot R d j
    unfolding slot_count at-k
    put-others j b ne = slot-on R d (put_slot at-k s d) j put-like.slots ∙ go (dec_lt j k) ∙ sym (slot-on R d d j refl)
      where
        order : (i j : ℕ) → i < j → j < length (R.slots d) → get_or (R.slots d) i 0 + signature_width ≤ get_or (R.slots d) j 0
        order = spaced-before 0 (R.slots d) (length d) (L.apart d hd)

        go : Dec (j < k) → slot_at (put_slot at-k s d) (get_or (R.slots d) j 0) ≡ slot_at d (get_or (R.slots d) j 0)
        go (yes h) = put-slot-before at-k s d hs fits (get_or (R.slots d) j 0) (order j k h k-in)
        go (no h) = put-slot-after at-k s d hs fits (get_or (R.slots d) j 0) (order k j (omega arith) b)

  -- ---- one call

  module _ (s : List ℕ) (hs : length s ≡ signature_width) where
    fill_is : (t : Bool) → clashes (slot R d k) s ≡ t → fill_call R d k s ≡ decide_fill true true true t k (put_slot at-k (join (slot R d k) s) d) d
    unfolding fill_call at-k
    fill_is t h = rw (hd.accepted, lt-ltb k (slot_count R d) kb, eq-eqb (length s) signature_width hs, h)

    fill-refused : Clash (slot R d k) s → fill_call R d k s ≡ (refuse conflict k, d)
    fill-refused c = fill_is true (clashes-of (slot R d k) s c)

    module _ (nc : Clash (slot R d k) s → ⊥) where
      fill_done : fill_call R d k s ≡ (Ok (length d), put_slot at-k (join (slot R d k) s) d)
      fill_done = fill_is false (clashes-none (slot R d k) s nc)

      after : (fill_call R d k s).1 ≡ put_slot at-k (join (slot R d k) s) d
      after = ap (λ (a : Result ℕ Refusal × List ℕ). a.1) fill_done

      fill-leaves : Bytes s → Leaves R d k s (fill_call R d k s).1
      unfolding at-k slot
      fill-leaves bs =
          let j : List ℕ = join (slot R d k) s in
          let hj : length j ≡ signature_width = length-join (slot R d k) s (length-slot_at d at-k fits) hs in
          let bj : Bytes j = bytes-join (slot R d k) s (bytes-slot_at d at-k hd.bytes) bs in
          let l : Like R d (put_slot at-k j d) = put-like j hj bj in
          subst⁻¹ (Leaves R d k s) after
          record {
            draft = l.draft;
            same-unsigned = sym l.unsigned;
            same-slots = l.slots;
            outside = l.frame;
            holds = λ f. put-here j hj bj ∙ join-second (slot R d k) s nc f;
            unchanged = λ e. ap (λ (x : List ℕ). put_slot at-k (join (slot R d k) x) d) e ∙ ap (λ (x : List ℕ). put_slot at-k x d) (join-empty (slot R d k))
                ∙ put-own at-k d;
            others = put-others j hj bj;
          }

-- ---- the calls that fill the blank draft of a transaction

module _ (R : Reader) (L : Laws R) (d : List ℕ) (hd : Draft R d) where
  in-like : (e : List ℕ) → Like R d e → (k : ℕ) → k < length (R.slots d) → k < slot_count R e
  unfolding slot_count
  in-like e l k b = subst⁻¹ (λ (ps : List ℕ). k < length ps) l.slots b

  -- the slots before k are filled as in d, and the others are empty
  record UpTo (k : ℕ) (e : List ℕ) : Type 0 where
    pub like : Like R d e
    pub filled : (j : ℕ) → j < k → j < length (R.slots d) → slot R e j ≡ slot R d j
    pub empty : (j : ℕ) → k ≤ j → j < length (R.slots d) → slot R e j ≡ blank

  no-clash : (a s : List ℕ) → a ≡ blank → Clash a s → ⊥
  no-clash a s e c = c.first e

  fills-from : (ps : List ℕ) (k : ℕ) (e : List ℕ) → drop k (R.slots d) ≡ ps → UpTo k e → Fills R k (map (slot_at d) ps) e d
  fills-from [] k e h u =
      by_slots (R.slots d) e d u.like.frame.long u.like.frame.outside
      (λ j b.
      sym (slot-on R d e j u.like.slots)
      ∙ u.filled j (omega (arith, length-drop k (R.slots d), ap length h)) b
      ∙ slot-on R d d j refl)
  fills-from (p ∷ ps) k e h u =
      let b : k < length (R.slots d) = omega (arith, length-drop k (R.slots d), ap length h) in
      let c : p ∷ ps ≡ get_or (R.slots d) k 0 ∷ drop (suc k) (R.slots d) = sym h ∙ drop-cons (R.slots d) k 0 b in
      let hp : p ≡ get_or (R.slots d) k 0 = cc in
      let hps : drop (suc k) (R.slots d) ≡ ps = cc in
      let hs : length (slot_at d p) ≡ signature_width =
      length-slot_at d p (subst⁻¹ (λ (q : ℕ). q + signature_width ≤ length d) hp (spaced-at 0 (R.slots d) (length d) (L.apart d hd) k b).1) in
      let kb : k < slot_count R e = in-like e u.like k b in
      let nc : Clash (slot R e k) (slot_at d p) → ⊥ = no-clash (slot R e k) (slot_at d p) (u.empty k (omega arith) b) in
      let l : Leaves R e k (slot_at d p) (fill_call R e k (slot_at d p)).1 =
      fill-leaves R L e u.like.draft k kb (slot_at d p) hs nc (bytes-slot_at d p hd.bytes) in (
        ap (λ (a : Result ℕ Refusal × List ℕ). a.0) (fill_done R L e u.like.draft k kb (slot_at d p) hs nc),
        fills-from ps (suc k) (fill_call R e k (slot_at d p)).1 hps
            (next k e (slot_at d p) (fill_call R e k (slot_at d p)).1 b u (ap (slot_at d) hp ∙ sym (slot-on R d d k refl)) l),
      )
    where
      next : (k : ℕ) (e s f : List ℕ) → k < length (R.slots d) → UpTo k e → s ≡ slot R d k → Leaves R e k s f → UpTo (suc k) f
      next k e s f b u hs l =
          record {
            like = like-read R L d f hd l.draft (u.like.unsigned ∙ sym l.same-unsigned);
            filled = λ j bj jn. fill-j j bj jn (ℕ_discrete j k);
            empty = λ j bj jn. l.others j (in-like e u.like j jn) (λ q. omega arith) ∙ u.empty j (omega arith) jn;
          }
        where
          here : Dec (s ≡ blank) → slot R f k ≡ s
          here (yes z) = ap (λ (x : List ℕ). slot R x k) (l.unchanged z) ∙ u.empty k (omega arith) b ∙ sym z
          here (no n) = l.holds n

          fill-j : (j : ℕ) → j < suc k → j < length (R.slots d) → Dec (j ≡ k) → slot R f j ≡ slot R d j
          fill-j j bj jn (yes q) = ap (slot R f) q ∙ here (dec-same s blank) ∙ hs ∙ ap (slot R d) (sym q)
          fill-j j bj jn (no n) = l.others j (in-like e u.like j jn) n ∙ u.filled j (omega arith) jn

  pub fills-blank : (b : List ℕ) → BlankOf R d b → Fills R 0 (signatures R d) b d
  fills-blank b B =
      let l : Like R d b = like-read R L d b hd B.draft (sym B.same-unsigned) in
      fills-from (R.slots d) 0 b refl
      record { like = l; filled = λ j bj jn. absurd (omega arith); empty = λ j bj jn. B.empty j (in-like b l j jn) }

  pub blank-emptied : BlankOf R d (emptied R d)
  unfolding emptied slot_count
  blank-emptied =
      let l : Like R d (put_all (R.slots d) (λ p. blank) d) =
      like-put_all R L d hd d (like-self R d hd) (λ p. blank) (λ k b. length-blank) (λ p. bytes-blank) in
      record {
        draft = l.draft;
        same-unsigned = sym l.unsigned;
        empty = λ k b. slot-on R d (emptied R d) k l.slots
            ∙ put_all-on R L d hd d (like-self R d hd) (λ p. blank) (λ k b. length-blank) (λ p. bytes-blank) k (back k l b);
      }
    where
      back : (k : ℕ) → Like R d (emptied R d) → k < slot_count R (emptied R d) → k < length (R.slots d)
      back k l b = subst (λ (ps : List ℕ). k < length ps) l.slots b

pub filling : (R : Reader) → Laws R → Filling R
filling R L =
    record {
      refused = λ d hd k b s hs c. fill-refused R L d hd k b s hs c;
      done = λ d hd k b s hs nc. ap (λ (a : Result ℕ Refusal × List ℕ). a.0) (fill_done R L d hd k b s hs nc);
      leaves = λ d hd k b s hs nc bs. fill-leaves R L d hd k b s hs nc bs;
      fills = λ d hd b B. fills-blank R L d hd b B;
      blank = λ d hd. blank-emptied R L d hd;
    }
