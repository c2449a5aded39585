-- `merge_of` is the merge of a list of drafts that do not conflict, and nothing else is. Assumes nothing but `Laws`.
use mathlib.Core.Path.{◌≡◌, refl, sym, ◌∙◌, subst}
use mathlib.Core.Logic.{◌⊎◌, inl, inr}
use mathlib.Core.List.{List, [], ◌∷◌}
use Prim.Native.Nat.{ℕ, zero, suc, ◌<◌, suc-le-suc}
use native.Mathlib.Nat.{le_of_suc-le-suc, not-suc-le-zero, zero-lt-suc}
use lib.ListN.{length, get_or}
use Rattle.wire.specs.Bytes.{Bytes}
use Rattle.transaction.specs.Slots.{signature_width, blank, slot_at}
use Rattle.transaction.proofs.Slots.{bytes-slot_at, length-blank, bytes-blank}
use Rattle.draft_slots.specs.Joining.{Filled, join}
use Rattle.draft_slots.proofs.Comparing.{dec-same, join-filled, join-blank, join_one, length-join, bytes-join}
use Rattle.draft_slots.proofs.Putting.{Long, by_slots}
use Rattle.draft.specs.Reader.{Reader, slot_count, slot}
use Rattle.draft_theorems.specs.Groupings.{at, Drafts}
use Rattle.draft_theorems.specs.Demand.{Conflict, held_at, merge_of, IsMerge}
use Rattle.draft_theorems.proofs.Laws.{Laws, Like, like-both, on, slot-on, length-on, like-put_all, put_all-on}
use Rattle.draft_theorems.proofs.Running.{first-draft, like_at, conflict-of}

-- ---- what the drafts hold at one offset

pub held_by : (p : ℕ) (ds : List (List ℕ)) → Filled (held_at p ds) → (i : ℕ) × (i < length ds) × (slot_at (at ds i) p ≡ held_at p ds)
unfolding held_at
held_by p [] f = absurd (f refl)
held_by p (d ∷ ds) f = go (held_by p ds) (join_one (slot_at d p) (held_at p ds))
  where
    go : (Filled (held_at p ds) → (i : ℕ) × (i < length ds) × (slot_at (at ds i) p ≡ held_at p ds))
        → (join (slot_at d p) (held_at p ds) ≡ slot_at d p) ⊎ (join (slot_at d p) (held_at p ds) ≡ held_at p ds)
        → (i : ℕ) × (i < length (d ∷ ds)) × (slot_at (at (d ∷ ds) i) p ≡ join (slot_at d p) (held_at p ds))
    go ih (inl e) = (0, zero-lt-suc (length ds), sym e)
    go ih (inr e) = let w = ih (λ z. f (e ∙ z)) in (suc w.0, suc-le-suc w.1, w.2 ∙ sym e)

pub held-filled : (p : ℕ) (ds : List (List ℕ)) (i : ℕ) → i < length ds → Filled (slot_at (at ds i) p) → Filled (held_at p ds)
unfolding held_at
held-filled p [] i b f z = absurd (not-suc-le-zero b)
held-filled p (d ∷ ds) zero b f z = f (sym (join-filled (slot_at d p) (held_at p ds) f) ∙ z)
held-filled p (d ∷ ds) (suc i) b f z = go (held-filled p ds i (le_of_suc-le-suc b) f) (dec-same (slot_at d p) blank)
  where
    go : Filled (held_at p ds) → Dec (slot_at d p ≡ blank) → ⊥
    go ih (yes e) = ih (sym (join-blank (slot_at d p) (held_at p ds) e) ∙ z)
    go ih (no n) = n (sym (join-filled (slot_at d p) (held_at p ds) n) ∙ z)

length-held : (p : ℕ) (ds : List (List ℕ)) → ((i : ℕ) → i < length ds → length (slot_at (at ds i) p) ≡ signature_width)
    → length (held_at p ds) ≡ signature_width
unfolding held_at
length-held p [] h = length-blank
length-held p (d ∷ ds) h =
    length-join (slot_at d p) (held_at p ds) (h 0 (zero-lt-suc (length ds))) (length-held p ds (λ i b. h (suc i) (suc-le-suc b)))

bytes-held : (p : ℕ) (ds : List (List ℕ)) → ((i : ℕ) → i < length ds → Bytes (at ds i)) → Bytes (held_at p ds)
unfolding held_at
bytes-held p [] h = bytes-blank
bytes-held p (d ∷ ds) h =
    bytes-join (slot_at d p) (held_at p ds) (bytes-slot_at d p (h 0 (zero-lt-suc (length ds)))) (bytes-held p ds (λ i b. h (suc i) (suc-le-suc b)))

-- ---- the merge

module _ (R : Reader) (L : Laws R) (ds : List (List ℕ)) (D : Drafts R ds) where
  held : ℕ → List ℕ
  held k = held_at (get_or (R.slots (at ds 0)) k 0) ds

  all-bytes : (p : ℕ) → Bytes (held_at p ds)
  all-bytes p = bytes-held p ds (λ i b. (D.drafts i b).bytes)

  all-long : Long (λ p. held_at p ds) (R.slots (at ds 0))
  all-long k b = length-held (get_or (R.slots (at ds 0)) k 0) ds (λ i bi. length-on R L (at ds 0) (first-draft R L ds D) (at ds i) (like_at R L ds D i bi) k b)

  pub merge-like : Like R (at ds 0) (merge_of R ds)
  unfolding merge_of
  merge-like = like-put_all R L (at ds 0) (first-draft R L ds D) (at ds 0) (like_at R L ds D 0 D.one-or-more) (λ p. held_at p ds) all-long all-bytes

  merge_on : (k : ℕ) → k < length (R.slots (at ds 0)) → on R (at ds 0) (merge_of R ds) k ≡ held k
  unfolding merge_of held
  merge_on = put_all-on R L (at ds 0) (first-draft R L ds D) (at ds 0) (like_at R L ds D 0 D.one-or-more) (λ p. held_at p ds) all-long all-bytes

  -- a draft of the list's unsigned transaction that holds every signature of the drafts, and fills no other slot, is the merge
  pub is-merge_of : (x : List ℕ) → Like R (at ds 0) x
      → ((k : ℕ) → k < length (R.slots (at ds 0)) → (i : ℕ) → i < length ds → Filled (on R (at ds 0) (at ds i) k)
      → on R (at ds 0) x k ≡ on R (at ds 0) (at ds i) k)
      → ((k : ℕ) → k < length (R.slots (at ds 0)) → Filled (on R (at ds 0) x k) → (i : ℕ) × (i < length ds) × Filled (on R (at ds 0) (at ds i) k))
      → x ≡ merge_of R ds
  unfolding held
  is-merge_of x l upper lower =
      by_slots (R.slots (at ds 0)) x (merge_of R ds)
      (l.frame.long ∙ sym merge-like.frame.long)
      (λ n o. l.frame.outside n o ∙ sym (merge-like.frame.outside n o))
      (λ k b. go k b (dec-same (held k) blank) (dec-same (on R (at ds 0) x k) blank) ∙ sym (merge_on k b))
    where
      go : (k : ℕ) → k < length (R.slots (at ds 0)) → Dec (held k ≡ blank) → Dec (on R (at ds 0) x k ≡ blank) → on R (at ds 0) x k ≡ held k
      go k b (no n) t =
          let w = held_by (get_or (R.slots (at ds 0)) k 0) ds n in
          upper k b w.0 w.1 (λ z. n (sym w.2 ∙ z)) ∙ w.2
      go k b (yes e) (yes z) = z ∙ sym e
      go k b (yes e) (no n) =
          let w = lower k b n in
          absurd (held-filled (get_or (R.slots (at ds 0)) k 0) ds w.0 w.1 w.2 e)

  -- ---- slots by their number

  pub on-slot : (i k : ℕ) → i < length ds → slot R (at ds i) k ≡ on R (at ds 0) (at ds i) k
  on-slot i k b = slot-on R (at ds 0) (at ds i) k (like_at R L ds D i b).slots

  slot-merge : (k : ℕ) → k < length (R.slots (at ds 0)) → slot R (merge_of R ds) k ≡ held k
  slot-merge k b = slot-on R (at ds 0) (merge_of R ds) k merge-like.slots ∙ merge_on k b

  pub in-first : (x : List ℕ) → R.slots x ≡ R.slots (at ds 0) → (k : ℕ) → k < slot_count R x → k < length (R.slots (at ds 0))
  unfolding slot_count
  in-first x e k b = subst (λ (ps : List ℕ). k < length ps) e b

  pub is-merge : (Conflict R ds → ⊥) → IsMerge R ds (merge_of R ds)
  unfolding held
  is-merge nc =
      record {
        draft = merge-like.draft;
        same-unsigned = λ i b. sym merge-like.unsigned ∙ (like_at R L ds D i b).unsigned;
        same-slots = λ i b. (like-both R (at ds 0) (at ds i) (merge_of R ds) (like_at R L ds D i b) merge-like).slots;
        outside = λ i b. (like-both R (at ds 0) (at ds i) (merge_of R ds) (like_at R L ds D i b) merge-like).frame;
        holds = λ k b i bi f. slot-merge k (inside k b) ∙ carried k (inside k b) i bi (λ z. f (on-slot i k bi ∙ z)) ∙ sym (on-slot i k bi);
        empty = λ k b. (
          λ e i bi. on-slot i k bi ∙ blank-at k i bi (sym (slot-merge k (inside k b)) ∙ e) (dec-same (on R (at ds 0) (at ds i) k) blank),
          λ all. slot-merge k (inside k b) ∙ blank-all k (λ i bi. sym (on-slot i k bi) ∙ all i bi) (dec-same (held k) blank),
        );
      }
    where
      inside : (k : ℕ) → k < slot_count R (merge_of R ds) → k < length (R.slots (at ds 0))
      inside = in-first (merge_of R ds) merge-like.slots

      carried : (k : ℕ) → k < length (R.slots (at ds 0)) → (i : ℕ) → i < length ds → Filled (on R (at ds 0) (at ds i) k) → held k ≡ on R (at ds 0) (at ds i) k
      carried k b i bi f = go (held_by (get_or (R.slots (at ds 0)) k 0) ds n) (dec-same (held k) (on R (at ds 0) (at ds i) k))
        where
          n : Filled (held k)
          n = held-filled (get_or (R.slots (at ds 0)) k 0) ds i bi f

          go : (j : ℕ) × (j < length ds) × (on R (at ds 0) (at ds j) k ≡ held k) → Dec (held k ≡ on R (at ds 0) (at ds i) k)
              → held k ≡ on R (at ds 0) (at ds i) k
          go w (yes e) = e
          go w (no q) =
              absurd (nc (conflict-of R L ds D k w.0 i b w.1 bi
              (record { first = λ z. n (sym w.2 ∙ z); second = f; differ = λ z. q (sym w.2 ∙ z) })))

      blank-at : (k i : ℕ) → i < length ds → held k ≡ blank → Dec (on R (at ds 0) (at ds i) k ≡ blank) → on R (at ds 0) (at ds i) k ≡ blank
      blank-at k i bi e (yes z) = z
      blank-at k i bi e (no n) = absurd (held-filled (get_or (R.slots (at ds 0)) k 0) ds i bi n e)

      blank-all : (k : ℕ) → ((i : ℕ) → i < length ds → on R (at ds 0) (at ds i) k ≡ blank) → Dec (held k ≡ blank) → held k ≡ blank
      blank-all k all (yes e) = e
      blank-all k all (no n) = let w = held_by (get_or (R.slots (at ds 0)) k 0) ds n in absurd (n (sym w.2 ∙ all w.0 w.1))
