-- The loops over the credentials of a transaction: what is left to do, by what the code has found. Assumes nothing.
use Rattle.std.specs.Prelude.{Option, Some, None}
use Prim.Native.Nat.{ℕ, zero, suc, ◌+◌, ◌-◌, ◌*◌, ◌^◌, ◌≤◌, ◌<◌}
use mathlib.Core.Path.{◌≡◌, refl, sym, ap, ap₂, ◌∙◌}
use mathlib.Core.List.{List, [], ◌∷◌, ◌++◌}
use native.Mathlib.Omega.{arith}
use native.Mathlib.Numerals.{add-one}
use lib.ListN.{length, set, length-append}
use lib.Seq.{length-sets}
use Rattle.wire.proofs.Bytes.{found}
use Rattle.draft_slots.specs.code.Scan.{range_at, on_range}
use Rattle.draft_slots.specs.declared.SlotRange.{SlotRange}
use Rattle.draft_slots.proofs.InPlace.{one-more}
use Rattle.draft_slots.proofs.Scanning.{range_inside}
use Rattle.draft_slot_table.specs.Slots.{Slot, slot_in, filled_at, row, rows}
use Rattle.draft_slot_table.specs.code.Scan.{slots_in, scan_from, put}
use Rattle.draft_slot_table.proofs.Rows.{length-rows, rows_append}

length-range : (k n p : ℕ) → length (slots_in k n p) ≡ n
unfolding slots_in
length-range k zero p = refl
length-range k (suc n) p = ap suc (length-range k n (p + 65))

-- the number of slots does not depend on the number of the first credential
length-scan : (j k n : ℕ) (s : List ℕ) (q : ℕ) → length (scan_from j n s q) ≡ length (scan_from k n s q)
unfolding scan_from
length-scan j k zero s q = refl
length-scan j k (suc n) s q = go (range_at s q) (λ next. length-scan (suc j) (suc k) n s next)
  where
    go : (x : Option SlotRange) → ((next : ℕ) → length (scan_from (suc j) n s next) ≡ length (scan_from (suc k) n s next))
        → length (on_range x [] (λ first c next. slots_in j c first ++ scan_from (suc j) n s next))
        ≡ length (on_range x [] (λ first c next. slots_in k c first ++ scan_from (suc k) n s next))
    go (Some r) ih =
        let a : List Slot = scan_from (suc j) n s r.next in
        let b : List Slot = scan_from (suc k) n s r.next in
        omega (
          arith,
          length-append (slots_in j r.count r.first) a,
          length-append (slots_in k r.count r.first) b,
          length-range j r.count r.first,
          length-range k r.count r.first,
          ih r.next,
        )
    go None ih = refl

-- after i of c credentials, of which the next is number k
module _ (k c i : ℕ) (s : List ℕ) (q : ℕ) where
  scan-end : c ≤ i → scan_from k (c - i) s q ≡ []
  unfolding scan_from
  scan-end h = let e : c - i ≡ 0 = omega arith in rw e

  module _ (l : i < c) (x : Option SlotRange) (e : x ≡ range_at s q) where
    on-next : (o : Option SlotRange) → range_at s q ≡ o
        → scan_from k (c - i) s q ≡ on_range o [] (λ f n m. slots_in k n f ++ scan_from (suc k) (c - (i + 1)) s m)
    unfolding scan_from
    on-next o h =
        rw (one-more c i l) (ap (λ (o : Option SlotRange). on_range o [] (λ f n m. slots_in k n f ++ scan_from (suc k) (c - (i + 1)) s m)) h)

    scan-range : (r : SlotRange) → x ≡ Some r
        → scan_from k (c - i) s q ≡ slots_in k r.count r.first ++ scan_from (k + 1) (c - (i + 1)) s r.next
    scan-range r h = rw add-one (on-next (Some r) (found e h))

    -- the slots that are left are those of this range and those after it
    pub left_after : (r : SlotRange) → x ≡ Some r → length (scan_from k (c - i) s q) ≡ r.count + length (scan_from (k + 1) (c - (i + 1)) s r.next)
    left_after r h =
        let t : List Slot = scan_from (k + 1) (c - (i + 1)) s r.next in
        omega (arith, ap length (scan-range r h), length-append (slots_in k r.count r.first) t, length-range k r.count r.first)

    scan-stop : x ≡ None → scan_from k (c - i) s q ≡ []
    scan-stop h = on-next None (found e h)

-- ---- counting the slots

module _ (s : List ℕ) (n c i q y : ℕ) (h : n + length (scan_from 0 (c - i) s q) ≡ y) where
  pub count-over : c ≤ i → n ≡ y
  count-over l = omega (arith, ap length (scan-end 0 c i s q l))

  module _ (l : i < c) (x : Option SlotRange) (e : x ≡ range_at s q) where
    pub count-stop : x ≡ None → n ≡ y
    count-stop m = omega (arith, ap length (scan-stop 0 c i s q l x e m))

    pub count_next : (r : SlotRange) → x ≡ Some r → n + r.count + length (scan_from 0 (c - (i + 1)) s r.next) ≡ y
    count_next r m = omega (arith, left_after 0 c i s q l x e r m, length-scan (0 + 1) 0 (c - (i + 1)) s r.next)

pub ruleset counting = (count-over, count-stop, count_next)

-- ---- writing rows into the table

put-append : (t : List ℕ) (i : ℕ) (a b : List ℕ) → put t i (a ++ b) ≡ put (put t i a) (i + length a) b
unfolding put
put-append t i [] b = let e : i ≡ i + 0 = omega arith in ap (λ (j : ℕ). put t j b) e
put-append t i (x ∷ a) b =
    let e : suc i + length a ≡ i + suc (length a) = omega arith in
    put-append (set t i x) (suc i) a b ∙ ap (λ (j : ℕ). put (put (set t i x) (suc i) a) j b) e

pub same_length : (t u : List ℕ) (i : ℕ) (v : List ℕ) → u ≡ put t i v → length u ≡ length t
unfolding put
same_length t u i v h = ap length h ∙ length-sets t i v

-- three integers stored one after the other are a row
pub row-stored : (s t : List ℕ) (i k p f : ℕ) → f ≡ filled_at s p → set (set (set t i k) (i + 1) p) (i + 2) f ≡ put t i (row s (slot_in k p))
unfolding row put
row-stored s t i k p f h = let e : i + 2 ≡ suc (suc i) = omega arith in rw (e, add-one, h)

-- in a slot range, after j of n slots: writing the rows that are left gives y
module _ (s : List ℕ) (k n p i j : ℕ) (t y : List ℕ) (h : put t (i + 3 * j) (rows s (slots_in k (n - j) (p + 65 * j))) ≡ y) where
  pub range-end : n ≤ j → t ≡ y
  unfolding rows slots_in put
  range-end e = let z : n - j ≡ 0 = omega arith in (rw z at h)

  pub range-next : j < n → (u : List ℕ) → u ≡ put t (i + 3 * j) (row s (slot_in k (p + 65 * j)))
      → put u (i + 3 * (j + 1)) (rows s (slots_in k (n - (j + 1)) (p + 65 * (j + 1)))) ≡ y
  unfolding rows slots_in
  range-next e u g =
      let a : i + 3 * (j + 1) ≡ i + 3 * j + 3 = omega arith in
      let b : p + 65 * (j + 1) ≡ p + 65 * j + 65 = omega arith in
      let l : List ℕ = rows s (slots_in k (n - (j + 1)) (p + 65 * j + 65)) in
      rw (a, b) (ap (λ (z : List ℕ). put z (i + 3 * j + 3) l) g ∙ sym (put-append t (i + 3 * j) (row s (slot_in k (p + 65 * j))) l)
      ∙ (rw (one-more n j e) at h))

pub ruleset running = (range-end, range-next)

-- over all credentials, after j of c: writing the rows that are left gives y
module _ (s : List ℕ) (c j q i : ℕ) (t y : List ℕ) (h : put t i (rows s (scan_from j (c - j) s q)) ≡ y) where
  put-left : (l : List Slot) → scan_from j (c - j) s q ≡ l → put t i (rows s l) ≡ y
  put-left l e = sym (ap (λ (l : List Slot). put t i (rows s l)) e) ∙ h

  pub slots_end : c ≤ j → t ≡ y
  unfolding rows put
  slots_end e = put-left [] (scan-end j c j s q e)

  module _ (l : j < c) (x : Option SlotRange) (e : x ≡ range_at s q) where
    pub slots-stop : x ≡ None → t ≡ y
    unfolding rows put
    slots-stop r = put-left [] (scan-stop j c j s q l x e r)

    pub slots_next : (r : SlotRange) → x ≡ Some r → (u : List ℕ) → u ≡ put t i (rows s (slots_in j r.count r.first))
        → put u (i + 3 * r.count) (rows s (scan_from (j + 1) (c - (j + 1)) s r.next)) ≡ y
    slots_next r m u g =
        let a : List Slot = slots_in j r.count r.first in
        let b : List Slot = scan_from (j + 1) (c - (j + 1)) s r.next in
        let n : i + 3 * r.count ≡ i + length (rows s a) = omega (arith, length-rows s a, length-range j r.count r.first) in
        ap₂ (λ (z : List ℕ) (m : ℕ). put z m (rows s b)) g n ∙ sym (put-append t i (rows s a) (rows s b))
        ∙ ap (put t i) (sym (rows_append s a b)) ∙ put-left (a ++ b) (scan-range j c j s q l x e r m)

pub ruleset slotting = (slots_end, slots-stop, slots_next)

-- the bounds that a slot range gives, where k credentials come before it and the rows of its slots start at i
module _ (s : List ℕ) (q : ℕ) (r : SlotRange) (x : Option SlotRange) (e : x ≡ range_at s q) (h : x ≡ Some r) (k : ℕ) where
  pub credential-ends : k ≤ q → k + 1 ≤ r.next
  credential-ends b = omega (arith, range_inside s q r x e h)

  pub rows_fit : (c : ℕ) → k < c → (i : ℕ) (t : List ℕ) → i + 3 * length (scan_from k (c - k) s q) ≤ length t → i + 3 * r.count ≤ length t
  rows_fit c some i t fits = omega (arith, left_after k c k s q some x e r h)

  module _ (short : length s ≤ 65536) where
    pub row-numbers : 3 * r.count < 2 ^ 64
    row-numbers = omega (arith, range_inside s q r x e h)
