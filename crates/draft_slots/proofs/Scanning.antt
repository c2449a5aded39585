-- The loops over the slots of a draft: what is left to do, by what the code has found. Assumes nothing.
use Rattle.std.specs.Prelude.{Result, Some, None, Option}
use Rattle.std.specs.Result.{result_ok}
use Prim.Native.Nat.{ℕ, zero, suc, ◌+◌, ◌-◌, ◌*◌, ◌^◌, ◌≤◌, ◌<◌}
use mathlib.Core.Path.{◌≡◌, refl, sym, ap, ap₂, ◌∙◌, subst}
use mathlib.Core.Bool.{Bool, true, false, cond}
use mathlib.Core.List.{List, [], ◌∷◌, ◌++◌}
use native.Mathlib.Omega.{arith}
use native.Mathlib.Nat.{not-suc-le-zero}
use native.Mathlib.Decide.{dec_lt}
use lib.Dec.{leb}
use borrow.Author.Tests.{leb-true, lt-ltb, le-ltb}
use lib.ListN.{length, take, drop, get_or, length-append, get_or-append}
use lib.Seq.{get_or-append-add}
use Rattle.wire.specs.Bytes.{pick, value}
use Rattle.wire.specs.Fields.{integer, blob}
use Rattle.wire.specs.Parsers.{blob_parse}
use Rattle.wire.specs.declared.Refusal.{Refusal}
use Rattle.wire.specs.code.Answer.{valued}
use Rattle.wire.proofs.Bytes.{found, Slice}
use Rattle.wire.proofs.Trying.{ok-some}
use Rattle.wire.proofs.Reading as W
use Rattle.transaction.specs.Slots.{slot_at}
use Rattle.draft_slots.specs.Joining.{clashes, first_clash}
use Rattle.draft_slots.specs.code.Scan.{range_at, on_range, slot_range, scan_from, placed, join_all}
use Rattle.draft_slots.specs.declared.SlotRange.{SlotRange}
use Rattle.draft_slots.proofs.InPlace.{one-more, join-append}

-- ---- the slots of one credential

pub ruleset running = (W.some-part, W.none-part, W.some-value, W.none-value)

-- a slot range that was found lies inside the bytes
pub record Inside (s : List ℕ) (q : ℕ) (r : SlotRange) : Type 0 where
  pub starts : r.first ≡ q + 8
  pub ends : r.next ≡ r.first + 65 * r.count
  pub fits : r.next ≤ length s

pub range_inside : (s : List ℕ) (q : ℕ) (r : SlotRange) (x : Option SlotRange) → x ≡ range_at s q → x ≡ Some r → Inside s q r
unfolding integer blob blob_parse
range_inside s q r x e h = type (leb 4 (length s - q)) refl (found e h)
  where
    c : ℕ
    c = value (take 4 (drop (q + 4) s))

    here : SlotRange
    here = record { first = q + 4 + 4; count = c; next = q + 4 + 4 + 65 * c }

    never : {A : Type 0} → ◌≡◌ {A = Option SlotRange} None (Some r) → A
    never z = let y : ◌≡◌ {A = ℕ} 0 1 = cc in absurd (omega arith)

    slots : (t : Bool) → leb (65 * c) (length s - (q + 4 + 4)) ≡ t → 4 ≤ length s - (q + 4) → pick t (Some here) None ≡ Some r → Inside s q r
    slots true h k z =
        let a : here ≡ r = cc in
        let l : 65 * c ≤ length s - (q + 4 + 4) = leb-true (65 * c) (length s - (q + 4 + 4)) h in
        subst (Inside s q) a (record { starts = omega arith; ends = refl; fits = omega arith })
    slots false h k z = never z

    count : (t : Bool) → leb 4 (length s - (q + 4)) ≡ t → pick t (pick (leb (65 * c) (length s - (q + 4 + 4))) (Some here) None) None ≡ Some r
        → Inside s q r
    count true h z = slots (leb (65 * c) (length s - (q + 4 + 4))) refl (leb-true 4 (length s - (q + 4)) h) z
    count false h z = never z

    type : (t : Bool) → leb 4 (length s - q) ≡ t
        → pick t (pick (leb 4 (length s - (q + 4))) (pick (leb (65 * c) (length s - (q + 4 + 4))) (Some here) None) None) None ≡ Some r → Inside s q r
    type true h z = count (leb 4 (length s - (q + 4))) refl z
    type false h z = never z

-- the bounds that a slot range gives, where k slots were counted before it
module _ (s : List ℕ) (q : ℕ) (r : SlotRange) (x : Option SlotRange) (e : x ≡ range_at s q) (h : x ≡ Some r) where
  inside : Inside s q r
  inside = range_inside s q r x e h

  pub range-fits : r.first + 65 * r.count ≤ length s
  range-fits = omega (arith, inside)

  pub range-starts : (k : ℕ) → k ≤ q → k ≤ r.first
  range-starts k i = omega (arith, inside)

  pub range-ends : (k : ℕ) → k ≤ q → k + r.count ≤ r.next
  range-ends k i = omega (arith, inside)

  module _ (long : length s < 2 ^ 64) where
    pub slots-counted : (k : ℕ) → k ≤ q → k + r.count < 2 ^ 64
    slots-counted k i = omega (arith, inside)

    pub slot-offset : (k : ℕ) → k < r.count → 65 * k < 2 ^ 64
    slot-offset k i = omega (arith, inside)

    pub slot-start : (k : ℕ) → k < r.count → r.first + 65 * k < 2 ^ 64
    slot-start k i = omega (arith, inside)

-- as many slots as a count of 32 bits says take fewer than 2^64 bytes
pub slots-fit : (s : List ℕ) (at : ℕ) (x : Result (ℕ × ℕ) Refusal) (y : Option (ℕ × ℕ)) (c n : ℕ) → x ≡ valued (integer 4) s at → y ≡ result_ok x
    → y ≡ Some (c, n) → Slice s → 65 * c < 2 ^ 64
slots-fit s at x y c n p o q b = let h : c < 256 ^ 4 = W.value-small 4 s at x c n p (ok-some x y o (c, n) q) b in omega arith

-- ---- the scan, after i of c credentials

module _ (s : List ℕ) (q c i : ℕ) where
  module _ (l : i < c) (x : Option SlotRange) (e : x ≡ range_at s q) where
    on-next : (o : Option SlotRange) → range_at s q ≡ o
        → scan_from (c - i) s q ≡ on_range o [] (λ f n m. slot_range n f ++ scan_from (c - (i + 1)) s m)
    unfolding scan_from
    on-next o h = rw (one-more c i l) (ap (λ (o : Option SlotRange). on_range o [] (λ f n m. slot_range n f ++ scan_from (c - (i + 1)) s m)) h)

    scan-range : (r : SlotRange) → x ≡ Some r → scan_from (c - i) s q ≡ slot_range r.count r.first ++ scan_from (c - (i + 1)) s r.next
    scan-range r h = on-next (Some r) (found e h)

    scan-stop : x ≡ None → scan_from (c - i) s q ≡ []
    scan-stop h = on-next None (found e h)

  scan-end : c ≤ i → scan_from (c - i) s q ≡ []
  unfolding scan_from
  scan-end h = let e : c - i ≡ 0 = omega arith in rw e

length-range : (n p : ℕ) → length (slot_range n p) ≡ n
unfolding slot_range
length-range zero p = refl
length-range (suc n) p = ap suc (length-range n (p + 65))

-- ---- the first clash

clash-append : (d e : List ℕ) (k : ℕ) (ps qs : List ℕ) → first_clash k ps d e ≡ None → first_clash k (ps ++ qs) d e ≡ first_clash (k + length ps) qs d e
unfolding first_clash
clash-append d e k [] qs h = let i : k + 0 ≡ k = omega arith in rw i
clash-append d e k (p ∷ ps) qs h = go (clashes (slot_at d p) (slot_at e p)) h (clash-append d e (suc k) ps qs)
  where
    go : (t : Bool) → cond t (Some k) (first_clash (suc k) ps d e) ≡ None
        → (first_clash (suc k) ps d e ≡ None → first_clash (suc k) (ps ++ qs) d e ≡ first_clash (suc k + length ps) qs d e)
        → cond t (Some k) (first_clash (suc k) (ps ++ qs) d e) ≡ first_clash (k + suc (length ps)) qs d e
    go true h ih = let z : ◌≡◌ {A = ℕ} 0 1 = cc in absurd (omega arith)
    go false h ih = let i : suc k + length ps ≡ k + suc (length ps) = omega arith in ih h ∙ ap (λ (j : ℕ). first_clash j qs d e) i

clash-front : (d e : List ℕ) (k : ℕ) (ps qs : List ℕ) (j : ℕ) → first_clash k ps d e ≡ Some j → first_clash k (ps ++ qs) d e ≡ Some j
unfolding first_clash
clash-front d e k [] qs j h = let z : ◌≡◌ {A = ℕ} 0 1 = cc in absurd (omega arith)
clash-front d e k (p ∷ ps) qs j h = go (clashes (slot_at d p) (slot_at e p)) h (clash-front d e (suc k) ps qs j)
  where
    go : (t : Bool) → cond t (Some k) (first_clash (suc k) ps d e) ≡ Some j
        → (first_clash (suc k) ps d e ≡ Some j → first_clash (suc k) (ps ++ qs) d e ≡ Some j)
        → cond t (Some k) (first_clash (suc k) (ps ++ qs) d e) ≡ Some j
    go true h ih = h
    go false h ih = ih h

-- in a slot range, after i of n slots: y is the first clash among the slots that are left
module _ (d e : List ℕ) (k p n i : ℕ) (y : Option ℕ) (w : first_clash (k + i) (slot_range (n - i) (p + 65 * i)) d e ≡ y) where
  module _ (l : i < n) (a b : List ℕ) (ha : a ≡ slot_at d (p + 65 * i)) (hb : b ≡ slot_at e (p + 65 * i)) (t : Bool) (ht : t ≡ clashes a b) where
    test : clashes (slot_at d (p + 65 * i)) (slot_at e (p + 65 * i)) ≡ t
    test = ap₂ clashes (sym ha) (sym hb) ∙ sym ht

    pub clash-here : t ≡ true → Some (k + i) ≡ y
    unfolding first_clash slot_range
    clash-here q = sym (rw (one-more n i l, test, q)) ∙ w

    pub clash-on : t ≡ false → first_clash (k + (i + 1)) (slot_range (n - (i + 1)) (p + 65 * (i + 1))) d e ≡ y
    unfolding first_clash slot_range
    clash-on q =
        let j : k + (i + 1) ≡ suc (k + i) = omega arith in
        let o : p + 65 * (i + 1) ≡ p + 65 * i + 65 = omega arith in
        rw (j, o) (sym (rw (one-more n i l, test, q)) ∙ w)

  pub clash-end : n ≤ i → None ≡ y
  unfolding first_clash slot_range
  clash-end h = let j : n - i ≡ 0 = omega arith in (rw j at w)

pub ruleset clashing-range = (clash-here, clash-on, clash-end)

-- over all credentials, after i of c: y is the first clash among the slots that are left
module _ (d e : List ℕ) (k c i q : ℕ) (y : Option ℕ) (w : first_clash k (scan_from (c - i) d q) d e ≡ y) where
  clash-left : (ps : List ℕ) → scan_from (c - i) d q ≡ ps → first_clash k ps d e ≡ y
  clash-left ps h = ap (λ (ps : List ℕ). first_clash k ps d e) (sym h) ∙ w

  pub clash-over : c ≤ i → None ≡ y
  unfolding first_clash
  clash-over h = clash-left [] (scan-end d q c i h)

  module _ (l : i < c) (x : Option SlotRange) (hx : x ≡ range_at d q) where
    pub clash-stop : x ≡ None → (z : Option ℕ) → z ≡ None → z ≡ y
    unfolding first_clash
    clash-stop h z hz = hz ∙ clash-left [] (scan-stop d q c i l x hx h)

    module _ (r : SlotRange) (hr : x ≡ Some r) (z : Option ℕ) (hz : z ≡ first_clash k (slot_range r.count r.first) d e) where
      pub clash-found : (j : ℕ) → z ≡ Some j → Some j ≡ y
      clash-found j h =
          sym (clash-front d e k (slot_range r.count r.first) (scan_from (c - (i + 1)) d r.next) j (sym hz ∙ h))
          ∙ clash-left _ (scan-range d q c i l x hx r hr)

      pub clash-next : z ≡ None → first_clash (k + r.count) (scan_from (c - (i + 1)) d r.next) d e ≡ y
      clash-next h =
          ap (λ (j : ℕ). first_clash (k + j) (scan_from (c - (i + 1)) d r.next) d e) (sym (length-range r.count r.first))
          ∙ sym (clash-append d e k (slot_range r.count r.first) (scan_from (c - (i + 1)) d r.next) (sym hz ∙ h))
          ∙ clash-left _ (scan-range d q c i l x hx r hr)

pub ruleset clashing-scan = (clash-over, clash-stop, clash-found, clash-next)

-- ---- the offset of a slot

range-place : (n p k : ℕ) → k < n → get_or (slot_range n p) k 0 ≡ p + 65 * k
unfolding slot_range
range-place zero p k h = absurd (not-suc-le-zero h)
range-place (suc n) p zero h = omega arith
range-place (suc n) p (suc k) h = range-place n (p + 65) k (omega arith) ∙ omega arith

place-front : (n p k : ℕ) (qs : List ℕ) → k < n → placed (slot_range n p ++ qs) k ≡ Some (p + 65 * k)
place-front n p k qs h =
    let i : k < length (slot_range n p ++ qs) = omega (arith, length-append (slot_range n p) qs, length-range n p) in
    rw (lt-ltb k (length (slot_range n p ++ qs)) i)
    (ap Some (get_or-append (slot_range n p) qs 0 k (omega (arith, length-range n p)) ∙ range-place n p k h))

place_after : (n p k : ℕ) (qs : List ℕ) → n ≤ k → placed (slot_range n p ++ qs) k ≡ placed qs (k - n)
place_after n p k qs h = go (dec_lt (k - n) (length qs))
  where
    there : get_or (slot_range n p ++ qs) k 0 ≡ get_or qs (k - n) 0
    there =
        let i : k ≡ length (slot_range n p) + (k - n) = omega (arith, length-range n p) in
        ap (λ (j : ℕ). get_or (slot_range n p ++ qs) j 0) i ∙ get_or-append-add (slot_range n p) qs (k - n) 0

    go : Dec (k - n < length qs) → placed (slot_range n p ++ qs) k ≡ placed qs (k - n)
    go (yes i) =
        let j : k < length (slot_range n p ++ qs) = omega (arith, length-append (slot_range n p) qs, length-range n p) in
        rw (lt-ltb k (length (slot_range n p ++ qs)) j, lt-ltb (k - n) (length qs) i) (ap Some there)
    go (no i) =
        let j : length (slot_range n p ++ qs) ≤ k = omega (arith, length-append (slot_range n p) qs, length-range n p) in
        let m : length qs ≤ k - n = omega arith in
        rw (le-ltb k (length (slot_range n p ++ qs)) j, le-ltb (k - n) (length qs) m)

place_none : (k : ℕ) → None ≡ placed [] k
place_none k = let h : 0 ≤ k = omega arith in rw (le-ltb k 0 h)

-- the offset of slot k among ps; opaque, so that `search` reads its arguments off it
unfoldable pub place_from : List ℕ → ℕ → Option ℕ
place_from ps k = placed ps k

pub place_is : (ps : List ℕ) (k : ℕ) (z : Option ℕ) → z ≡ place_from ps k → z ≡ placed ps k
unfolding place_from
place_is ps k z h = h

-- after i of c credentials: slot k of those that are left is at y
module _ (s : List ℕ) (k c i q : ℕ) (y : Option ℕ) (w : place_from (scan_from (c - i) s q) k ≡ y) where
  place-left : (ps : List ℕ) → scan_from (c - i) s q ≡ ps → placed ps k ≡ y
  unfolding place_from
  place-left ps h = ap (λ (ps : List ℕ). placed ps k) (sym h) ∙ w

  pub place-over : c ≤ i → None ≡ y
  place-over h = place_none k ∙ place-left [] (scan-end s q c i h)

  module _ (l : i < c) (x : Option SlotRange) (hx : x ≡ range_at s q) where
    pub place-stop : x ≡ None → (z : Option ℕ) → z ≡ None → z ≡ y
    place-stop h z hz = hz ∙ place_none k ∙ place-left [] (scan-stop s q c i l x hx h)

    module _ (r : SlotRange) (hr : x ≡ Some r) where
      pub place_here : k < r.count → Some (r.first + 65 * k) ≡ y
      place_here h = sym (place-front r.count r.first k (scan_from (c - (i + 1)) s r.next) h) ∙ place-left _ (scan-range s q c i l x hx r hr)

      pub place-next : r.count ≤ k → place_from (scan_from (c - (i + 1)) s r.next) (k - r.count) ≡ y
      unfolding place_from
      place-next h = sym (place_after r.count r.first k (scan_from (c - (i + 1)) s r.next) h) ∙ place-left _ (scan-range s q c i l x hx r hr)

pub ruleset placing-scan = (place-over, place-stop, place_here, place-next)

-- ---- joining, after i of c credentials

module _ (e d : List ℕ) (c i q : ℕ) (y : List ℕ) (w : join_all (scan_from (c - i) e q) e d ≡ y) where
  join-left : (ps : List ℕ) → scan_from (c - i) e q ≡ ps → join_all ps e d ≡ y
  join-left ps h = ap (λ (ps : List ℕ). join_all ps e d) (sym h) ∙ w

  pub joins-over : c ≤ i → d ≡ y
  unfolding join_all
  joins-over h = join-left [] (scan-end e q c i h)

  module _ (l : i < c) (x : Option SlotRange) (hx : x ≡ range_at e q) where
    pub joins-stop : x ≡ None → d ≡ y
    unfolding join_all
    joins-stop h = join-left [] (scan-stop e q c i l x hx h)

    pub joins-next : (r : SlotRange) → x ≡ Some r → (z : List ℕ) → z ≡ join_all (slot_range r.count r.first) e d
        → join_all (scan_from (c - (i + 1)) e r.next) e z ≡ y
    joins-next r hr z hz =
        ap (join_all (scan_from (c - (i + 1)) e r.next) e) hz ∙ sym (join-append e (slot_range r.count r.first) (scan_from (c - (i + 1)) e r.next) d)
        ∙ join-left _ (scan-range e q c i l x hx r hr)

pub ruleset joining-scan = (joins-over, joins-stop, joins-next)
