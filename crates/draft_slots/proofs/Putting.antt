-- Signatures put into slots: what changes, and what stays. Assumes nothing.
use mathlib.Core.Path.{◌≡◌, refl, sym, ap, ap₂, ◌∙◌, subst}
use mathlib.Core.Logic.{◌⊎◌, inl, inr}
use mathlib.Core.List.{List, [], ◌∷◌, ◌++◌, append_assoc}
use Prim.Native.Nat.{ℕ, zero, suc, ◌+◌, ◌-◌, ◌≤◌, ◌<◌, suc-le-suc}
use native.Mathlib.Nat.{le_refl, le_of_suc-le-suc, not-suc-le-zero, zero-lt-suc}
use native.Mathlib.Decide.{dec_le}
use native.Mathlib.Omega.{arith}
use lib.ListN.{length, take, drop, get_or, length-append, length-drop, take-append-drop, get_or-append}
use lib.Seq.{get_or-take, get_or-drop, ext_get_or, take_at, drop_at, drop-drop, length-take-le}
use Rattle.wire.specs.Bytes.{Bytes}
use Rattle.wire.specs.laws.Bytes.{bytes_take, bytes_drop, bytes-append}
use Rattle.transaction.specs.Slots.{signature_width, slot_at, put_slot, put_all, Outside, Spaced}
use Rattle.transaction.proofs.Slots.{length-slot_at}

-- ---- the offsets of slots

pub spaced-le : (lo : ℕ) (ps : List ℕ) (n : ℕ) → Spaced lo ps n → lo ≤ n
spaced-le lo [] n h = h
spaced-le lo (p ∷ ps) n h = let r : p + signature_width ≤ n = spaced-le (p + signature_width) ps n h.1 in omega arith

pub spaced-at : (lo : ℕ) (ps : List ℕ) (n : ℕ) → Spaced lo ps n → (k : ℕ) → k < length ps → (lo ≤ get_or ps k 0) × (get_or ps k 0 + signature_width ≤ n)
spaced-at lo [] n h k b = absurd (not-suc-le-zero b)
spaced-at lo (p ∷ ps) n h zero b = (h.0, spaced-le (p + signature_width) ps n h.1)
spaced-at lo (p ∷ ps) n h (suc k) b = let r = spaced-at (p + signature_width) ps n h.1 k (le_of_suc-le-suc b) in (omega arith, r.1)

-- an offset is in no slot, or in slot k
pub inside : (ps : List ℕ) (n : ℕ) → Outside ps n ⊎ ((k : ℕ) × (k < length ps) × (get_or ps k 0 ≤ n) × (n < get_or ps k 0 + signature_width))
inside [] n = inl tt
inside (p ∷ ps) n = go (dec_le p n) (dec_le (p + signature_width) n) (inside ps n)
  where
    In : List ℕ → Type 0
    In qs = (k : ℕ) × (k < length qs) × (get_or qs k 0 ≤ n) × (n < get_or qs k 0 + signature_width)

    go : Dec (p ≤ n) → Dec (p + signature_width ≤ n) → Outside ps n ⊎ In ps → Outside (p ∷ ps) n ⊎ In (p ∷ ps)
    go a b (inr r) = inr (suc r.0, suc-le-suc r.1, r.2, r.3)
    go (no a) b (inl o) = inl (inl (omega arith), o)
    go (yes a) (yes b) (inl o) = inl (inr b, o)
    go (yes a) (no b) (inl o) = inr (0, zero-lt-suc (length ps), a, omega arith)

pub outside-at : (ps : List ℕ) (n : ℕ) → Outside ps n → (k : ℕ) → k < length ps → (n < get_or ps k 0) ⊎ (get_or ps k 0 + signature_width ≤ n)
outside-at [] n o k b = absurd (not-suc-le-zero b)
outside-at (p ∷ ps) n o zero b = o.0
outside-at (p ∷ ps) n o (suc k) b = outside-at ps n o.1 k (le_of_suc-le-suc b)

-- a slot ends before a later one starts
pub spaced-before : (lo : ℕ) (ps : List ℕ) (n : ℕ) → Spaced lo ps n → (j k : ℕ) → j < k → k < length ps → get_or ps j 0 + signature_width ≤ get_or ps k 0
spaced-before lo [] n h j k a b = absurd (not-suc-le-zero b)
spaced-before lo (p ∷ ps) n h j zero a b = absurd (not-suc-le-zero a)
spaced-before lo (p ∷ ps) n h zero (suc k) a b = (spaced-at (p + signature_width) ps n h.1 k (le_of_suc-le-suc b)).0
spaced-before lo (p ∷ ps) n h (suc j) (suc k) a b = spaced-before (p + signature_width) ps n h.1 j k (le_of_suc-le-suc a) (le_of_suc-le-suc b)

pub get_or-slot_at : (d : List ℕ) (p n : ℕ) → p ≤ n → n < p + signature_width → get_or (slot_at d p) (n - p) 0 ≡ get_or d n 0
unfolding slot_at
get_or-slot_at d p n h k =
    get_or-take signature_width (drop p d) (n - p) 0 (omega arith) ∙ get_or-drop p d (n - p) 0 ∙ ap (λ (m : ℕ). get_or d m 0) (omega arith)

-- two byte strings of the same length that agree outside the slots and in each slot are equal
pub by_slots : (ps a b : List ℕ) → length a ≡ length b → ((n : ℕ) → Outside ps n → get_or a n 0 ≡ get_or b n 0)
    → ((k : ℕ) → k < length ps → slot_at a (get_or ps k 0) ≡ slot_at b (get_or ps k 0)) → a ≡ b
by_slots ps a b e o s = ext_get_or 0 a b e (λ n h. go n (inside ps n))
  where
    go : (n : ℕ) → Outside ps n ⊎ ((k : ℕ) × (k < length ps) × (get_or ps k 0 ≤ n) × (n < get_or ps k 0 + signature_width)) → get_or a n 0 ≡ get_or b n 0
    go n (inl q) = o n q
    go n (inr (k, i, l, u)) =
        sym (get_or-slot_at a (get_or ps k 0) n l u) ∙ ap (λ (t : List ℕ). get_or t (n - get_or ps k 0) 0) (s k i) ∙ get_or-slot_at b (get_or ps k 0) n l u

-- ---- one signature put into a slot

pub bytes-put : (p : ℕ) (s d : List ℕ) → Bytes s → Bytes d → Bytes (put_slot p s d)
unfolding put_slot
bytes-put p s d bs bd =
    bytes-append (take p d ++ s) (drop (p + signature_width) d) (bytes-append (take p d) s (bytes_take p d bd) bs) (bytes_drop (p + signature_width) d bd)

-- putting a slot's own bytes changes nothing
pub put-own : (p : ℕ) (d : List ℕ) → put_slot p (slot_at d p) d ≡ d
unfolding put_slot slot_at
put-own p d =
    append_assoc (take p d) (take signature_width (drop p d)) (drop (p + signature_width) d)
    ∙ ap (λ (t : List ℕ). take p d ++ (take signature_width (drop p d) ++ t)) (sym (drop-drop signature_width p d))
    ∙ ap (λ (t : List ℕ). take p d ++ t) (take-append-drop signature_width (drop p d))
    ∙ take-append-drop p d

module _ (p : ℕ) (s d : List ℕ) (hs : length s ≡ signature_width) (hd : p + signature_width ≤ length d) where
  front : length (take p d) ≡ p
  front = length-take-le p d (omega arith)

  fronts : length (take p d ++ s) ≡ p + signature_width
  fronts = length-append (take p d) s ∙ ap₂ ◌+◌ front hs

  pub length-put : length (put_slot p s d) ≡ length d
  unfolding put_slot
  length-put = omega (arith, length-append (take p d ++ s) (drop (p + signature_width) d), fronts, length-drop (p + signature_width) d)

  pub drop-put : drop (p + signature_width) (put_slot p s d) ≡ drop (p + signature_width) d
  unfolding put_slot
  drop-put = drop_at (take p d ++ s) (drop (p + signature_width) d) (p + signature_width) fronts

  pub put-before : (n : ℕ) → n < p → get_or (put_slot p s d) n 0 ≡ get_or d n 0
  unfolding put_slot
  put-before n h =
      get_or-append (take p d ++ s) (drop (p + signature_width) d) 0 n (omega (arith, fronts))
      ∙ get_or-append (take p d) s 0 n (omega (arith, front))
      ∙ get_or-take p d n 0 h

  pub put-after : (n : ℕ) → p + signature_width ≤ n → get_or (put_slot p s d) n 0 ≡ get_or d n 0
  put-after n h =
      let j : ℕ = n - (p + signature_width) in
      let e : n ≡ (p + signature_width) + j = omega arith in
      ap (λ (m : ℕ). get_or (put_slot p s d) m 0) e ∙ sym (get_or-drop (p + signature_width) (put_slot p s d) j 0)
      ∙ ap (λ (l : List ℕ). get_or l j 0) drop-put
      ∙ get_or-drop (p + signature_width) d j 0 ∙ ap (λ (m : ℕ). get_or d m 0) (sym e)

  pub put-slot : slot_at (put_slot p s d) p ≡ s
  unfolding put_slot slot_at
  put-slot =
      let x : List ℕ = drop (p + signature_width) d in
      ap (take signature_width) (ap (drop p) (append_assoc (take p d) s x) ∙ drop_at (take p d) (s ++ x) p front) ∙ take_at s x signature_width hs

  pub put-slot-before : (q : ℕ) → q + signature_width ≤ p → slot_at (put_slot p s d) q ≡ slot_at d q
  unfolding slot_at
  put-slot-before q h =
      ext_get_or 0 (take signature_width (drop q (put_slot p s d))) (take signature_width (drop q d))
      (length-slot_at (put_slot p s d) q (omega (arith, length-put)) ∙ sym (length-slot_at d q (omega arith)))
      (λ n b.
      let i : n < signature_width = omega (arith, length-slot_at (put_slot p s d) q (omega (arith, length-put))) in
      get_or-take signature_width (drop q (put_slot p s d)) n 0 i ∙ get_or-drop q (put_slot p s d) n 0 ∙ put-before (q + n) (omega arith)
      ∙ sym (get_or-drop q d n 0) ∙ sym (get_or-take signature_width (drop q d) n 0 i))

  pub put-slot-after : (q : ℕ) → p + signature_width ≤ q → slot_at (put_slot p s d) q ≡ slot_at d q
  unfolding slot_at
  put-slot-after q h =
      let j : ℕ = q - (p + signature_width) in
      let e : q ≡ p + signature_width + j = omega arith in
      ap (take signature_width) (split (put_slot p s d) j e ∙ ap (drop j) drop-put ∙ sym (split d j e))
    where
      split : (x : List ℕ) (j : ℕ) → q ≡ p + signature_width + j → drop q x ≡ drop j (drop (p + signature_width) x)
      split x j e = ap (λ (m : ℕ). drop m x) e ∙ sym (drop-drop j (p + signature_width) x)

-- ---- a signature put into each slot of a list

abbrev pub Long : (ℕ → List ℕ) → List ℕ → Type 0
Long f ps = (k : ℕ) → k < length ps → length (f (get_or ps k 0)) ≡ signature_width

-- after the first put the other slots are at the same offsets
record First (f : ℕ → List ℕ) (d : List ℕ) (p : ℕ) (ps : List ℕ) : Type 0 where
  here : length (f p) ≡ signature_width
  fits : p + signature_width ≤ length d
  kept : length (put_slot p (f p) d) ≡ length d
  spaced : Spaced (p + signature_width) ps (length (put_slot p (f p) d))
  long : Long f ps

first : (f : ℕ → List ℕ) (d : List ℕ) (lo p : ℕ) (ps : List ℕ) → Spaced lo (p ∷ ps) (length d) → Long f (p ∷ ps) → First f d p ps
first f d lo p ps h l =
    let a : length (f p) ≡ signature_width = l 0 (zero-lt-suc (length ps)) in
    let b : p + signature_width ≤ length d = spaced-le (p + signature_width) ps (length d) h.1 in
    record {
      here = a;
      fits = b;
      kept = length-put p (f p) d a b;
      spaced = subst (λ (n : ℕ). Spaced (p + signature_width) ps n) (sym (length-put p (f p) d a b)) h.1;
      long = λ k c. l (suc k) (suc-le-suc c);
    }

pub bytes-put_all : (f : ℕ → List ℕ) (d ps : List ℕ) → Bytes d → ((p : ℕ) → Bytes (f p)) → Bytes (put_all ps f d)
unfolding put_all
bytes-put_all f d [] b h = b
bytes-put_all f d (p ∷ ps) b h = bytes-put_all f (put_slot p (f p) d) ps (bytes-put p (f p) d (h p) b) h

pub length-put_all : (f : ℕ → List ℕ) (d : List ℕ) (lo : ℕ) (ps : List ℕ) → Spaced lo ps (length d) → Long f ps → length (put_all ps f d) ≡ length d
unfolding put_all
length-put_all f d lo [] h l = refl
length-put_all f d lo (p ∷ ps) h l =
    let r = first f d lo p ps h l in length-put_all f (put_slot p (f p) d) (p + signature_width) ps r.spaced r.long ∙ r.kept

pub put_all-outside : (f : ℕ → List ℕ) (d : List ℕ) (lo : ℕ) (ps : List ℕ) → Spaced lo ps (length d) → Long f ps
    → (n : ℕ) → Outside ps n → get_or (put_all ps f d) n 0 ≡ get_or d n 0
unfolding put_all
put_all-outside f d lo [] h l n o = refl
put_all-outside f d lo (p ∷ ps) h l n o =
    let r = first f d lo p ps h l in put_all-outside f (put_slot p (f p) d) (p + signature_width) ps r.spaced r.long n o.1 ∙ go r o.0
  where
    go : First f d p ps → (n < p) ⊎ (p + signature_width ≤ n) → get_or (put_slot p (f p) d) n 0 ≡ get_or d n 0
    go r (inl b) = put-before p (f p) d r.here r.fits n b
    go r (inr b) = put-after p (f p) d r.here r.fits n b

put_all-before : (f : ℕ → List ℕ) (d : List ℕ) (lo : ℕ) (ps : List ℕ) → Spaced lo ps (length d) → Long f ps
    → (q : ℕ) → q + signature_width ≤ lo → slot_at (put_all ps f d) q ≡ slot_at d q
unfolding put_all
put_all-before f d lo [] h l q b = refl
put_all-before f d lo (p ∷ ps) h l q b =
    let r = first f d lo p ps h l in
    put_all-before f (put_slot p (f p) d) (p + signature_width) ps r.spaced r.long q (omega arith)
    ∙ put-slot-before p (f p) d r.here r.fits q (omega arith)

pub put_all-slot : (f : ℕ → List ℕ) (d : List ℕ) (lo : ℕ) (ps : List ℕ) → Spaced lo ps (length d) → Long f ps
    → (k : ℕ) → k < length ps → slot_at (put_all ps f d) (get_or ps k 0) ≡ f (get_or ps k 0)
unfolding put_all
put_all-slot f d lo [] h l k b = absurd (not-suc-le-zero b)
put_all-slot f d lo (p ∷ ps) h l zero b =
    let r = first f d lo p ps h l in
    put_all-before f (put_slot p (f p) d) (p + signature_width) ps r.spaced r.long p (le_refl (p + signature_width)) ∙ put-slot p (f p) d r.here r.fits
put_all-slot f d lo (p ∷ ps) h l (suc k) b =
    let r = first f d lo p ps h l in put_all-slot f (put_slot p (f p) d) (p + signature_width) ps r.spaced r.long k (le_of_suc-le-suc b)
