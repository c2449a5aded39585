-- Slots joined in place. Assumes nothing.
use Prim.Native.Nat.{ℕ, suc, ◌+◌, ◌-◌, ◌*◌, ◌≤◌, ◌<◌}
use mathlib.Core.Path.{◌≡◌, refl, sym, ap, ◌∙◌, subst⁻¹}
use mathlib.Core.Bool.{Bool, true, false, ◌&&◌}
use mathlib.Core.List.{List, [], ◌∷◌, ◌++◌, append_assoc}
use native.Mathlib.Omega.{arith}
use lib.ListN.{length, take, drop}
use lib.Seq.{drop-drop}
use lib.Dec.{eqb}
use borrow.Author.Tests.{eqb-true, eq-eqb, ne_eqb}
use Rattle.wire.specs.Bytes.{pick}
use Rattle.transaction.specs.Slots.{signature_width, blank, slot_at, put_slot, put_all, Spaced}
use Rattle.transaction.proofs.Slots.{length-slot_at}
use Rattle.draft_slots.specs.Joining.{same, join}
use Rattle.draft_slots.specs.code.Scan.{slot_range, joined_at, join_all}
use Rattle.draft_slots.proofs.Comparing.{same-of-eq, same-no, dec-same, join-blank, join-filled, length-join}
use Rattle.draft_slots.proofs.Putting.{spaced-le, put-own, length-put, put-slot-after}
use Rattle.draft_slots.proofs.Blocks.{blank-fits}

-- one more turn of a loop that has run i times out of c
pub one-more : (c i : ℕ) → i < c → c - i ≡ suc (c - (i + 1))
one-more c i h = omega arith

-- ---- one slot

module _ (p : ℕ) (s d : List ℕ) where
  pub joined-short : (length s ≡ 65 → ⊥) → d ≡ joined_at p s d
  unfolding joined_at
  joined-short n = rw (ne_eqb (length s) 65 n)

  module _ (x : List ℕ) (w : x ≡ slot_at d p) (r : Bool) (e : r ≡ same x blank) where
    test : (t : Bool) → r ≡ t → same (slot_at d p) blank ≡ t
    test t q = ap (λ (z : List ℕ). same z blank) (sym w) ∙ sym e ∙ q

    pub joined-filled : r ≡ false → d ≡ joined_at p s d
    unfolding joined_at
    joined-filled q = go (eqb (length s) 65) (same (slot_at d p) blank) (test false q)
      where
        go : (a b : Bool) → b ≡ false → d ≡ pick (a && b) (put_slot p s d) d
        go true b h = rw h
        go false b h = refl

    -- s was copied into the slot
    pub joined-blank : (y : List ℕ) → y ≡ s → r ≡ true → length s ≡ 65 → take p d ++ (y ++ drop (p + 65 - p) (drop p d)) ≡ joined_at p s d
    unfolding joined_at put_slot signature_width
    joined-blank y h q l =
        let n : p + 65 - p ≡ 65 = omega arith in
        rw (h, n, drop-drop 65 p d) (sym (rw (eq-eqb (length s) 65 l, test true q) (append_assoc (take p d) s (drop (p + 65) d))))

pub length-joined_at : (p : ℕ) (s d : List ℕ) → length (joined_at p s d) ≡ length d
unfolding joined_at signature_width
length-joined_at p s d = go (eqb (length s) 65) refl (same (slot_at d p) blank) refl
  where
    go : (a : Bool) → eqb (length s) 65 ≡ a → (b : Bool) → same (slot_at d p) blank ≡ b → length (pick (a && b) (put_slot p s d) d) ≡ length d
    go true h true g = length-put p s d (eqb-true (length s) 65 h) (blank-fits d p (slot_at d p) (same (slot_at d p) blank) refl refl g)
    go true h false g = refl
    go false h b g = refl

-- ---- one slot after the other

module _ (e : List ℕ) where
  pub length-join_all : (ps d : List ℕ) → length (join_all ps e d) ≡ length d
  unfolding join_all
  length-join_all [] d = refl
  length-join_all (p ∷ ps) d = length-join_all ps (joined_at p (slot_at e p) d) ∙ length-joined_at p (slot_at e p) d

  pub join-append : (ps qs d : List ℕ) → join_all (ps ++ qs) e d ≡ join_all qs e (join_all ps e d)
  unfolding join_all
  join-append [] qs d = refl
  join-append (p ∷ ps) qs d = join-append ps qs (joined_at p (slot_at e p) d)

  -- after i of n slots: joining the slots that are left gives y
  module _ (n i p : ℕ) (d y : List ℕ) (w : join_all (slot_range (n - i) (p + 65 * i)) e d ≡ y) where
    pub join-on : i < n → (s : List ℕ) → s ≡ slot_at e (p + 65 * i) → (z : List ℕ) → z ≡ joined_at (p + 65 * i) s d
        → join_all (slot_range (n - (i + 1)) (p + 65 * (i + 1))) e z ≡ y
    unfolding join_all slot_range
    join-on l s h z q =
        let o : p + 65 * (i + 1) ≡ p + 65 * i + 65 = omega arith in
        rw (q, h, o) (rw (one-more n i l) at w)

    pub join-end : n ≤ i → d ≡ y
    unfolding join_all slot_range
    join-end l = let j : n - i ≡ 0 = omega arith in (rw j at w)

-- ---- joining in place, and joining as a whole

pub joined-put : (p : ℕ) (s d : List ℕ) → length s ≡ signature_width → joined_at p s d ≡ put_slot p (join (slot_at d p) s) d
unfolding joined_at signature_width
joined-put p s d h = rw (eq-eqb (length s) 65 h) (go (dec-same (slot_at d p) blank))
  where
    go : Dec (slot_at d p ≡ blank) → pick (true && same (slot_at d p) blank) (put_slot p s d) d ≡ put_slot p (join (slot_at d p) s) d
    go (yes e) = rw (same-of-eq (slot_at d p) blank e, join-blank (slot_at d p) s e)
    go (no n) = rw (same-no (slot_at d p) blank n, join-filled (slot_at d p) s n) (sym (put-own p d))

put-alike : (f g : ℕ → List ℕ) (lo : ℕ) (ps : List ℕ) (n : ℕ) (d : List ℕ) → Spaced lo ps n → ((q : ℕ) → lo ≤ q → f q ≡ g q) → put_all ps f d ≡ put_all ps g d
unfolding put_all
put-alike f g lo [] n d h e = refl
put-alike f g lo (p ∷ ps) n d h e =
    ap (λ (s : List ℕ). put_all ps f (put_slot p s d)) (e p h.0)
    ∙ put-alike f g (p + signature_width) ps n (put_slot p (g p) d) h.1 (λ q k. e q (omega arith))

-- joining slot by slot puts each slot's join into d
pub joined-all : (e : List ℕ) (lo : ℕ) (ps d : List ℕ) → Spaced lo ps (length d) → length e ≡ length d
    → join_all ps e d ≡ put_all ps (λ p. join (slot_at d p) (slot_at e p)) d
unfolding join_all put_all
joined-all e lo [] d h l = refl
joined-all e lo (p ∷ ps) d h l =
    let fits : p + signature_width ≤ length d = spaced-le (p + signature_width) ps (length d) h.1 in
    let s : List ℕ = join (slot_at d p) (slot_at e p) in
    let le : length (slot_at e p) ≡ signature_width = length-slot_at e p (omega arith) in
    let ls : length s ≡ signature_width = length-join (slot_at d p) (slot_at e p) (length-slot_at d p fits) le in
    let kept : length (put_slot p s d) ≡ length d = length-put p s d ls fits in
    ap (join_all ps e) (joined-put p (slot_at e p) d le)
    ∙ joined-all e (p + signature_width) ps (put_slot p s d) (subst⁻¹ (λ (n : ℕ). Spaced (p + signature_width) ps n) kept h.1) (l ∙ sym kept)
    ∙ put-alike (λ q. join (slot_at (put_slot p s d) q) (slot_at e q)) (λ q. join (slot_at d q) (slot_at e q)) (p + signature_width) ps (length d)
    (put_slot p s d)
    h.1
    (λ q k. ap (λ (z : List ℕ). join z (slot_at e q)) (put-slot-after p s d ls fits q k))
