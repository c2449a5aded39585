-- The rows describe the slots that merging and filling use: their offsets, and which are empty. Assumes nothing.
use Prim.Native.Nat.{ℕ, zero, suc, ◌+◌, ◌*◌}
use mir.Val.{bool_byte}
use mathlib.Core.Path.{◌≡◌, refl, sym, ap, ◌∙◌}
use mathlib.Core.Bool.{Bool, true, false, not, cond}
use mathlib.Core.List.{List, [], ◌∷◌, ◌++◌, append_assoc, map}
use native.Mathlib.Omega.{arith}
use lib.ListN.{length, length-append}
use Rattle.wire.specs.Format.{Format, Parsed, took, refused, read}
use Rattle.transaction.specs.Slots.{signature_width, blank, slot_at}
use Rattle.transaction.specs.Credentials.{Want, Piece, signatures, credential, each, layout, places, size}
use Rattle.transaction.specs.Signed as Signed
use Rattle.transaction.specs.Family.{Family, unsigned, wants}
use Rattle.draft_slots.specs.Joining.{same}
use Rattle.draft_slots.proofs.Comparing.{same-eq, same-of-eq, same-no}
use Rattle.draft.specs.Reader.{reader}
use Rattle.draft_slot_table.specs.Slots.{Slot, slot_in, slots_from, slots_of, slot_list, filled_at, row, rows}

-- ---- the offsets are those of the slots

places-after : (n : ℕ) (ps : List Piece) (p : ℕ) → places p (signatures n ps) ≡ places p (signatures n []) ++ places (p + size (signatures n [])) ps
unfolding places signatures size
places-after zero ps p = let e : p ≡ p + 0 = omega arith in ap (λ (i : ℕ). places i ps) e
places-after (suc n) ps p =
    let q : ℕ = size (signatures n []) in
    let e : p + signature_width + q ≡ p + (signature_width + q) = omega arith in
    ap (λ (l : List ℕ). p ∷ l)
    (places-after n ps (p + signature_width) ∙ ap (λ (i : ℕ). places (p + signature_width) (signatures n []) ++ places i ps) e)

places-credential : (w : Want) (ps : List Piece) (p : ℕ) → places p (credential w ps) ≡ places p (credential w []) ++ places (p + size (credential w [])) ps
unfolding places size
places-credential w ps p =
    let q : ℕ = size (signatures w.signatures []) in
    let e : p + 4 + 4 + q ≡ p + (4 + (4 + q)) = omega arith in
    places-after w.signatures ps (p + 4 + 4) ∙ ap (λ (i : ℕ). places (p + 4 + 4) (signatures w.signatures []) ++ places i ps) e

places-map : (k : ℕ) (ps : List ℕ) (l : List Slot) → map (λ x. x.place) (map (slot_in k) ps ++ l) ≡ ps ++ map (λ x. x.place) l
places-map k [] l = refl
places-map k (p ∷ ps) l = ap (λ (z : List ℕ). p ∷ z) (places-map k ps l)

places-from : (k p : ℕ) (ws : List Want) → map (λ x. x.place) (slots_from k p ws) ≡ places p (each ws)
unfolding slots_from each places
places-from k p [] = refl
places-from k p (w ∷ ws) =
    let front : List ℕ = places p (credential w []) in
    let next : ℕ = p + size (credential w []) in
    places-map k front (slots_from (suc k) next ws) ∙ ap (λ (l : List ℕ). front ++ l) (places-from (suc k) next ws) ∙ sym (places-credential w (each ws) p)

module _ {U : Type 0} (body : Format U) (wants : U → List Want) where
  pub slot-places : (d : List ℕ) → map (λ x. x.place) (slot_list body wants d) ≡ Signed.slots_at body wants d
  unfolding layout places
  slot-places d = go (read body d 0)
    where
      go : (o : Parsed U) → map (λ x. x.place) (slots_of wants o) ≡ Signed.slots_of wants o
      go (took u m) = places-from 0 (m + 4) (wants u)
      go (refused e) = refl

-- demand 3: the slots that are listed are those that are merged and filled
pub reader-places : (F : Family) (d : List ℕ) → map (λ x. x.place) (slot_list (unsigned F) (wants F) d) ≡ (reader F).slots d
reader-places F d = slot-places (unsigned F) (wants F) d

-- ---- whether a slot is filled

module _ (d : List ℕ) (p : ℕ) where
  pub filled-empty : slot_at d p ≡ blank → filled_at d p ≡ 0
  unfolding filled_at
  filled-empty h = rw (same-of-eq (slot_at d p) blank h)

  pub filled-signed : (slot_at d p ≡ blank → ⊥) → filled_at d p ≡ 1
  unfolding filled_at
  filled-signed h = rw (same-no (slot_at d p) blank h)

  pub empty-filled : filled_at d p ≡ 0 → slot_at d p ≡ blank
  unfolding filled_at
  empty-filled h = go (same (slot_at d p) blank) refl h
    where
      go : (b : Bool) → same (slot_at d p) blank ≡ b → ◌≡◌ {A = ℕ} (cond b 0 1) 0 → slot_at d p ≡ blank
      go true e h = same-eq (slot_at d p) blank e
      go false e h = absurd (omega arith)

-- x is the slot, and r says whether it is empty
module _ (d : List ℕ) (p : ℕ) (x : List ℕ) (r : Bool) (h : x ≡ slot_at d p) (g : r ≡ same x blank) where
  pub filling : (z : ℕ) → z ≡ bool_byte (not r) → z ≡ filled_at d p
  unfolding filled_at
  filling z e = e ∙ go r ∙ ap (λ (b : Bool). cond b 0 1) (g ∙ ap (λ (y : List ℕ). same y blank) h)
    where
      go : (b : Bool) → bool_byte (not b) ≡ cond b 0 1
      go true = refl
      go false = refl

-- ---- rows as integers, three each

pub length-rows : (d : List ℕ) (l : List Slot) → length (rows d l) ≡ 3 * length l
unfolding rows row
length-rows d [] = refl
length-rows d (x ∷ l) = omega (arith, length-append (row d x) (rows d l), length-rows d l)

pub rows_append : (d : List ℕ) (l m : List Slot) → rows d (l ++ m) ≡ rows d l ++ rows d m
unfolding rows
rows_append d [] m = refl
rows_append d (x ∷ l) m = ap (λ (z : List ℕ). row d x ++ z) (rows_append d l m) ∙ sym (append_assoc (row d x) (rows d l) (rows d m))
