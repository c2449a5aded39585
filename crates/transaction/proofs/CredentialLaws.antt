-- Laws of the list of credentials, each by induction over its pieces. Assumes nothing.
use mathlib.Core.Path.{◌≡◌, refl, sym, ap, ◌∙◌, subst}
use mathlib.Core.Logic.{inl, inr}
use mathlib.Core.List.{List, [], ◌∷◌, ◌++◌, append_assoc, map}
use Prim.Native.Nat.{ℕ, zero, suc, ◌+◌, ◌-◌, ◌*◌, ◌^◌, ◌≤◌, ◌<◌}
use native.Mathlib.Nat.{le_of_suc-le-suc, add-mul}
use native.Mathlib.Decide.{dec_le}
use native.Mathlib.Omega.{arith}
use lib.Dec.{eqb}
use lib.ListN.{length, take, get_or, length-append, get_or-append}
use lib.Seq.{take_at, drop_at, get_or-append-add}
use borrow.Author.Tests.{eq-eqb}
use Rattle.wire.specs.Bytes.{Bytes, digits, pick}
use Rattle.wire.specs.laws.Bytes.{length_digits}
use Rattle.wire.specs.Numbers.{by, unknown_type, wrong_count}
use Rattle.wire.proofs.Format.{parse-alike}
use Rattle.wire.specs.Fields.{integer, blob}
use Rattle.wire.specs.declared.Refusal.{Refusal}
use Rattle.transaction.specs.Slots.{signature_width, blank, slot_at, Outside, Spaced}
use Rattle.transaction.proofs.Slots.{length-slot_at, bytes-slot_at, bytes-blank, length-blank}
use Rattle.transaction.specs.Credentials.{CredentialType, secp_credential, nft_credential, credential_code, Want, Piece, due, signature}
use Rattle.transaction.specs.Credentials.{signatures, credential, each, layout, pieces, credentials, places, size, blanks, total}

-- ---- piece by piece, as the code reads them: it keeps no signature, only the offset

module _ {R : Type 0} (s : List ℕ) (stop : Refusal → R) (go : ℕ → R) where
  -- n signatures, then the other pieces
  pub signatures-then : (n : ℕ) (ps : List Piece) (at : ℕ) → (pieces (signatures n ps)).parse s at stop (λ l k. go k)
      ≡ (pieces (signatures n [])).parse s at stop (λ l m. (pieces ps).parse s m stop (λ l k. go k))
  unfolding pieces signatures
  signatures-then zero ps at = refl
  signatures-then (suc n) ps at = parse-alike (blob signature_width) s at stop _ _ (λ b m. signatures-then n ps m)

  -- one credential, then the others
  pub each-then : (w : Want) (ws : List Want) (at : ℕ) → (pieces (each (w ∷ ws))).parse s at stop (λ l k. go k)
      ≡ (pieces (credential w [])).parse s at stop (λ l m. (pieces (each ws)).parse s m stop (λ l k. go k))
  unfolding pieces each
  each-then w ws at =
      parse-alike (integer 4) s at stop _ _ (λ n m.
      ap (λ r. pick (eqb n (credential_code w.type)) r (stop (by unknown_type at)))
      (parse-alike (integer 4) s m stop _ _ (λ i j.
      ap (λ r. pick (eqb i w.signatures) r (stop (by wrong_count m))) (signatures-then w.signatures (each ws) j))))

-- ---- lengths and offsets

-- the length of n signatures fits in 64 bits if n fits in 32
pub signatures-fit : (n : ℕ) → n < 256 ^ 4 → 65 * n < 2 ^ 64
signatures-fit n h = omega arith

pub length-pieces : (ps : List Piece) (l : List (List ℕ)) → (pieces ps).Good l → length ((pieces ps).write l) ≡ size ps
unfolding pieces size integer
length-pieces [] l h = refl
length-pieces (due x v ∷ ps) l h = omega (arith, length-append (digits 4 v) ((pieces ps).write l), length_digits 4 v, length-pieces ps l h.1)
length-pieces (signature ∷ ps) [] h = absurd h
length-pieces (signature ∷ ps) (b ∷ l) h = omega (arith, length-append b ((pieces ps).write l), h.0.0, length-pieces ps l h.1)

-- there are as many offsets as signatures
pub length-places : (ps : List Piece) (l : List (List ℕ)) (p : ℕ) → (pieces ps).Good l → length (places p ps) ≡ length l
unfolding pieces places
length-places [] l p h = ap length (sym h)
length-places (due x v ∷ ps) l p h = length-places ps l (p + 4) h.1
length-places (signature ∷ ps) [] p h = absurd h
length-places (signature ∷ ps) (b ∷ l) p h = ap suc (length-places ps l (p + signature_width) h.1)

pub spaced-places : (ps : List Piece) (lo p n : ℕ) → lo ≤ p → p + size ps ≤ n → Spaced lo (places p ps) n
unfolding places size
spaced-places [] lo p n h k = omega arith
spaced-places (due x v ∷ ps) lo p n h k = spaced-places ps lo (p + 4) n (omega arith) (omega arith)
spaced-places (signature ∷ ps) lo p n h k = (h, spaced-places ps (p + signature_width) (p + signature_width) n (omega arith) (omega arith))

-- two concatenations whose first lists have equal lengths, index by index
pub by_front : (a b c d : List ℕ) (n j : ℕ) → length a ≡ n → length b ≡ n → (j < n → get_or a j 0 ≡ get_or b j 0)
    → (n ≤ j → get_or c (j - n) 0 ≡ get_or d (j - n) 0) → get_or (a ++ c) j 0 ≡ get_or (b ++ d) j 0
by_front a b c d n j ea eb f g = go (dec_le n j)
  where
    past : (x y : List ℕ) → length x ≡ n → n ≤ j → get_or (x ++ y) j 0 ≡ get_or y (j - n) 0
    past x y e h = ap (λ (m : ℕ). get_or (x ++ y) m 0) (omega arith) ∙ get_or-append-add x y (j - n) 0

    go : Dec (n ≤ j) → get_or (a ++ c) j 0 ≡ get_or (b ++ d) j 0
    go (no k) = get_or-append a c 0 j (omega arith) ∙ f (omega arith) ∙ sym (get_or-append b d 0 j (omega arith))
    go (yes k) = past a c ea k ∙ g k ∙ sym (past b d eb k)

-- the same pieces with other signatures have the same bytes outside the signatures
pub pieces-outside : (ps : List Piece) (l m : List (List ℕ)) → (pieces ps).Good l → (pieces ps).Good m
    → (p j : ℕ) → Outside (places p ps) (p + j) → get_or ((pieces ps).write l) j 0 ≡ get_or ((pieces ps).write m) j 0
unfolding pieces places integer
pieces-outside [] l m g h p j o = refl
pieces-outside (due x v ∷ ps) l m g h p j o =
    by_front (digits 4 v) (digits 4 v) ((pieces ps).write l) ((pieces ps).write m) 4 j (length_digits 4 v) (length_digits 4 v) (λ k. refl)
    (λ k. pieces-outside ps l m g.1 h.1 (p + 4) (j - 4) (subst (Outside (places (p + 4) ps)) (omega arith) o))
pieces-outside (signature ∷ ps) [] m g h p j o = absurd g
pieces-outside (signature ∷ ps) (x ∷ l) [] g h p j o = absurd h
pieces-outside (signature ∷ ps) (x ∷ l) (y ∷ m) g h p j o =
    by_front x y ((pieces ps).write l) ((pieces ps).write m) signature_width j g.0.0 h.0.0
    (λ k. elim o.0 [ inl a ↦ absurd (omega arith) | inr a ↦ absurd (omega arith) ])
    (λ k. pieces-outside ps l m g.1 h.1 (p + signature_width) (j - signature_width) (subst (Outside (places (p + signature_width) ps)) (omega arith) o.1))

-- the signature at the k-th offset is the k-th
pub slot_is : (ps : List Piece) (l : List (List ℕ)) → (pieces ps).Good l → (pre : List ℕ) (p : ℕ) → length pre ≡ p
    → (k : ℕ) → k < length l → (z : List ℕ) → slot_at (pre ++ (pieces ps).write l) (get_or (places p ps) k 0) ≡ get_or l k z
unfolding pieces places slot_at integer
slot_is [] l h pre p e k b z = absurd (omega (arith, ap length h))
slot_is (due x v ∷ ps) l h pre p e k b z =
    ap (λ (s : List ℕ). slot_at s (get_or (places (p + 4) ps) k 0)) (sym (append_assoc pre (digits 4 v) ((pieces ps).write l)))
    ∙ slot_is ps l h.1 (pre ++ digits 4 v) (p + 4) (omega (arith, length-append pre (digits 4 v), length_digits 4 v)) k b z
slot_is (signature ∷ ps) [] h pre p e k b z = absurd h
slot_is (signature ∷ ps) (x ∷ l) h pre p e zero b z =
    ap (take signature_width) (drop_at pre (x ++ (pieces ps).write l) p e) ∙ take_at x ((pieces ps).write l) signature_width h.0.0
slot_is (signature ∷ ps) (x ∷ l) h pre p e (suc k) b z =
    ap (λ (s : List ℕ). slot_at s (get_or (places (p + signature_width) ps) k 0)) (sym (append_assoc pre x ((pieces ps).write l)))
    ∙ slot_is ps l h.1 (pre ++ x) (p + signature_width) (omega (arith, length-append pre x, h.0.0)) k (le_of_suc-le-suc b) z

-- in any bytes that are long enough, what is at the offsets are signatures for the pieces
pub slots-good : (ps : List Piece) (l : List (List ℕ)) → (pieces ps).Good l → (e : List ℕ) → Bytes e → (p : ℕ) → p + size ps ≤ length e
    → (pieces ps).Good (map (slot_at e) (places p ps))
unfolding pieces places size
slots-good [] l h e be p b = refl
slots-good (due x v ∷ ps) l h e be p b = (h.0, slots-good ps l h.1 e be (p + 4) (omega arith))
slots-good (signature ∷ ps) [] h e be p b = absurd h
slots-good (signature ∷ ps) (x ∷ l) h e be p b =
    ((length-slot_at e p (omega arith), bytes-slot_at e p be), slots-good ps l h.1 e be (p + signature_width) (omega arith))

-- ---- how many signatures, how many bytes

count-signatures : (n : ℕ) (ps : List Piece) (m : ℕ) → ((q : ℕ) → length (places q ps) ≡ m) → (p : ℕ) → length (places p (signatures n ps)) ≡ n + m
unfolding signatures places
count-signatures zero ps m h p = omega (arith, h p)
count-signatures (suc n) ps m h p = omega (arith, count-signatures n ps m h (p + signature_width))

count-each : (ws : List Want) (p : ℕ) → length (places p (each ws)) ≡ total ws
unfolding each places total
count-each [] p = refl
count-each (w ∷ ws) p = count-signatures w.signatures (each ws) (total ws) (count-each ws) (p + 4 + 4)

pub count-layout : (ws : List Want) (p : ℕ) → length (places p (layout ws)) ≡ total ws
unfolding layout places
count-layout ws p = count-each ws (p + 4)

size-signatures : (n : ℕ) (ps : List Piece) → size (signatures n ps) ≡ n * signature_width + size ps
unfolding signatures size signature_width
size-signatures zero ps = omega arith
size-signatures (suc n) ps = omega (arith, size-signatures n ps)

pub size-each : (ws : List Want) → size (each ws) ≡ 8 * length ws + total ws * signature_width
unfolding each size total signature_width
size-each [] = refl
size-each (w ∷ ws) = omega (arith, size-signatures w.signatures (each ws), size-each ws)

pub total-cons : (w : Want) (ws : List Want) → total (w ∷ ws) * signature_width ≡ w.signatures * signature_width + total ws * signature_width
unfolding total
total-cons w ws = add-mul w.signatures (total ws) signature_width

-- ---- blank signatures

pub blanks-blank : (ps : List Piece) (k : ℕ) → get_or (blanks ps) k blank ≡ blank
unfolding blanks
blanks-blank [] k = refl
blanks-blank (due x v ∷ ps) k = blanks-blank ps k
blanks-blank (signature ∷ ps) zero = refl
blanks-blank (signature ∷ ps) (suc k) = blanks-blank ps k

-- every integer among the pieces fits in 32 bits
abbrev pub Fitting : List Piece → Type 0
Fitting [] = Unit {0}
Fitting (due x v ∷ ps) = (v < 256 ^ 4) × Fitting ps
Fitting (signature ∷ ps) = Fitting ps

pub blanks-good : (ps : List Piece) → Fitting ps → (pieces ps).Good (blanks ps)
unfolding pieces blanks integer
blanks-good [] h = refl
blanks-good (due x v ∷ ps) h = ((h.0, eq-eqb v v refl), blanks-good ps h.1)
blanks-good (signature ∷ ps) h = ((length-blank, bytes-blank), blanks-good ps h)

pub credential_code-fits : (k : CredentialType) → credential_code k < 256 ^ 4
credential_code-fits secp_credential = omega arith
credential_code-fits nft_credential = omega arith

fitting-signatures : (n : ℕ) (ps : List Piece) → Fitting ps → Fitting (signatures n ps)
unfolding signatures
fitting-signatures zero ps h = h
fitting-signatures (suc n) ps h = fitting-signatures n ps h

fitting-each : (ws : List Want) → size (each ws) < 256 ^ 4 → Fitting (each ws)
unfolding each size signature_width
fitting-each [] k = tt
fitting-each (w ∷ ws) k =
    let e : size (signatures w.signatures (each ws)) ≡ w.signatures * signature_width + size (each ws) = size-signatures w.signatures (each ws) in
    (credential_code-fits w.type, (omega arith, fitting-signatures w.signatures (each ws) (fitting-each ws (omega arith))))

-- if the list is not too long, its counts fit in 32 bits
pub fitting-layout : (ws : List Want) → size (layout ws) < 256 ^ 4 → Fitting (layout ws)
unfolding layout size
fitting-layout ws k = (omega (arith, size-each ws), fitting-each ws (omega arith))

-- blank signatures take as many bytes as any others
length-blanks : (ps : List Piece) → length ((pieces ps).write (blanks ps)) ≡ size ps
unfolding pieces blanks size integer
length-blanks [] = refl
length-blanks (due x v ∷ ps) = omega (arith, length-append (digits 4 v) ((pieces ps).write (blanks ps)), length_digits 4 v, length-blanks ps)
length-blanks (signature ∷ ps) = omega (arith, length-append blank ((pieces ps).write (blanks ps)), length-blank, length-blanks ps)

pub blank-good : (ws : List Want) → length ((credentials ws).write (blanks (layout ws))) ≤ 65536 → (credentials ws).Good (blanks (layout ws))
unfolding credentials
blank-good ws h = blanks-good (layout ws) (fitting-layout ws (omega (arith, length-blanks (layout ws))))

pub same_length : (ws : List Want) (l : List (List ℕ)) → (credentials ws).Good l
    → length ((credentials ws).write l) ≡ length ((credentials ws).write (blanks (layout ws)))
unfolding credentials
same_length ws l g = length-pieces (layout ws) l g ∙ sym (length-blanks (layout ws))

pub length-credentials : (ws : List Want) (l : List (List ℕ)) → (credentials ws).Good l → length ((credentials ws).write l) ≡ 4 + size (each ws)
unfolding credentials layout size
length-credentials ws l g = length-pieces (layout ws) l g
