-- A signed transaction is its unsigned part and its signatures, for any unsigned format and any credentials wanted. Assumes nothing.
use mathlib.Core.Path.{◌≡◌, refl, sym, ap, ap₂, ◌∙◌, subst, subst⁻¹}
use mathlib.Core.Bool.{true, false≢true}
use mathlib.Core.List.{List}
use Prim.Native.Nat.{ℕ, ◌+◌, ◌≤◌, ◌<◌}
use native.Mathlib.Nat.{zero-add}
use native.Mathlib.Omega.{arith}
use lib.ListN.{length, take, get_or, length-append}
use lib.Seq.{take-append_seam}
use Rattle.wire.specs.Bytes.{Bytes}
use Rattle.wire.specs.Format.{Format, Parsed, took, refused, read}
use Rattle.wire.proofs.Format.{write-inj, read-complete}
use Rattle.wire.proofs.Whole.{whole-sound, whole-complete}
use Rattle.transaction.specs.Slots.{slot_at, Spaced}
use Rattle.transaction.specs.Credentials.{Want, layout, pieces, credentials, places, size, blanks, total}
use Rattle.transaction.specs.Signed.{most_bytes, taken, end_of, slots_of, signed, check, accepted, credentials_at, slots_at, assemble, Parts}
use Rattle.transaction.proofs.CredentialLaws.{length-pieces, spaced-places, slot_is, count-layout, blanks-good, fitting-layout}

pub taken-inv : {A : Type 0} (o : Parsed A) → taken o ≡ true → (v : A) × (n : ℕ) × (o ≡ took v n)
taken-inv (took v n) h = (v, n, refl)
taken-inv (refused e) h = absurd (false≢true h)

module _ {U : Type 0} (body : Format U) (wants : U → List Want) where
  pub parts-took : (d : List ℕ) (v : U × List (List ℕ)) (n : ℕ) → Bytes d → check body wants d ≡ took v n → Parts body wants d v.0 v.1
  unfolding check signed assemble
  parts-took d v n b e =
      let (g, w, m, h) = whole-sound (signed body wants) most_bytes d v n b e in
      record { unsigned-good = g.0; signatures-good = g.1; same = sym w; short = h }

  pub parts-of : (d : List ℕ) → Bytes d → accepted body wants d ≡ true → (u : U) × (l : List (List ℕ)) × Parts body wants d u l
  parts-of d b h = let (v, n, e) = taken-inv (check body wants d) h in (v.0, v.1, parts-took d v n b e)

  pub check-of : (d : List ℕ) (u : U) (l : List (List ℕ)) → Parts body wants d u l → check body wants d ≡ took (u, l) (length d)
  unfolding check signed assemble
  check-of d u l p =
      subst⁻¹ (λ (s : List ℕ). check body wants s ≡ took (u, l) (length s)) p.same
      (whole-complete (signed body wants) most_bytes (u, l) refused took (p.unsigned-good, p.signatures-good)
      (subst (λ (s : List ℕ). length s ≤ most_bytes) p.same p.short))

  pub bytes_of : (d : List ℕ) (u : U) (l : List (List ℕ)) → Parts body wants d u l → Bytes d
  unfolding signed assemble
  bytes_of d u l p = subst⁻¹ Bytes p.same ((signed body wants).bytes (u, l) (p.unsigned-good, p.signatures-good))

  pub accepted-of : (d : List ℕ) (u : U) (l : List (List ℕ)) → Parts body wants d u l → accepted body wants d ≡ true
  accepted-of d u l p = ap taken (check-of d u l p)

  -- ---- what is read from it

  module _ (d : List ℕ) (u : U) (l : List (List ℕ)) (p : Parts body wants d u l) where
    pub read-body : read body d 0 ≡ took u (length (body.write u))
    unfolding assemble
    read-body = read-complete body d 0 u ((credentials (wants u)).write l) p.unsigned-good p.same ∙ ap (took u) (zero-add (length (body.write u)))

    pub slots-eq : slots_at body wants d ≡ places (length (body.write u)) (layout (wants u))
    slots-eq = ap (slots_of wants) read-body

    pub unsigned-eq : take (credentials_at body wants d) d ≡ body.write u
    unfolding assemble
    unsigned-eq =
        ap (λ (o : Parsed U). take (end_of o) d) read-body ∙ ap (take (length (body.write u))) p.same
        ∙ take-append_seam (body.write u) ((credentials (wants u)).write l)

    pub length-eq : length d ≡ length (body.write u) + size (layout (wants u))
    unfolding assemble credentials
    length-eq = omega (
      arith,
      ap length p.same,
      length-append (body.write u) ((pieces (layout (wants u))).write l),
      length-pieces (layout (wants u)) l
          p.signatures-good,
    )

    pub count-eq : length (slots_at body wants d) ≡ total (wants u)
    count-eq = ap length slots-eq ∙ count-layout (wants u) (length (body.write u))

    -- slot k is the k-th signature
    pub slot-eq : (k : ℕ) → k < length l → (z : List ℕ) → slot_at d (get_or (slots_at body wants d) k 0) ≡ get_or l k z
    unfolding assemble credentials
    slot-eq k b z =
        ap₂ (λ (s ps : List ℕ). slot_at s (get_or ps k 0)) p.same slots-eq
        ∙ slot_is (layout (wants u)) l p.signatures-good (body.write u) (length (body.write u)) refl k b z

    pub spaced-slots : Spaced 0 (slots_at body wants d) (length d)
    spaced-slots =
        subst⁻¹ (λ (ps : List ℕ). Spaced 0 ps (length d)) slots-eq
        (spaced-places (layout (wants u)) 0 (length (body.write u)) (length d) (omega arith) (omega (arith, length-eq)))

  -- a transaction has only one unsigned part and one list of signatures
  pub parts-inj : (d : List ℕ) (u v : U) (l m : List (List ℕ)) → Parts body wants d u l → Parts body wants d v m → ◌≡◌ {A = U × List (List ℕ)} (u, l) (v, m)
  unfolding signed assemble
  parts-inj d u v l m p q =
      write-inj (signed body wants) (u, l) (v, m) (p.unsigned-good, p.signatures-good) (q.unsigned-good, q.signatures-good) (sym p.same ∙ q.same)

  -- of two transactions with the same bytes before the credential count, the second has the unsigned part of the first
  pub same-unsigned : (d e : List ℕ) (u v : U) (l m : List (List ℕ)) → Parts body wants d u l → Parts body wants e v m
      → take (credentials_at body wants d) d ≡ take (credentials_at body wants e) e → Parts body wants e u m
  same-unsigned d e u v l m p q h =
      subst (λ (w : U). Parts body wants e w m)
      (write-inj body v u q.unsigned-good p.unsigned-good (sym (unsigned-eq e v m q) ∙ sym h ∙ unsigned-eq d u l p)) q

  -- the transaction with blank signatures, for any value of the format, if it is not too long
  pub blank-parts : (u : U) → body.Good u → length (body.write u) + size (layout (wants u)) ≤ most_bytes
      → Parts body wants (assemble body wants u (blanks (layout (wants u)))) u (blanks (layout (wants u)))
  unfolding assemble credentials
  blank-parts u g h =
      let l : List (List ℕ) = blanks (layout (wants u)) in
      let gl : (credentials (wants u)).Good l = blanks-good (layout (wants u)) (fitting-layout (wants u) (omega arith)) in
      record {
        unsigned-good = g;
        signatures-good = gl;
        same = refl;
        short = omega (arith, length-append (body.write u) ((pieces (layout (wants u))).write l), length-pieces (layout (wants u)) l gl);
      }
