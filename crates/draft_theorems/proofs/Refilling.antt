-- Filling a blank transaction with the signatures of its reading. For any unsigned format and any credentials wanted. Assumes nothing.
use mathlib.Core.Path.{◌≡◌, sym, ap, ◌∙◌, subst⁻¹}
use mathlib.Core.List.{List, map}
use Prim.Native.Nat.{ℕ}
use native.Mathlib.Omega.{arith}
use lib.ListN.{length, length-map, get_or-map}
use lib.Seq.{ext_get_or}
use Rattle.wire.specs.Format.{Format}
use Rattle.transaction.specs.Slots.{blank, slot_at}
use Rattle.transaction.specs.Credentials.{Want, layout, credentials, blanks}
use Rattle.transaction.specs.Signed.{slots_at, assemble, Parts}
use Rattle.transaction.specs.Family.{Family, unsigned, wants}
use Rattle.transaction.proofs.CredentialLaws.{length-places, blanks-blank}
use Rattle.transaction.proofs.Signed.{parts-took, slots-eq, unsigned-eq, length-eq, slot-eq, blank-parts}
use Rattle.draft.specs.Reader.{Reader, signed_reader, body, slot_count, slot}
use Rattle.draft_theorems.specs.Filling.{signatures, BlankOf, Fills, ReadingFilled}
use Rattle.draft_theorems.proofs.Reading.{draft-of, laws}
use Rattle.draft_theorems.proofs.Filling.{fills-blank}

module _ {U : Type 0} (unsigned : Format U) (wants : U → List Want) where
  -- there are as many slots as signatures
  pub slots-count : (d : List ℕ) (u : U) (l : List (List ℕ)) → Parts unsigned wants d u l → length (slots_at unsigned wants d) ≡ length l
  unfolding credentials
  slots-count d u l p = ap length (slots-eq unsigned wants d u l p) ∙ length-places (layout (wants u)) l (length (unsigned.write u)) p.signatures-good

  signatures-of : (d : List ℕ) (u : U) (l : List (List ℕ)) → Parts unsigned wants d u l → l ≡ signatures (signed_reader unsigned wants) d
  signatures-of d u l p =
      let qs : List ℕ = slots_at unsigned wants d in
      ext_get_or (slot_at d 0) l (map (slot_at d) qs) (sym (length-map qs (slot_at d) ∙ slots-count d u l p))
      (λ k b. sym (slot-eq unsigned wants d u l p k b (slot_at d 0)) ∙ sym (get_or-map (slot_at d) qs k 0))

  blank_of : (d : List ℕ) (u : U) (l : List (List ℕ)) → Parts unsigned wants d u l
      → BlankOf (signed_reader unsigned wants) d (assemble unsigned wants u (blanks (layout (wants u))))
  unfolding body slot_count slot
  blank_of d u l p =
      let z : List (List ℕ) = blanks (layout (wants u)) in
      let b : List ℕ = assemble unsigned wants u z in
      let q : Parts unsigned wants b u z = blank-parts unsigned wants u p.unsigned-good (omega (arith, length-eq unsigned wants d u l p, p.short)) in
      record {
        draft = draft-of unsigned wants b u z q;
        same-unsigned = unsigned-eq unsigned wants b u z q ∙ sym (unsigned-eq unsigned wants d u l p);
        empty = λ k kb. slot-eq unsigned wants b u z q k (omega (arith, slots-count b u z q)) blank ∙ blanks-blank (layout (wants u)) k;
      }

  fills-parts : (d : List ℕ) (u : U) (l : List (List ℕ)) → Parts unsigned wants d u l
      → Fills (signed_reader unsigned wants) 0 l (assemble unsigned wants u (blanks (layout (wants u)))) d
  fills-parts d u l p =
      let R : Reader = signed_reader unsigned wants in
      let b : List ℕ = assemble unsigned wants u (blanks (layout (wants u))) in
      subst⁻¹ (λ (m : List (List ℕ)). Fills R 0 m b d) (signatures-of d u l p)
      (fills-blank R (laws unsigned wants) d (draft-of unsigned wants d u l p) b (blank_of d u l p))

pub reading-filled : (F : Family) → ReadingFilled F
reading-filled F = record { filled = λ d v n b e. fills-parts (unsigned F) (wants F) d v.0 v.1 (parts-took (unsigned F) (wants F) d v n b e) }
