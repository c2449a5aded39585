-- The laws of merging follow from the laws of formats, for any unsigned format and any rule for the credentials that it wants. So a family gives
-- its plan, and proves nothing more. Assumes nothing.
use mathlib.Core.Path.{◌≡◌, refl, sym, ap, ◌∙◌, subst, subst⁻¹}
use mathlib.Core.List.{List, map}
use Prim.Native.Nat.{ℕ, ◌-◌}
use native.Mathlib.Omega.{arith}
use lib.ListN.{length, get_or, length-append, length-map, get_or-map}
use Rattle.wire.specs.Bytes.{Bytes}
use Rattle.wire.specs.Format.{Format}
use Rattle.transaction.specs.Slots.{slot_at, Outside}
use Rattle.transaction.specs.Credentials.{Want, Piece, layout, pieces, credentials, places}
use Rattle.transaction.specs.Signed.{slots_at, assemble, Parts}
use Rattle.transaction.proofs.CredentialLaws.{length-pieces, by_front, pieces-outside, slots-good}
use Rattle.transaction.proofs.Signed.{parts-of, bytes_of, accepted-of, slots-eq, unsigned-eq, length-eq, slot-eq, spaced-slots, same-unsigned}
use Rattle.draft_slots.proofs.Putting.{by_slots}
use Rattle.draft.specs.Reader.{Reader, signed_reader, Draft, body}
use Rattle.draft_theorems.specs.Demand.{Frame}
use Rattle.draft_theorems.proofs.Laws.{Laws}

module _ {U : Type 0} (unsigned : Format U) (wants : U → List Want) where
  abbrev R : Reader
  R = signed_reader unsigned wants

  pub parts : (d : List ℕ) → Draft R d → (u : U) × (l : List (List ℕ)) × Parts unsigned wants d u l
  parts d h = parts-of unsigned wants d h.bytes h.accepted

  pub draft-of : (d : List ℕ) (u : U) (l : List (List ℕ)) → Parts unsigned wants d u l → Draft R d
  draft-of d u l p = record { bytes = bytes_of unsigned wants d u l p; accepted = accepted-of unsigned wants d u l p }

  -- two drafts of one unsigned transaction differ in their slots only
  frame-of : (d e : List ℕ) (u : U) (l m : List (List ℕ)) → Parts unsigned wants d u l → Parts unsigned wants e u m → Frame (slots_at unsigned wants d) d e
  unfolding assemble credentials
  frame-of d e u l m p q =
      let w : List ℕ = unsigned.write u in
      let ps : List Piece = layout (wants u) in
      subst⁻¹ (λ (qs : List ℕ). Frame qs d e) (slots-eq unsigned wants d u l p)
      record {
        long = length-eq unsigned wants e u m q ∙ sym (length-eq unsigned wants d u l p);
        outside = λ n o.
            ap (λ (x : List ℕ). get_or x n 0) q.same
            ∙ by_front w w ((pieces ps).write m) ((pieces ps).write l) (length w) n refl refl (λ k. refl)
            (λ k. pieces-outside ps m l q.signatures-good p.signatures-good (length w) (n - length w)
            (subst (Outside (places (length w) ps)) (omega arith) o))
            ∙ ap (λ (x : List ℕ). get_or x n 0) (sym p.same);
      }

  -- bytes that differ from a transaction in its slots only are assembled from what their slots hold
  refill : (d e : List ℕ) (u : U) (l : List (List ℕ)) → Parts unsigned wants d u l → Bytes e → Frame (slots_at unsigned wants d) d e
      → Parts unsigned wants e u (map (slot_at e) (slots_at unsigned wants d))
  unfolding assemble credentials
  refill d e u l p be f =
      let qs : List ℕ = slots_at unsigned wants d in
      let m : List (List ℕ) = map (slot_at e) qs in
      let s : List ℕ = assemble unsigned wants u m in
      let g : (credentials (wants u)).Good m =
      subst⁻¹ (λ (ps : List ℕ). (pieces (layout (wants u))).Good (map (slot_at e) ps)) (slots-eq unsigned wants d u l p)
      (slots-good (layout (wants u)) l p.signatures-good e be (length (unsigned.write u)) (omega (arith, length-eq unsigned wants d u l p, f.long))) in
      let long : length s ≡ length d =
      omega (
        arith,
        length-eq unsigned wants d u l p,
        length-append (unsigned.write u) ((pieces (layout (wants u))).write m),
        length-pieces
            (layout (wants u)) m g,
      ) in
      let q : Parts unsigned wants s u m = record { unsigned-good = p.unsigned-good; signatures-good = g; same = refl; short = omega (arith, p.short) } in
      let same : e ≡ s =
      by_slots qs e s (f.long ∙ sym long) (λ n o. f.outside n o ∙ sym ((frame-of d s u l m p q).outside n o))
      (λ j b.
      sym (get_or-map (slot_at e) qs j 0)
      ∙ sym (slot-eq unsigned wants s u m q j (omega (arith, length-map qs (slot_at e))) (slot_at e 0))
      ∙ ap (λ (ps : List ℕ). slot_at s (get_or ps j 0)) (slots-eq unsigned wants s u m q ∙ sym (slots-eq unsigned wants d u l p))) in
      record { unsigned-good = p.unsigned-good; signatures-good = g; same = same; short = omega (arith, p.short, f.long) }

  pub laws : Laws R
  unfolding body
  laws =
      record {
        apart = λ d hd. let (u, l, p) = parts d hd in spaced-slots unsigned wants d u l p;
        alike = λ d e hd he h.
            let (u, l, p) = parts d hd in
            let (v, m, q) = parts e he in
            let q' : Parts unsigned wants e u m = same-unsigned unsigned wants d e u v l m p q h in
            (slots-eq unsigned wants e u m q' ∙ sym (slots-eq unsigned wants d u l p), frame-of d e u l m p q');
        refilled = λ d e hd be f.
            let (u, l, p) = parts d hd in
            let m : List (List ℕ) = map (slot_at e) (slots_at unsigned wants d) in
            let q : Parts unsigned wants e u m = refill d e u l p be f in (
              accepted-of unsigned wants e u m q,
              unsigned-eq unsigned wants d u l p ∙ sym (unsigned-eq unsigned wants e u m q),
              slots-eq unsigned wants e u m q ∙ sym (slots-eq unsigned wants d u l p),
            );
      }
