-- Filling every slot of a transaction with the signatures of another of the same unsigned part gives that other. Assumes nothing.
use Prim.Native.Nat.{ℕ, ◌+◌}
use mathlib.Core.Path.{◌≡◌, refl, sym, ap, ap₂, ◌∙◌}
use mathlib.Core.List.{List, [], ◌∷◌, ◌++◌, append_assoc}
use native.Mathlib.Omega.{arith}
use lib.ListN.{length, take, drop, length-append}
use lib.Seq.{take_at, drop_at}
use Rattle.wire.specs.Bytes.{digits}
use Rattle.wire.specs.laws.Bytes.{length_digits}
use Rattle.wire.specs.Fields.{integer}
use Rattle.transaction.specs.Slots.{signature_width, slot_at, put_slot, put_all}
use Rattle.transaction.specs.Credentials.{Want, Piece, due, signature, pieces, places, layout, credentials}
use Rattle.transaction.specs.Signed as AnySigned
use Rattle.transaction.proofs.Signed.{slots-eq}

fill-pieces : (ps : List Piece) (l m : List (List ℕ)) → (pieces ps).Good l → (pieces ps).Good m → (pre : List ℕ) (p : ℕ) → length pre ≡ p
    → (d : List ℕ) → d ≡ pre ++ (pieces ps).write l
    → put_all (places p ps) (slot_at d) (pre ++ (pieces ps).write m) ≡ d
unfolding pieces places put_all put_slot slot_at integer
fill-pieces [] l m g h pre p e d same = sym same
fill-pieces (due x v ∷ ps) l m g h pre p e d same =
    let w : List ℕ = digits 4 v in
    ap (put_all (places (p + 4) ps) (slot_at d)) (sym (append_assoc pre w ((pieces ps).write m)))
    ∙ fill-pieces ps l m g.1 h.1 (pre ++ w) (p + 4) (omega (arith, length-append pre w, length_digits 4 v)) d
    (same ∙ sym (append_assoc pre w ((pieces ps).write l)))
fill-pieces (signature ∷ ps) [] m g h pre p e d same = absurd g
fill-pieces (signature ∷ ps) (x ∷ l) [] g h pre p e d same = absurd h
fill-pieces (signature ∷ ps) (x ∷ l) (y ∷ m) g h pre p e d same =
    let W : List ℕ = (pieces ps).write m in
    let found : slot_at d p ≡ x =
    ap (λ (z : List ℕ). take signature_width (drop p z)) same ∙ ap (take signature_width) (drop_at pre (x ++ (pieces ps).write l) p e)
    ∙ take_at x ((pieces ps).write l) signature_width g.0.0 in
    let rest : drop (p + signature_width) (pre ++ (y ++ W)) ≡ W =
    ap (drop (p + signature_width)) (sym (append_assoc pre y W)) ∙ drop_at (pre ++ y) W (p + signature_width) (omega (arith, length-append pre y, h.0.0)) in
    let filled : put_slot p (slot_at d p) (pre ++ (y ++ W)) ≡ (pre ++ x) ++ W =
    ap₂ (λ (a b : List ℕ). (a ++ b) ++ drop (p + signature_width) (pre ++ (y ++ W))) (take_at pre (y ++ W) p e) found
    ∙ ap (λ (z : List ℕ). (pre ++ x) ++ z) rest in
    ap (put_all (places (p + signature_width) ps) (slot_at d)) filled
    ∙ fill-pieces ps l m g.1 h.1 (pre ++ x) (p + signature_width) (omega (arith, length-append pre x, g.0.0)) d
    (same ∙ sym (append_assoc pre x ((pieces ps).write l)))

module _ {U : Type 0} (body : _) (wants : U → List Want) where
  pub fill-all : (d e : List ℕ) (u : U) (l m : List (List ℕ)) → AnySigned.Parts body wants d u l → AnySigned.Parts body wants e u m
      → put_all (AnySigned.slots_at body wants d) (slot_at d) e ≡ d
  unfolding AnySigned.assemble credentials
  fill-all d e u l m p q =
      ap₂ (λ (ps : List ℕ) (z : List ℕ). put_all ps (slot_at d) z) (slots-eq body wants d u l p) q.same
      ∙ fill-pieces (layout (wants u)) l m p.signatures-good q.signatures-good (body.write u) (length (body.write u)) refl d p.same
