-- In an accepted transaction the scan by the counts stored there finds its slots. Assumes nothing.
use Rattle.std.specs.Prelude.{Option}
use Prim.Native.Nat.{ℕ, zero, suc, ◌+◌, ◌*◌}
use mathlib.Core.Path.{◌≡◌, refl, sym, ap, ap₂, ◌∙◌}
use mathlib.Core.List.{List, [], ◌∷◌, ◌++◌, map}
use native.Mathlib.Omega.{arith}
use lib.ListN.{length, drop}
use Rattle.wire.specs.Format.{Format}
use Rattle.wire.specs.Fields.{integer}
use Rattle.transaction.specs.Slots.{signature_width}
use Rattle.transaction.specs.Credentials.{Want, credential_code, signatures, credential, each, layout, pieces, credentials, places, size}
use Rattle.transaction.specs.Signed.{Parts}
use Rattle.transaction.proofs.Signed.{read-body}
use Rattle.draft_slots.specs.code.Scan.{on_range}
use Rattle.draft_slots.specs.declared.SlotRange.{SlotRange}
use Rattle.draft.proofs.Scanned.{Split, split, after-signatures, range-there, regroup, past-count}
use Rattle.draft_slot_table.specs.Slots.{Slot, slot_in, slots_from, slots_of, slot_list}
use Rattle.draft_slot_table.specs.code.Scan.{slots_in, scan_from}

range-places : (k n p : ℕ) → slots_in k n p ≡ map (slot_in k) (places p (signatures n []))
unfolding slots_in places signatures signature_width
range-places k zero p = refl
range-places k (suc n) p = ap (λ (l : List Slot). slot_in k p ∷ l) (range-places k n (p + 65))

size-signatures : (n : ℕ) → size (signatures n []) ≡ 65 * n
unfolding size signatures signature_width
size-signatures zero = omega arith
size-signatures (suc n) = omega (arith, size-signatures n)

scan-each : (k : ℕ) (ws : List Want) (l : List (List ℕ)) (s : List ℕ) (q : ℕ) (rest : List ℕ) → (pieces (each ws)).Good l
    → drop q s ≡ (pieces (each ws)).write l ++ rest → scan_from k (length ws) s q ≡ slots_from k q ws
unfolding each pieces scan_from slots_from places size integer
scan-each k [] l s q rest g h = refl
scan-each k (w ∷ ws) l s q rest g h =
    let n : ℕ = w.signatures in
    let t : ℕ = credential_code w.type in
    let r : Split n (each ws) l = split n (each ws) l g.1.1 in
    let y : List ℕ = (pieces (each ws)).write r.others ++ rest in
    let there : drop q s ≡ (integer 4).write t ++ ((integer 4).write n ++ (r.front ++ y)) =
    h ∙ regroup ((integer 4).write t) ((integer 4).write n) ((pieces (signatures n (each ws))).write l) r.front
    ((pieces (each ws)).write r.others) rest r.written in
    let next : q + 4 + 4 + 65 * n ≡ q + size (credential w []) = omega (arith, size-signatures n) in
    ap (λ (u : Option SlotRange). on_range u [] (λ first c m. slots_in k c first ++ scan_from (suc k) (length ws) s m))
    (range-there s q t n r.front y g.0.0 g.1.0.0 r.long r.bytes there)
    ∙ ap₂ (λ (a b : List Slot). a ++ b) (range-places k n (q + 4 + 4))
    (scan-each (suc k) ws r.others s (q + 4 + 4 + 65 * n) rest r.good
    (after-signatures s q t n r.front y g.0.0 g.1.0.0 r.long r.bytes there) ∙ ap (λ (i : ℕ). slots_from (suc k) i ws) next)

module _ {U : Type 0} (body : Format U) (wants : U → List Want) (d : List ℕ) (u : U) (l : List (List ℕ)) (p : Parts body wants d u l) where
  pub scanned-slots : scan_from 0 (length (wants u)) d (length (body.write u) + 4) ≡ slot_list body wants d
  unfolding credentials layout pieces integer
  scanned-slots =
      scan-each 0 (wants u) l d (length (body.write u) + 4) [] p.signatures-good.1 (past-count body wants d u l p)
      ∙ sym (ap (slots_of wants) (read-body body wants d u l p))
