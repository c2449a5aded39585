-- Pieces one after the other, from a fresh start. Assumes nothing.
use Rattle.std.specs.Prelude.{Option, None, Some}
use Prim.Native.Nat.{ℕ, ◌≤◌}
use mathlib.Core.Path.{◌≡◌, refl, sym, ap, ap₂, ◌∙◌, subst, subst⁻¹}
use mathlib.Core.List.{List, [], ◌∷◌, ◌++◌, append_assoc, append-nil}
use native.Mathlib.Omega.{arith}
use lib.ListN.{length, drop, length-append, length-drop}
use lib.Seq.{take_at, drop_at, drop-drop}
use Rattle.wire.specs.Bytes.{Bytes}
use Rattle.wire.specs.Fields.{integer, constant}
use Rattle.wire.specs.Parsers.{blob_parse}
use Rattle.wire.specs.declared.Refusal.{Refusal}
use Rattle.transaction.specs.Signed.{most_bytes}
use Rattle.transaction.specs.Signed as AnySigned
use Rattle.transaction.specs.Family.{unsigned, head}
use Rattle.transaction.specs.Answer.{checked}
use Rattle.upload.specs.declared.Upload.{Upload}
use Rattle.upload.specs.Calls.{upload, shown, joined, laid, kept, verdict, grown, piece_call}
use Rattle.upload.proofs.Calling.{verdict-fits, room-there, piece-stands}
use Rattle.upload_theorems.specs.Pieces.{whole, run}
use Rattle.upload.proofs.Showing.{not-both, shown-inv, checked-stable, piece_is, answer-is}

pub bytes-front : (b t : List ℕ) → Bytes (b ++ t) → Bytes b
bytes-front [] t h = tt
bytes-front (x ∷ b) t h = (h.0, bytes-front b t h.1)

module _ (most : ℕ) where
  abbrev pub State : Type 0
  State = Upload × List ℕ

  -- where a refusal stands pieces change nothing
  pub run-stood : (a : State) (e : Refusal) → a.0.standing ≡ Some e → (ps : List (List ℕ)) → run most a ps ≡ a
  unfolding run
  run-stood a e q [] = refl
  run-stood a e q (p ∷ ps) =
      ap (λ (x : State). run most x ps) (sym (piece-stands most a.0 p a.1 e q)) ∙ run-stood a e q ps

  pub run-append : (a : State) (ps qs : List (List ℕ)) → run most a (ps ++ qs) ≡ run most (run most a ps) qs
  unfolding run
  run-append a [] qs = refl
  run-append a (p ∷ ps) qs = run-append (piece_call most a.0 a.1 p) ps qs

  -- ---- the bytes b are stored, over a store that held s

  module _ (s : List ℕ) where
    abbrev pub held : List ℕ → State
    held b = (upload (length b) None, b ++ drop (length b) s)

    length-held : (b : List ℕ) → length b ≤ length s → length (held b).1 ≡ length s
    length-held b h = omega (arith, length-append b (drop (length b) s), length-drop (length b) s)

    module _ (b p : List ℕ) (h : length b ≤ length s) where
      -- a piece joins them
      joined-held : joined (length b) p (held b).1 ≡ b ++ p
      joined-held = ap (λ (x : List ℕ). x ++ p) (take_at b (drop (length b) s) (length b) refl)

      laid-held : laid (length b) p (held b).1 ≡ (held (b ++ p)).1
      unfolding laid
      laid-held =
          ap₂ (λ (x y : List ℕ). x ++ y) joined-held
          (sym (drop-drop (length p) (length b) (held b).1)
          ∙ ap (drop (length p)) (drop_at b (drop (length b) s) (length b) refl)
          ∙ drop-drop (length p) (length b) s
          ∙ ap (λ (n : ℕ). drop n s) (sym (length-append b p)))

      held-answer : length (b ++ p) ≤ length s → (piece_call most (held b).0 (held b).1 p).0.standing ≡ shown (checked most (b ++ p))
      held-answer r =
          answer-is most (held b).0 (held b).1 p refl
          ∙ verdict-fits most (length b) p (held b).1 (omega (arith, length-append b p, length-held b h))
          ∙ ap (λ (x : List ℕ). shown (checked most x)) joined-held

      -- need more: the piece is stored too
      held_more : (piece_call most (held b).0 (held b).1 p).0.standing ≡ None
          → (piece_call most (held b).0 (held b).1 p ≡ held (b ++ p)) × (length (b ++ p) ≤ length s)
      unfolding kept
      held_more q =
          let v : verdict most (length b) p (held b).1 ≡ None = sym (answer-is most (held b).0 (held b).1 p refl) ∙ q in (
            piece_is most (held b).0 (held b).1 p refl
                ∙ ap (λ (x : Option Refusal). (grown x (length b) (length p), (kept x (length b) p (held b).1).1)) v
                ∙ ap₂ (λ (n : ℕ) (x : List ℕ). (upload n None, x)) (sym (length-append b p)) laid-held,
            omega (arith, room-there most (length b) p (held b).1 v, length-append b p, length-held b h),
          )

    -- where no piece was refused all are stored
    pub run_more : (b : List ℕ) (ps : List (List ℕ)) → length b ≤ length s → (run most (held b) ps).0.standing ≡ None
        → (run most (held b) ps ≡ held (b ++ whole ps)) × (length (b ++ whole ps) ≤ length s)
    unfolding run
    run_more b [] h q = (ap held (sym (append-nil b)), omega (arith, ap length (append-nil b)))
    run_more b (p ∷ ps) h q = go (piece_call most (held b).0 (held b).1 p).0.standing refl (run_more (b ++ p) ps)
      where
        go : (x : Option Refusal) → (piece_call most (held b).0 (held b).1 p).0.standing ≡ x
            → (length (b ++ p) ≤ length s → (run most (held (b ++ p)) ps).0.standing ≡ None
            → (run most (held (b ++ p)) ps ≡ held ((b ++ p) ++ whole ps)) × (length ((b ++ p) ++ whole ps) ≤ length s))
            → (run most (piece_call most (held b).0 (held b).1 p) ps ≡ held (b ++ (p ++ whole ps))) × (length (b ++ (p ++ whole ps)) ≤ length s)
        go (Some e) i more =
            not-both (run most (piece_call most (held b).0 (held b).1 p) ps).0.standing e q
            (ap (λ (z : State). z.0.standing) (run-stood (piece_call most (held b).0 (held b).1 p) e i ps) ∙ i)
        go None i more =
            let (same, fits) = held_more b p h i in
            let (r, l) = more fits (sym (ap (λ (z : State). (run most z ps).0.standing) same) ∙ q) in (
              ap (λ (z : State). run most z ps) same ∙ r ∙ ap held (append_assoc b p (whole ps)),
              subst (λ (z : List ℕ). length z ≤ length s) (append_assoc b p (whole ps)) l,
            )

    -- the answer is that of the check of all of them
    pub run-answer : (b : List ℕ) (ps : List (List ℕ)) → Bytes (b ++ whole ps) → length (b ++ whole ps) ≤ most_bytes → length (b ++ whole ps) ≤ length s
        → shown (checked most b) ≡ None
        → (run most (held b) ps).0.standing ≡ shown (checked most (b ++ whole ps))
    unfolding run
    run-answer b [] bs l h q = sym q ∙ ap (λ (z : List ℕ). shown (checked most z)) (sym (append-nil b))
    run-answer b (p ∷ ps) bs l h q =
        go (shown (checked most (b ++ p))) refl (run-answer (b ++ p) ps)
      where
        again : (b ++ p) ++ whole ps ≡ b ++ (p ++ whole ps)
        again = append_assoc b p (whole ps)

        small : length (b ++ p) ≤ length s
        small = omega (arith, h, length-append b p, length-append b (p ++ whole ps), length-append p (whole ps))

        start : length b ≤ length s
        start = omega (arith, small, length-append b p)

        go : (x : Option Refusal) → shown (checked most (b ++ p)) ≡ x
            → (Bytes ((b ++ p) ++ whole ps) → length ((b ++ p) ++ whole ps) ≤ most_bytes → length ((b ++ p) ++ whole ps) ≤ length s
            → shown (checked most (b ++ p)) ≡ None
            → (run most (held (b ++ p)) ps).0.standing ≡ shown (checked most ((b ++ p) ++ whole ps)))
            → (run most (piece_call most (held b).0 (held b).1 p) ps).0.standing ≡ shown (checked most (b ++ (p ++ whole ps)))
        go None i more =
            ap (λ (z : State). (run most z ps).0.standing) (held_more b p start (held-answer b p start small ∙ i)).0
            ∙ more (subst⁻¹ Bytes again bs) (subst⁻¹ (λ (z : List ℕ). length z ≤ most_bytes) again l)
            (subst⁻¹ (λ (z : List ℕ). length z ≤ length s) again h) i
            ∙ ap (λ (z : List ℕ). shown (checked most z)) again
        go (Some e) i more =
            let stands = held-answer b p start small ∙ i in
            let (refusing, ne) = shown-inv (checked most (b ++ p)) e i in
            let stays = checked-stable most (b ++ p) (whole ps) e (bytes-front (b ++ p) (whole ps) (subst⁻¹ Bytes again bs)) ne
            (subst⁻¹ (λ (z : List ℕ). length z ≤ most_bytes) again l) refusing in
            ap (λ (z : State). z.0.standing) (run-stood (piece_call most (held b).0 (held b).1 p) e stands ps) ∙ stands
            ∙ sym i ∙ ap shown (refusing ∙ sym stays) ∙ ap (λ (z : List ℕ). shown (checked most z)) again

-- ---- no byte at all is cut short

pub empty-more : (most : ℕ) → shown (checked most []) ≡ None
unfolding shown AnySigned.check unsigned head constant integer blob_parse
empty-more most = refl
