-- THE THEOREM: however bytes are cut into pieces, the upload is answered as the whole. For every limit of the memo. Assumes nothing.
use Rattle.std.specs.Prelude.{Err, Option, None, Some}
use Prim.Native.Nat.{ℕ, ◌<◌}
use mathlib.Core.Path.{◌≡◌, refl, sym, ap, ◌∙◌}
use mathlib.Core.List.{List, [], ◌∷◌, ◌++◌, append-nil}
use native.Mathlib.Omega.{arith}
use lib.ListN.{length, drop, length-append}
use lib.Seq.{take_at}
use Rattle.wire.specs.declared.Refusal.{Refusal}
use Rattle.wire.specs.Numbers.{refusal, too_long, no_room}
use Rattle.transaction.specs.Signed.{most_bytes}
use Rattle.transaction.specs.Answer.{checked}
use Rattle.upload.specs.declared.Upload.{Upload}
use Rattle.upload.specs.Calls.{fresh, shown, end_call}
use Rattle.upload.proofs.Calling.{checked-long, end-stands, end-checked}
use Rattle.upload_theorems.specs.Pieces.{whole, run, after, answer, ended, Fits, CutFreely}
use Rattle.upload.proofs.Showing.{shown-inv}
use Rattle.upload_theorems.proofs.Answering.{upload-owes}
use Rattle.upload_theorems.proofs.Running.{held, run-stood, run-append, run_more, run-answer, empty-more}

module _ (most : ℕ) where
  -- the end of an upload whose bytes are all stored
  ended-more : (s : List ℕ) (ps : List (List ℕ)) → answer most s ps ≡ None → ended most s ps ≡ checked most (whole ps)
  ended-more s ps q =
      let (same, fits) = run_more most s [] ps (omega arith) q in
      let w : List ℕ = whole ps in
      let t : List ℕ = w ++ drop (length w) s in
      ap (λ (a : Upload × List ℕ). end_call most a.0 a.1) same
      ∙ sym (end-checked most (held most s w).0 t refl (omega (arith, length-append w (drop (length w) s))) (checked most w)
      (ap (checked most) (sym (take_at w (drop (length w) s) (length w) refl))))

  end_refused : (s : List ℕ) (ps : List (List ℕ)) (e : Refusal) → answer most s ps ≡ Some e → ended most s ps ≡ Err e
  end_refused s ps e q = sym (end-stands most (after most s ps).0 (after most s ps).1 e q)

  piece-answer : (s : List ℕ) (ps : List (List ℕ)) → Fits s ps → answer most s ps ≡ shown (checked most (whole ps))
  piece-answer s ps f = run-answer most s [] ps f.bytes f.short f.room (empty-more most)

  own-refusal : (s : List ℕ) (ps : List (List ℕ)) (e : Refusal) → Fits s ps → answer most s ps ≡ Some e → checked most (whole ps) ≡ Err e
  own-refusal s ps e f q = (shown-inv (checked most (whole ps)) e (sym (piece-answer s ps f) ∙ q)).0

  end-answer : (s : List ℕ) (ps : List (List ℕ)) → Fits s ps → ended most s ps ≡ checked most (whole ps)
  end-answer s ps f = go (answer most s ps) refl
    where
      go : (x : Option Refusal) → answer most s ps ≡ x → ended most s ps ≡ checked most (whole ps)
      go None q = ended-more s ps q
      go (Some e) q = end_refused s ps e q ∙ sym (own-refusal s ps e f q)

  refused_long : (s : List ℕ) (ps : List (List ℕ)) → most_bytes < length (whole ps) → (e : Refusal) × (ended most s ps ≡ Err e)
  refused_long s ps h = go (answer most s ps) refl
    where
      go : (x : Option Refusal) → answer most s ps ≡ x → (e : Refusal) × (ended most s ps ≡ Err e)
      go None q = (refusal too_long 0, ended-more s ps q ∙ checked-long most (whole ps) h)
      go (Some e) q = (e, end_refused s ps e q)

  -- ---- one piece

  -- over a store of its length it is answered as the check shows it, and the end as the check
  pub answer-one : (p : List ℕ) → answer most p (p ∷ []) ≡ shown (checked most p)
  unfolding run
  answer-one p = (upload-owes most).piece-decides.answered 0 p p (omega arith)

  pub ended-one : (p : List ℕ) → ended most p (p ∷ []) ≡ checked most p
  ended-one p = go (shown (checked most p)) refl
    where
      go : (x : Option Refusal) → shown (checked most p) ≡ x → ended most p (p ∷ []) ≡ checked most p
      go None q = ended-more p (p ∷ []) (answer-one p ∙ q) ∙ ap (checked most) (append-nil p)
      go (Some e) q = end_refused p (p ∷ []) e (answer-one p ∙ q) ∙ sym (shown-inv (checked most p) e q).0

  -- a byte does not fit an empty store
  pub answer-full : answer most [] ((0 ∷ []) ∷ []) ≡ Some (refusal no_room 0)
  unfolding run
  answer-full = ap (λ (a : Upload × List ℕ). a.0.standing) ((upload-owes most).piece-decides.no_room 0 [] (0 ∷ []) (omega arith))

  pub ended-full : ended most [] ((0 ∷ []) ∷ []) ≡ Err (refusal no_room 0)
  ended-full = end_refused [] ((0 ∷ []) ∷ []) (refusal no_room 0) answer-full

  pub cut-freely : CutFreely most
  cut-freely =
      record {
        end-answer = end-answer;
        piece-answer = piece-answer;
        stored = λ s ps q. (run_more most s [] ps (omega arith) q).0;
        stays = λ s ps qs e q. run-append most (fresh, s) ps qs ∙ run-stood most (after most s ps) e q qs;
        end_refused = end_refused;
        own-refusal = own-refusal;
        too_long = refused_long;
      }
