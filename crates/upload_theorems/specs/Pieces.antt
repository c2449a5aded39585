-- Bytes that are uploaded in pieces, however they are cut (document 02, T-01). Assumes nothing.
use Rattle.transaction.specs.declared.Layout.{Layout}
use Rattle.std.specs.Prelude.{◌≡◌, List, [], ◌∷◌, ◌++◌, ℕ, ◌≤◌, ◌<◌, length, drop, Err, Result, Option, None, Some}
use Rattle.wire.specs.Bytes.{Bytes}
use Rattle.wire.specs.declared.Refusal.{Refusal}
use Rattle.transaction.specs.Signed.{most_bytes}
use Rattle.transaction.specs.Answer.{checked}
use Rattle.upload.specs.declared.Upload.{Upload}
use Rattle.upload.specs.Calls.{upload, fresh, shown, piece_call, end_call}

-- the bytes that are cut: the pieces, one after the other. A piece may have length 0
abbrev pub whole : List (List ℕ) → List ℕ
whole [] = []
whole (p ∷ ps) = p ++ whole ps

-- the upload and the store after the pieces ps, each call given the state and the store that the last one left
unfoldable pub run : ℕ → Upload × List ℕ → List (List ℕ) → Upload × List ℕ
unfolding piece_call
run most a [] = a
run most a (p ∷ ps) = run most (piece_call most a.0 a.1 p) ps

-- from a fresh start, with what the store held before
abbrev pub after : ℕ → List ℕ → List (List ℕ) → Upload × List ℕ
after most s ps = run most (fresh, s) ps

-- what the last of these pieces was answered; with no piece, need more
abbrev pub answer : ℕ → List ℕ → List (List ℕ) → Option Refusal
answer most s ps = (after most s ps).0.standing

abbrev pub ended : ℕ → List ℕ → List (List ℕ) → Result (Layout × ℕ) Refusal
ended most s ps = end_call most (after most s ps).0 (after most s ps).1

-- bytes of at most 65,536 that fit the store
pub record Fits (s : List ℕ) (ps : List (List ℕ)) : Type 0 where
  pub bytes : Bytes (whole ps)
  pub short : length (whole ps) ≤ most_bytes
  pub room : length (whole ps) ≤ length s

pub record CutFreely (most : ℕ) : Type 0 where
  -- "the end answer is the same however they were cut": it is that of the check of the whole
  pub end-answer : (s : List ℕ) (ps : List (List ℕ)) → Fits s ps → ended most s ps ≡ checked most (whole ps)
  -- and the last piece's answer is that check's, with 0 and 2 shown as need more
  pub piece-answer : (s : List ℕ) (ps : List (List ℕ)) → Fits s ps → answer most s ps ≡ shown (checked most (whole ps))
  -- "and so are the stored bytes where no piece was refused": the whole is at the front, and nothing after it has changed; whatever fits
  pub stored : (s : List ℕ) (ps : List (List ℕ)) → answer most s ps ≡ None
      → after most s ps ≡ (upload (length (whole ps)) None, whole ps ++ drop (length (whole ps)) s)
  -- "after one, pieces and the end call get the same answer until a fresh start": neither state nor store changes any more
  pub stays : (s : List ℕ) (ps qs : List (List ℕ)) (e : Refusal) → answer most s ps ≡ Some e → after most s (ps ++ qs) ≡ after most s ps
  pub end_refused : (s : List ℕ) (ps : List (List ℕ)) (e : Refusal) → answer most s ps ≡ Some e → ended most s ps ≡ Err e
  -- and it is the whole's own refusal
  pub own-refusal : (s : List ℕ) (ps : List (List ℕ)) (e : Refusal) → Fits s ps → answer most s ps ≡ Some e → checked most (whole ps) ≡ Err e
  -- "Longer bytes are always refused", whatever the store
  pub too_long : (s : List ℕ) (ps : List (List ℕ)) → most_bytes < length (whole ps) → (e : Refusal) × (ended most s ps ≡ Err e)
