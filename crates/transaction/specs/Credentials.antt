-- The list of credentials as a format, for any credentials wanted; and where its signatures stand. Once the credentials wanted are known, so is the
-- value of every field of the list except the signatures. So the list is a flat sequence of pieces, and its value is the list of signatures, in the
-- order of the slots. Assumes nothing.
use Rattle.std.specs.Prelude.{◌≡◌, refl, List, [], ◌∷◌, ℕ, zero, suc, ◌+◌, length}
use Rattle.wire.specs.Numbers.{ReadingRule, unknown_type, wrong_count}
use Rattle.wire.specs.Format.{Format}
use Rattle.wire.specs.Fields.{blob, constant}
use Rattle.wire.specs.Sequence.{and_then, «as», named, only}
use Rattle.transaction.specs.Slots.{signature_width, blank}

pub data CredentialType : Type 0 where
  secp_credential nft_credential : CredentialType

abbrev pub credential_code : CredentialType → ℕ
credential_code secp_credential = 9
credential_code nft_credential = 14

-- a credential that an element asks for: its type and its number of signatures
pub record Want : Type 0 where
  pub type : CredentialType
  pub signatures : ℕ

-- a field of the list: a 32-bit integer that must be v, else refused by rule x (`due x v`); or a signature
pub data Piece : Type 0 where
  due : ReadingRule → ℕ → Piece
  signature : Piece

-- n signatures, then ps
unfoldable pub signatures : ℕ → List Piece → List Piece
signatures zero ps = ps
signatures (suc n) ps = signature ∷ signatures n ps

-- a credential of type t with n signatures, then ps: its type, its count, its signatures
abbrev pub credential_pieces : ℕ → ℕ → List Piece → List Piece
credential_pieces t n ps = due unknown_type t ∷ due wrong_count n ∷ signatures n ps

abbrev pub credential : Want → List Piece → List Piece
credential w ps = credential_pieces (credential_code w.type) w.signatures ps

unfoldable pub each : List Want → List Piece
unfolding signatures
each [] = []
each (w ∷ ws) = credential w (each ws)

-- the whole list: the number of credentials, then the credentials
unfoldable pub layout : List Want → List Piece
unfolding each
layout ws = due wrong_count (length ws) ∷ each ws

-- ---- the format

abbrev pub first : List (List ℕ) → List ℕ
first [] = []
first (b ∷ l) = b

abbrev pub rest : List (List ℕ) → List (List ℕ)
rest [] = []
rest (b ∷ l) = l

-- a byte string, then a list of byte strings
module _ (F : Format (List ℕ)) (G : Format (List (List ℕ))) where
  abbrev pub Front : List (List ℕ) → Type 0
  Front [] = ⊥
  Front (b ∷ l) = F.Good b × G.Good l

  pub front-good : (l : List (List ℕ)) → Front l → F.Good (first l) × G.Good (rest l)
  front-good [] h = absurd h
  front-good (b ∷ l) h = h

  pub front_same : (l : List (List ℕ)) → Front l → first l ∷ rest l ≡ l
  front_same [] h = absurd h
  front_same (b ∷ l) h = refl

  unfoldable pub cons : Format (List (List ℕ))
  unfolding «as» and_then
  cons =
      «as» (and_then F (λ b. G)) Front
      record {
        to = λ v. v.0 ∷ v.1;
        from = λ l. (first l, rest l);
        fit = λ v h. h;
        has = front-good;
        from-to = λ v h. refl;
        to-from = front_same;
      }

unfoldable pub pieces : List Piece → Format (List (List ℕ))
unfolding only named and_then constant cons blob
pieces [] = only []
pieces (due x v ∷ ps) = named (and_then (constant 4 v x) (λ u. pieces ps)) (λ w. w.1) (λ l. (tt, l)) (λ w h. refl) (λ l. refl)
pieces (signature ∷ ps) = cons (blob signature_width) (pieces ps)

unfoldable pub credentials : List Want → Format (List (List ℕ))
unfolding pieces layout
credentials ws = pieces (layout ws)

-- ---- the offsets of the signatures, in pieces that start at p

unfoldable pub places : ℕ → List Piece → List ℕ
places p [] = []
places p (due x v ∷ ps) = places (p + 4) ps
places p (signature ∷ ps) = p ∷ places (p + signature_width) ps

unfoldable pub size : List Piece → ℕ
size [] = 0
size (due x v ∷ ps) = 4 + size ps
size (signature ∷ ps) = signature_width + size ps

-- ---- the blank value, in which every signature is empty

unfoldable pub blanks : List Piece → List (List ℕ)
blanks [] = []
blanks (due x v ∷ ps) = blanks ps
blanks (signature ∷ ps) = blank ∷ blanks ps

-- the number of signatures wanted
unfoldable pub total : List Want → ℕ
total [] = 0
total (w ∷ ws) = w.signatures + total ws
