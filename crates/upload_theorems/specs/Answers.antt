-- Demand 1 of document 00, for an upload: whatever the state, the store and the piece, the answer has a number of the table, a refusal changes no
-- byte of the store and of the state only what stands, and each answer has its condition. Assumes nothing.
use Rattle.std.specs.Prelude.{◌≡◌, List, [], ◌∷◌, ℕ, ◌+◌, ◌≤◌, ◌<◌, length, take, drop, Err, None, Some}
use Rattle.wire.specs.declared.Refusal.{Refusal}
use Rattle.wire.specs.Numbers.{refusal, number_of, no_room}
use Rattle.wire.specs.Orders.{OneOf}
use Rattle.transaction.specs.Answer.{checked, checked_number}
use Rattle.upload.specs.declared.Upload.{Upload}
use Rattle.upload.specs.Calls.{upload, standing_number, shown, joined, piece_call, end_call}

-- the numbers of the table that a piece is answered: 2 is need more, 14 no room
abbrev pub piece_numbers : List ℕ
piece_numbers = 1 ∷ 2 ∷ 3 ∷ 4 ∷ 5 ∷ 6 ∷ 7 ∷ 8 ∷ 9 ∷ 10 ∷ 11 ∷ 12 ∷ 13 ∷ 14 ∷ []

-- and those of the end
abbrev pub end_numbers : List ℕ
end_numbers = 0 ∷ piece_numbers

-- what stands has a number of the list: so it is at a fresh start, and after each piece from there
abbrev pub Usual : Upload → Type 0
Usual u = OneOf (standing_number u.standing) piece_numbers

-- what a piece p guarantees, by the upload u and the store s before it, and the upload and the store afterwards
pub record PieceOwes (u : Upload) (s p : List ℕ) (a : Upload × List ℕ) : Type 0 where
  -- the answer is what stands afterwards: a number of the list, except where another number stood before
  pub number : Usual u → Usual a.0
  pub table : (1 ≤ standing_number a.0.standing) × (standing_number a.0.standing ≤ 21)
  -- a refusal changes no byte of the store, and of the state only what stands
  pub refused : (e : Refusal) → a.0.standing ≡ Some e → (a.1 ≡ s) × (a.0.stored ≡ u.stored)
  -- need more: the piece is behind what was there, and no other byte has changed
  pub more : a.0.standing ≡ None
      → (a.0.stored ≡ u.stored + length p) × (take (u.stored + length p) a.1 ≡ joined u.stored p s)
      × (drop (u.stored + length p) a.1 ≡ drop (u.stored + length p) s)
  -- a refusal that stood stays, and nothing changes
  pub stood : (e : Refusal) → u.standing ≡ Some e → a ≡ (u, s)
  pub length-kept : length a.1 ≡ length s

-- the condition of each answer, in the order of the tests
pub record PieceDecides (most : ℕ) : Type 0 where
  -- "A piece that doesn't fit the store is 14, judged first where no refusal stands"
  pub no_room : (n : ℕ) (s p : List ℕ) → length s < n + length p
      → piece_call most (upload n None) s p ≡ (upload n (Some (refusal no_room 0)), s)
  -- "Otherwise the answer after it is that of the whole check of the bytes joined so far, with 0 and 2 shown as 2 (need more), place 0"
  pub answered : (n : ℕ) (s p : List ℕ) → n + length p ≤ length s
      → (piece_call most (upload n None) s p).0.standing ≡ shown (checked most (joined n p s))
  pub accepted : (s : List ℕ) → checked_number (checked most s) ≡ 0 → shown (checked most s) ≡ None
  pub cut_short : (s : List ℕ) → checked_number (checked most s) ≡ 2 → shown (checked most s) ≡ None
  pub refused : (s : List ℕ) (e : Refusal) → checked most s ≡ Err e → (number_of e ≡ 2 → ⊥) → shown (checked most s) ≡ Some e

pub record EndDecides (most : ℕ) : Type 0 where
  -- "An end call answers as that check itself"
  pub answered : (n : ℕ) (s : List ℕ) → n ≤ length s → end_call most (upload n None) s ≡ checked most (take n s)
  pub stood : (n : ℕ) (s : List ℕ) (e : Refusal) → end_call most (upload n (Some e)) s ≡ Err e
  -- a state that no call leaves
  pub beyond : (n : ℕ) (s : List ℕ) → length s < n → end_call most (upload n None) s ≡ Err (refusal no_room 0)

pub record UploadOwes (most : ℕ) : Type 0 where
  pub piece : (u : Upload) (s p : List ℕ) → PieceOwes u s p (piece_call most u s p)
  pub end-number : (u : Upload) (s : List ℕ) → Usual u → OneOf (checked_number (end_call most u s)) end_numbers
  pub end-table : (u : Upload) (s : List ℕ) → checked_number (end_call most u s) ≤ 21
  pub piece-decides : PieceDecides most
  pub end-decides : EndDecides most
