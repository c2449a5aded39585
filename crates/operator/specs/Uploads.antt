-- An upload's state as two integers of 64 bits, and the answers of its calls packed into one. Assumes nothing.
use Rattle.transaction.specs.declared.Layout.{Layout}
use Rattle.std.specs.Prelude.{ℕ, ◌+◌, ◌*◌, ◌/◌, ◌%◌, ◌≤◌, ◌≡◌, List, [], ◌∷◌, eqb, get_or, Result, Option, None, Some}
use Rattle.wire.specs.Bytes.{Bytes, pick}
use Rattle.wire.specs.declared.Rule.{Rule}
use Rattle.wire.specs.declared.Rule.TheVariants as R
use Rattle.wire.specs.declared.Refusal.{Refusal}
use Rattle.wire.specs.Numbers.{refusal, number_of}
use Rattle.transaction.specs.Answer.{memo_most, checked_number, checked_place}
use Rattle.upload.specs.declared.Upload.{Upload}
use Rattle.upload.specs.Calls.{upload, standing_number, standing_place, piece_call, end_call}
use Rattle.upload.specs.Calls as Calls
use Rattle.draft.specs.Packing.{TakenApart}

-- ---- the state

-- the rule of a refusal that stands: 1 and 3 to 13 are the check's. A number that no call leaves is read as 14
unfoldable pub rule_at : ℕ → Rule
rule_at n =
    pick (eqb n 1) R.TooLong
    (pick (eqb n 3) R.WrongCodec
    (pick (eqb n 4) R.UnknownType
    (pick (eqb n 5) R.ZeroAmount
    (pick (eqb n 6) R.OutOfOrder
    (pick (eqb n 7) R.BadThreshold
    (pick (eqb n 8) R.BadLength
    (pick (eqb n 9) R.NotPrintable
    (pick (eqb n 10) R.BadDenomination (pick (eqb n 11) R.EmptyList (pick (eqb n 12) R.WrongCount (pick (eqb n 13) R.BytesAfterEnd R.NoRoom)))))))))))

-- 0 bytes stored, 1 the refusal that stands as number × 2^32 + place; number 0 is none
unfoldable pub upload_of : List ℕ → Upload
unfolding rule_at
upload_of n =
    let number = get_or n 1 0 / 4294967296 in
    upload (get_or n 0 0) (pick (eqb number 0) None (Some (refusal (rule_at number) (get_or n 1 0 % 4294967296))))

unfoldable pub refusal_word : Refusal → ℕ
refusal_word e = number_of e * 4294967296 + e.place % 4294967296

unfoldable pub standing_word : Option Refusal → ℕ
unfolding refusal_word
standing_word None = 0
standing_word (Some e) = refusal_word e

abbrev pub numbers_of : Upload → List ℕ
numbers_of u = u.stored ∷ standing_word u.standing ∷ []

-- ---- the answers: number × 2^32 + place

unfoldable pub piece_word : Option Refusal → ℕ
piece_word x = standing_number x * 4294967296 + standing_place x % 4294967296

unfoldable pub end_word : Result (Layout × ℕ) Refusal → ℕ
end_word x = checked_number x * 4294967296 + checked_place x % 4294967296

-- the answer of a piece, the state and the store afterwards
pub record Sent : Type 0 where
  pub answer : ℕ
  pub state : List ℕ
  pub store : List ℕ

abbrev pub sent : ℕ → List ℕ → List ℕ → Sent
sent a n s = record { answer = a; state = n; store = s }

abbrev pub sent_piece : Upload × List ℕ → Sent
sent_piece (u, s) = sent (piece_word u.standing) (numbers_of u) s

-- ---- nothing is cut: from each answer the caller gets back the number and the place, and each state that a call leaves is read as it was
pub record UploadWords : Type 0 where
  pub fresh : upload_of (0 ∷ 0 ∷ []) ≡ Calls.fresh
  pub state : (n s p : List ℕ) → Bytes s → Bytes p → let u = (piece_call memo_most (upload_of n) s p).0 in upload_of (numbers_of u) ≡ u
  pub piece : (n s p : List ℕ) → Bytes s → Bytes p → let x = (piece_call memo_most (upload_of n) s p).0.standing in
      TakenApart (piece_word x) (standing_number x) (standing_place x)
  pub end : (n s : List ℕ) → Bytes s → let x = end_call memo_most (upload_of n) s in TakenApart (end_word x) (checked_number x) (checked_place x)
  -- whatever the two integers, what stands has a number of 1 to 14
  pub number : (n : List ℕ) → let k = standing_number (upload_of n).standing in (1 ≤ k) × (k ≤ 14)
