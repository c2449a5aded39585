-- One call of an upload: the state and every byte of the lent store afterwards (document 02, T-01). For memos of at most `most` bytes.
-- Assumes nothing.
use Rattle.transaction.specs.declared.Layout.{Layout}
use Rattle.std.specs.Prelude.{List, ◌++◌, ℕ, ◌+◌, leb, eqb, length, take, drop, Ok, Err, Result, Option, None, Some}
use Rattle.wire.specs.Bytes.{pick}
use Rattle.wire.specs.declared.Refusal.{Refusal}
use Rattle.wire.specs.Numbers.{refusal, number_of, no_room}
use Rattle.transaction.specs.Answer.{checked}
use Rattle.upload.specs.declared.Upload.{Upload}

abbrev pub upload : ℕ → Option Refusal → Upload
upload n x = record { stored = n; standing = x }

abbrev pub fresh : Upload
fresh = upload 0 None

-- a refusal that stands decides alone
abbrev pub on_standing : {R : Type 0} → Option Refusal → R → (Refusal → R) → R
on_standing None a f = a
on_standing (Some e) a f = f e

-- the number and the place that a piece is answered: need more is 2 at place 0
abbrev pub standing_number : Option Refusal → ℕ
standing_number None = 2
standing_number (Some e) = number_of e

abbrev pub standing_place : Option Refusal → ℕ
standing_place None = 0
standing_place (Some e) = e.place

-- the check's answer as a piece shows it: 0 and 2 are need more
unfoldable pub shown : Result (Layout × ℕ) Refusal → Option Refusal
shown (Ok (layout, bytes)) = None
shown (Err e) = pick (eqb (number_of e) 2) None (Some e)

-- ---- a piece

-- the first n bytes of the store s and the piece p, one after the other
abbrev pub joined : ℕ → List ℕ → List ℕ → List ℕ
joined n p s = take n s ++ p

-- the store s with p behind its first n bytes, in the place of as many bytes
unfoldable pub laid : ℕ → List ℕ → List ℕ → List ℕ
laid n p s = joined n p s ++ drop (n + length p) s

-- the answer of a piece that fits, and the store then
unfoldable pub kept : Option Refusal → ℕ → List ℕ → List ℕ → Option Refusal × List ℕ
unfolding laid
kept None n p s = (None, laid n p s)
kept (Some e) n p s = (Some e, s)

unfoldable pub judged : ℕ → ℕ → List ℕ → List ℕ → Option Refusal × List ℕ
unfolding kept shown
judged most n p s = kept (shown (checked most (joined n p s))) n p s

-- the tests in their order: room in the store, then the whole check of the bytes joined
unfoldable pub verdict : ℕ → ℕ → List ℕ → List ℕ → Option Refusal
unfolding shown
verdict most n p s = pick (leb (n + length p) (length s)) (shown (checked most (joined n p s))) (Some (refusal no_room 0))

-- the upload after a piece of k bytes that is answered x
abbrev pub grown : Option Refusal → ℕ → ℕ → Upload
grown None n k = upload (n + k) None
grown (Some e) n k = upload n (Some e)

-- the upload u and the store s after the piece p; where a refusal stands, as before
unfoldable pub piece_call : ℕ → Upload → List ℕ → List ℕ → Upload × List ℕ
unfolding verdict kept
piece_call most u s p =
    on_standing u.standing
    (let x = verdict most u.stored p s in (grown x u.stored (length p), (kept x u.stored p s).1))
    (λ e. (u, s))

-- ---- the end

-- the answer of the check of the bytes stored; where a refusal stands, that refusal. Stored bytes beyond the store are 14
unfoldable pub end_call : ℕ → Upload → List ℕ → Result (Layout × ℕ) Refusal
end_call most u s =
    on_standing u.standing
    (pick (leb u.stored (length s)) (checked most (take u.stored s)) (Err (refusal no_room 0)))
    Err
