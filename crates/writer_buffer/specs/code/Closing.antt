-- The blank credentials as the code writes them, and the room that they need. Assumes nothing.
use Rattle.wire.specs.declared.Refusal.{Refusal}
use Rattle.std.specs.Prelude.{◌≡◌, ℕ, ◌+◌, ◌*◌, ◌≤◌, List, ◌++◌, length, replicate, leb, ltb, Ok, Err, Result}
use Rattle.wire.specs.Bytes.{digits, pick}
use Rattle.wire.specs.Numbers.{refusal, no_room}
use Rattle.transaction.specs.Slots.{signature_width}
use Rattle.transaction.specs.Signed.{most_bytes}
use Rattle.transaction.specs.declared.Layout.{Layout}
use Rattle.transaction.specs.Credentials.{Want, each, pieces, layout, credentials, blanks}
use Rattle.credentials.specs.declared.Wanting.{Wanting}
use Rattle.credentials.specs.code.Wanted.{Wants, first_wanting}
use Rattle.writer_buffer.specs.Stores.{room_for}
use Rattle.writer_buffer.specs.code.Stores.{written}

-- a credential of type t with n blank signatures, and its width
unfoldable pub blank_credential : ℕ → ℕ → List ℕ
blank_credential t n = digits 4 t ++ (digits 4 n ++ replicate (signature_width * n) 0)

abbrev pub credential_width : ℕ → ℕ
credential_width n = 8 + signature_width * n

-- the blank credentials that are wanted, without and with their count
unfoldable pub blank_bytes : List Want → List ℕ
blank_bytes ws = (pieces (each ws)).write (blanks (each ws))

abbrev pub closing_bytes : List Want → List ℕ
closing_bytes ws = (credentials ws).write (blanks (layout ws))

-- the offset just past n bytes from `at` on, which must end by `limit`
unfoldable pub fitted : ℕ → ℕ → ℕ → Result ℕ Refusal
fitted at n limit = pick (leb (at + n) limit) (Ok (at + n)) (Err (refusal no_room 0))

-- the most bytes that a transaction may have in a buffer of n bytes
abbrev pub most_in : ℕ → ℕ
most_in n = pick (ltb n most_bytes) n most_bytes

-- the answer to writing the credentials that are wanted, which only a lack of room refuses, and the buffer afterwards
abbrev pub closed : List ℕ → ℕ → List Want → Result ℕ Refusal × List ℕ
closed s at ws = written (room_for (at + length (closing_bytes ws)) s) s at (closing_bytes ws)

-- ---- the `count` credentials that are wanted after a cursor, in a transaction of the given type

module _ (type_id : ℕ) (s : List ℕ) (c : Wanting) (count : ℕ) where
  pub record Ahead : Type 0 where
    pub most : ℕ
    pub all : List Want
    pub wants : Wants most s type_id c all
    pub counts : length all ≡ count

  -- P holds of what is wanted
  abbrev pub OfAhead : (List Want → Type 0) → Type 0
  OfAhead P = (most : ℕ) (ws : List Want) → Wants most s type_id c ws → length ws ≡ count → P ws

  -- the blank credentials have room from `at` on in a buffer of k bytes, and the elements that want them end by `at`
  pub record Room (end at k : ℕ) : Type 0 where
    pub ahead : Ahead
    pub after : end ≤ at
    pub fits : at + length (blank_bytes ahead.all) ≤ k
    pub short : at + length (blank_bytes ahead.all) ≤ most_bytes

-- all credentials that a layout wants
module _ (l : Layout) (s : List ℕ) where
  abbrev pub AllAhead : Type 0
  AllAhead = Ahead l.type_id s (first_wanting l) l.credentials_count

  abbrev pub OfAll : (List Want → Type 0) → Type 0
  OfAll = OfAhead l.type_id s (first_wanting l) l.credentials_count

  -- they follow their count, which follows the unsigned part
  abbrev pub RoomForAll : ℕ → ℕ → Type 0
  RoomForAll at k = Room l.type_id s (first_wanting l) l.credentials_count at (at + 4) k
