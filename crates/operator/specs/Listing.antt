-- The answer of a call with a lent table, packed into one integer of 64 bits and unpacked again, and the table afterwards. Assumes nothing.
use Rattle.wire.specs.declared.Refusal.{Refusal}
use Rattle.std.specs.Prelude.{ℕ, ◌+◌, ◌*◌, ◌%◌, List, eqb, Result}
use Rattle.wire.specs.Bytes.{Bytes, pick}
use Rattle.transaction.specs.Answer.{memo_most}
use Rattle.entry_table.specs.Table.{Filled, tabled, tabled_number, tabled_place, tabled_rows}
use Rattle.draft_slot_table.specs.Table.{tabled_slots}
use Rattle.draft.specs.Packing.{TakenApart}

pub record Listing : Type 0 where
  pub answer : ℕ
  pub table : List ℕ

abbrev pub listing : ℕ → List ℕ → Listing
listing a t = record { answer = a; table = t }

-- how many rows were written if the number is 0, else the place
abbrev pub reported : Result (ℕ × ℕ) Refusal → ℕ
reported a = pick (eqb (tabled_number a) 0) (tabled_rows a) (tabled_place a)

-- number × 2^32 + rows or place. These are below 2^32 (`Unlisted`), so nothing is cut
unfoldable pub packed : Result (ℕ × ℕ) Refusal → ℕ
packed a = tabled_number a * 4294967296 + reported a % 4294967296

abbrev pub listed : Filled → Listing
listed f = listing (packed f.answer) f.table

-- from each answer the caller gets back the number, and the rows or the place
pub record Unlisted : Type 0 where
  pub rows : (s t : List ℕ) → Bytes s → let a = (tabled memo_most s t).answer in TakenApart (packed a) (tabled_number a) (reported a)
  pub slots : (s t : List ℕ) → Bytes s → let a = (tabled_slots memo_most s t).answer in TakenApart (packed a) (tabled_number a) (reported a)
