-- The check that fills a caller's table (document 01, "Entries and table"). Assumes nothing.
use Rattle.wire.specs.declared.Refusal.{Refusal}
use Rattle.std.specs.Prelude.{ℕ, List, ◌++◌, length, drop, leb, Ok, Err, Result}
use Rattle.wire.specs.Bytes.{pick}
use Rattle.wire.specs.Numbers.{refusal, number_of, no_room}
use Rattle.wire.specs.Format.{on_result}
use Rattle.transaction.specs.Entries.{EntryAt, rows}
use Rattle.transaction.specs.Family.{check, entries}
use Rattle.transaction.specs.Avm.{avm}

-- an answer, and the table afterwards
pub record Filled : Type 0 where
  pub answer : Result (ℕ × ℕ) Refusal
  pub table : List ℕ

abbrev pub filled : Result (ℕ × ℕ) Refusal → List ℕ → Filled
filled a t = record { answer = a; table = t }

-- if there is room for all rows they stand at the front of the table; else the table does not change
abbrev pub listed : ℕ → List EntryAt → List ℕ → Filled
listed end es t =
    pick (leb (length (rows es)) (length t)) (filled (Ok (length es, end)) (rows es ++ drop (length (rows es)) t))
    (filled (Err (refusal no_room 0)) t)

-- with memos of at most `most` bytes; room is checked after all rules
abbrev pub tabled : ℕ → List ℕ → List ℕ → Filled
tabled most s t = on_result (check (avm most) s) (λ e. filled (Err e) t) (λ v end. listed end (entries (avm most) v) t)

-- the number, the place and the row count that an answer reports: 0, the length in bytes and the rows if all is well; a refusal has no rows
abbrev pub tabled_number : Result (ℕ × ℕ) Refusal → ℕ
tabled_number (Ok (rows, bytes)) = 0
tabled_number (Err e) = number_of e

abbrev pub tabled_place : Result (ℕ × ℕ) Refusal → ℕ
tabled_place (Ok (rows, bytes)) = bytes
tabled_place (Err e) = e.place

abbrev pub tabled_rows : Result (ℕ × ℕ) Refusal → ℕ
tabled_rows (Ok (rows, bytes)) = rows
tabled_rows (Err e) = 0
