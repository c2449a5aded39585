-- The answer of the check with a lent table as one integer of 64 bits, and the table afterwards. Assumes nothing.
use Rattle.wire.specs.declared.Refusal.{Refusal}
use Rattle.std.specs.Prelude.{ℕ, ◌+◌, ◌*◌, ◌%◌, List, [], ◌∷◌, Result}
use Rattle.entry_table.specs.Table.{Filled, tabled_number, tabled_place, tabled_rows}
use Rattle.draft.specs.Calls.{answer_number, answer_place}

pub record ExportedTable : Type 0 where
  pub answer : ℕ
  pub table : List ℕ

abbrev pub exported_table : ℕ → List ℕ → ExportedTable
exported_table a t = record { answer = a; table = t }

-- number × 2^40 + rows × 2^20 + place
abbrev pub packed : Result (ℕ × ℕ) Refusal → ℕ
packed a = tabled_number a % 1048576 * 1099511627776 + (tabled_rows a % 1048576 * 1048576 + tabled_place a % 1048576)

abbrev pub encoded_table : Filled → ExportedTable
encoded_table f = exported_table (packed f.answer) f.table

-- the answer of a fill as number and place, and the draft afterwards
abbrev pub encoded_fill : Result ℕ Refusal × List ℕ → List ℕ × List ℕ
encoded_fill (a, d) = (answer_number a ∷ answer_place a ∷ [], d)
