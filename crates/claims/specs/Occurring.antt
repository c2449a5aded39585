-- Each number in a call's list is the answer to some bytes, so the lists are exact. Those of the writer are in writer_theorems/specs/Occurring.
-- Assumes nothing.
use Rattle.std.specs.Prelude.{ℕ, ◌≡◌, List, [], ◌∷◌}
use Rattle.wire.specs.Bytes.{Bytes}
use Rattle.wire.specs.Orders.{OneOf}
use Rattle.transaction.specs.Avm.{avm}
use Rattle.transaction.specs.Answer.{memo_most, checked, checked_number}
use Rattle.entry_table.specs.Table.{tabled, tabled_number}
use Rattle.entry.specs.Entry.{entry_of, entry_number}
use Rattle.draft_slot_table.specs.Table.{tabled_slots}
use Rattle.draft.specs.Reader.{reader}
use Rattle.draft.specs.Calls.{answer_number, merge_call, fill_call}
use Rattle.draft_theorems.specs.Answers.{merge_numbers, fill_numbers}
use Rattle.upload.specs.Calls.{standing_number}
use Rattle.upload_theorems.specs.Answers.{piece_numbers, end_numbers}
use Rattle.upload_theorems.specs.Pieces.{answer, ended}
use Rattle.claims.specs.Answers.{check_numbers, table_numbers, entry_numbers}

pub record NumbersOccur : Type 0 where
  pub check : (n : ℕ) → OneOf n check_numbers → (s : List ℕ) × Bytes s × (checked_number (checked memo_most s) ≡ n)
  pub check-with-table : (n : ℕ) → OneOf n table_numbers → (s t : List ℕ) × Bytes s × (tabled_number (tabled memo_most s t).answer ≡ n)
  pub entry : (n : ℕ) → OneOf n entry_numbers → (s : List ℕ) × (k : ℕ) × Bytes s × (entry_number (entry_of memo_most s k).answer ≡ n)
  pub slots : (n : ℕ) → OneOf n table_numbers → (s t : List ℕ) × Bytes s × (tabled_number (tabled_slots memo_most s t).answer ≡ n)
  -- of one piece, from a fresh start, and of the end after it
  pub piece : (n : ℕ) → OneOf n piece_numbers → (s p : List ℕ) × Bytes s × Bytes p × (standing_number (answer memo_most s (p ∷ [])) ≡ n)
  pub end : (n : ℕ) → OneOf n end_numbers → (s p : List ℕ) × Bytes s × Bytes p × (checked_number (ended memo_most s (p ∷ [])) ≡ n)
  pub merge : (n : ℕ) → OneOf n merge_numbers
      → (d e out : List ℕ) × Bytes d × Bytes e × (answer_number (merge_call (reader (avm memo_most)) d e out).0 ≡ n)
  pub fill : (n : ℕ) → OneOf n fill_numbers
      → (d : List ℕ) × (k : ℕ) × (s : List ℕ) × Bytes d × Bytes s × (answer_number (fill_call (reader (avm memo_most)) d k s).0 ≡ n)
