-- Demand 1 of document 00, for the calls that read: whatever the bytes, the answer has a number of the call's list, a refusal changes nothing that
-- was lent, and bytes that are not accepted get the check's own number and place. That a call ends and stays inside the memory lent is part of what
-- a proved function is. Assumes nothing.
use Rattle.std.specs.Prelude.{ℕ, ◌*◌, ◌≤◌, ◌<◌, ◌≡◌, ◌↔◌, List, [], ◌∷◌, ◌++◌, map, length, drop, Ok, Err, None, Some}
use Rattle.wire.specs.Bytes.{Bytes, between}
use Rattle.wire.specs.declared.Refusal.{Refusal}
use Rattle.wire.specs.Numbers.{refusal, no_room, no_entry}
use Rattle.wire.specs.Format.{took, refused, verdict}
use Rattle.wire.specs.Orders.{All, OneOf}
use Rattle.element.specs.Outputs.{Output, TransferableOutput}
use Rattle.element.specs.Inputs.{Input}
use Rattle.element.specs.Operations.{Operation}
use Rattle.element.specs.PlainBytes.{u32, list_bytes, output_bytes, transferable_output_bytes, input_bytes, operation_bytes}
use Rattle.transaction.specs.Slots.{signature_width, blank, slot_at}
use Rattle.transaction.specs.Credentials.{credential_code, Want}
use Rattle.transaction.specs.Entries.{EntryAt}
use Rattle.transaction.specs.Entries as Entries
use Rattle.transaction.specs.Family.{Signed, check, entries, entry}
use Rattle.transaction.specs.Avm.{avm}
use Rattle.transaction.specs.Answer.{memo_most, checked, checked_number, checked_place}
use Rattle.entry_table.specs.Table.{Filled, filled, tabled, tabled_number, tabled_rows}
use Rattle.draft_slot_table.specs.Slots.{filled_at}
use Rattle.draft_slot_table.specs.Slots as Slots
use Rattle.draft_slot_table.specs.Table.{slots, tabled_slots}
use Rattle.draft.specs.Reader.{reader}
use Rattle.entry.specs.Entry.{entry_of, entry_number, found_entry}

-- ---- the numbers that each call can answer

abbrev pub check_numbers : List ℕ
check_numbers = 0 ∷ 1 ∷ 2 ∷ 3 ∷ 4 ∷ 5 ∷ 6 ∷ 7 ∷ 8 ∷ 9 ∷ 10 ∷ 11 ∷ 12 ∷ 13 ∷ []

-- 14 is no room in the lent table
abbrev pub table_numbers : List ℕ
table_numbers = 14 ∷ check_numbers

-- 15 is no such entry
abbrev pub entry_numbers : List ℕ
entry_numbers = 15 ∷ check_numbers

-- ---- the check

pub record CheckAnswers : Type 0 where
  pub number : (s : List ℕ) → OneOf (checked_number (checked memo_most s)) check_numbers
  -- number and place are those of the definition
  pub own : (s : List ℕ) → (checked_number (checked memo_most s), checked_place (checked memo_most s)) ≡ verdict (check (avm memo_most) s)

-- ---- the calls that list rows of three numbers in a lent table

-- `call s t` checks the bytes s and writes rows into the table t. A reading v of s has `count s v` rows; their numbers are `rows s v`
pub record Lists (call : List ℕ → List ℕ → Filled) (count : List ℕ → Signed (avm memo_most) → ℕ) (rows : List ℕ → Signed (avm memo_most)
    → List ℕ) : Type 0 where
  pub number : (s t : List ℕ) → OneOf (tabled_number (call s t).answer) table_numbers
  -- bytes that are not accepted get the check's own refusal, whatever the room
  pub refused-bytes : (s t : List ℕ) (e : Refusal) → check (avm memo_most) s ≡ refused e → call s t ≡ filled (Err e) t
  -- accepted bytes whose rows fit: all rows are at the front, and each number beyond them is as before
  pub listed : (s t : List ℕ) (v : Signed (avm memo_most)) (n : ℕ) → check (avm memo_most) s ≡ took v n → 3 * count s v ≤ length t
      → call s t ≡ filled (Ok (count s v, n)) (rows s v ++ drop (3 * count s v) t)
  -- accepted bytes whose rows do not fit: 14 at place 0
  pub no_room : (s t : List ℕ) (v : Signed (avm memo_most)) (n : ℕ) → check (avm memo_most) s ≡ took v n → length t < 3 * count s v
      → call s t ≡ filled (Err (refusal no_room 0)) t
  -- a refusal has no rows and changes no number of the table
  pub unchanged : (s t : List ℕ) → (tabled_number (call s t).answer ≡ 0 → ⊥) → (tabled_rows (call s t).answer ≡ 0) × ((call s t).table ≡ t)
  -- numbers beyond the rows stay
  pub beyond : (s t : List ℕ) → let n = tabled_rows (call s t).answer in drop (3 * n) (call s t).table ≡ drop (3 * n) t
  pub length-kept : (s t : List ℕ) → length (call s t).table ≡ length t

-- the check with a lent table: a row for each entry of the reading
abbrev pub TableAnswers : Type 0
TableAnswers = Lists (tabled memo_most) (λ s v. length (entries (avm memo_most) v)) (λ s v. Entries.rows (entries (avm memo_most) v))

-- the slots in a lent table: a row for each slot
pub record SlotsAnswers : Type 0 where
  pub lists : Lists (tabled_slots memo_most) (λ s v. length (slots memo_most s)) (λ s v. Slots.rows s (slots memo_most s))
  -- the offsets are those of the slots that demand 3 speaks of, in their order
  pub places : (s : List ℕ) → map (λ x. x.place) (slots memo_most s) ≡ (reader (avm memo_most)).slots s
  -- a row's last number is 0 exactly if the slot is empty
  pub empty : (s : List ℕ) (p : ℕ) → (filled_at s p ≡ 0) ↔ (slot_at s p ≡ blank)
  -- and 1 if it is filled
  pub not-empty : (s : List ℕ) (p : ℕ) → (slot_at s p ≡ blank → ⊥) → filled_at s p ≡ 1

-- ---- entry n

-- e is the entry of an element, whose bytes, field after field as document 01 lays them out, are those of s from e's start to its end
pub data StandsAs (s : List ℕ) (e : EntryAt) : Type 0 where
  an_output : (o : TransferableOutput) → e ∷ [] ≡ Entries.output_entry e.start e.end o
      → between e.start e.end s ≡ transferable_output_bytes o → StandsAs s e
  an_input : (i : Input) → e ∷ [] ≡ Entries.input_entry e.start e.end i → between e.start e.end s ≡ input_bytes i → StandsAs s e
  an_operation : (o : Operation) → e ∷ [] ≡ Entries.operation_entry e.start e.end o → between e.start e.end s ≡ operation_bytes o → StandsAs s e
  an_imported_input : (i : Input) → e ∷ [] ≡ Entries.imported_entry e.start e.end i → between e.start e.end s ≡ input_bytes i → StandsAs s e
  an_exported_output : (o : TransferableOutput) → e ∷ [] ≡ Entries.exported_entry e.start e.end o
      → between e.start e.end s ≡ transferable_output_bytes o → StandsAs s e
  a_state_output : (o : Output) → e ∷ [] ≡ Entries.state_output_entry e.start e.end o → between e.start e.end s ≡ output_bytes o → StandsAs s e
  -- its type, and a list of signatures
  a_credential : (w : Want) (l : List (List ℕ)) → e ≡ Entries.credential_entry w e.start
      → length l ≡ w.signatures → All (λ signature. length signature ≡ signature_width) l
      → between e.start e.end s ≡ u32 (credential_code w.type) ++ list_bytes (λ signature. signature) l → StandsAs s e

pub record EntryAnswers : Type 0 where
  pub number : (s : List ℕ) (n : ℕ) → OneOf (entry_number (entry_of memo_most s n).answer) entry_numbers
  -- bytes that are not accepted get the check's own refusal first
  pub refused-bytes : (s : List ℕ) (n : ℕ) (e : Refusal) → check (avm memo_most) s ≡ refused e → (entry_of memo_most s n).answer ≡ Err e
  -- then the fields of entry n of the reading, with the length of the transaction as place
  pub found : (s : List ℕ) (n : ℕ) (v : Signed (avm memo_most)) (bytes : ℕ) (e : EntryAt) → check (avm memo_most) s ≡ took v bytes
      → entry (avm memo_most) v n ≡ Some e → entry_of memo_most s n ≡ found_entry bytes e
  -- the entry lies inside the transaction, and its element's bytes are there
  pub inside : (s : List ℕ) (n : ℕ) (v : Signed (avm memo_most)) (bytes : ℕ) (e : EntryAt) → Bytes s → check (avm memo_most) s ≡ took v bytes
      → entry (avm memo_most) v n ≡ Some e → (e.start ≤ e.end) × (e.end ≤ length s)
  pub stands : (s : List ℕ) (n : ℕ) (v : Signed (avm memo_most)) (bytes : ℕ) (e : EntryAt) → Bytes s → check (avm memo_most) s ≡ took v bytes
      → entry (avm memo_most) v n ≡ Some e → StandsAs s e
  -- 15 at place 0 if the reading has no such entry
  pub missing : (s : List ℕ) (n : ℕ) (v : Signed (avm memo_most)) (bytes : ℕ) → check (avm memo_most) s ≡ took v bytes
      → entry (avm memo_most) v n ≡ None → (entry_of memo_most s n).answer ≡ Err (refusal no_entry 0)
