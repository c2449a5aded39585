-- Entry n as typed fields (document 01, "Entries and table"). Assumes nothing.
use Rattle.std.specs.Prelude.{ℕ, List, Option, None, Some, Result, Ok, Err}
use Rattle.wire.specs.Numbers.{refusal, number_of, no_entry}
use Rattle.wire.specs.Format.{on_result}
use Rattle.wire.specs.declared.Refusal.{Refusal}
use Rattle.transaction.specs.Entries.{EntryAt, no_id}
use Rattle.transaction.specs.Family.{check, entry}
use Rattle.transaction.specs.Avm.{avm}
use Rattle.entry.specs.declared.EntryRead.{EntryRead}
use Rattle.entry.specs.declared.Found.{Found}

abbrev pub refused_entry : Refusal → EntryRead
refused_entry e = record { answer = Err e; asset = no_id; txid = no_id }

abbrev pub missing_entry : EntryRead
missing_entry = refused_entry (refusal no_entry 0)

-- an entry of a transaction of `bytes` bytes
abbrev pub found_entry : ℕ → EntryAt → EntryRead
found_entry bytes e = record { answer = Ok record { fields = e.fields; start = e.start; end = e.end; bytes = bytes }; asset = e.asset; txid = e.txid }

abbrev pub entry_answer : ℕ → Option EntryAt → EntryRead
entry_answer bytes None = missing_entry
entry_answer bytes (Some e) = found_entry bytes e

-- with memos of at most `most` bytes; the check's own refusal comes first
abbrev pub entry_of : ℕ → List ℕ → ℕ → EntryRead
entry_of most s n = on_result (check (avm most) s) refused_entry (λ v end. entry_answer end (entry (avm most) v n))

-- the number that an answer reports: 0 if the entry is found
abbrev pub entry_number : Result Found Refusal → ℕ
entry_number (Ok found) = 0
entry_number (Err e) = number_of e
