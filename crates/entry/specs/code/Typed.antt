-- The typed fields at a row, by its kind alone. In an accepted transaction they are those of the row's entry (`entries-stand`, of proofs/Standing).
-- Assumes nothing.
use Rattle.std.specs.Prelude.{ℕ, List, eqb, Some, None, Option, Ok, Err, Result}
use Rattle.std.specs.Option.{option_map}
use Rattle.wire.specs.declared.Refusal.{Refusal}
use Rattle.wire.specs.Bytes.{pick}
use Rattle.wire.specs.Fields.{integer, blob}
use Rattle.wire.specs.code.Answer.{whole_at}
use Rattle.element.specs.declared.OutputFields.{OutputFields}
use Rattle.transaction.specs.Entries.{no_id}
use Rattle.transaction.specs.declared.CredentialFields.{CredentialFields}
use Rattle.transaction.specs.declared.Entry.{Entry}
use Rattle.transaction.specs.declared.Entry.TheVariants as E
use Rattle.entry_walk.specs.declared.Row.{Row}
use Rattle.entry_fields.specs.code.Found.{output_found, input_found, operation_found}
use Rattle.entry.specs.Entry.{refused_entry}
use Rattle.entry.specs.declared.EntryRead.{EntryRead}

-- an output after its asset id
abbrev pub output_after : List ℕ → ℕ → Option OutputFields
output_after s at = (blob 32).parse s at (λ e. None) λ asset o. output_found s o

abbrev pub credential_at : List ℕ → ℕ → Option CredentialFields
credential_at s at =
    (integer 4).parse s at (λ e. None) λ type i.
    (integer 4).parse s i (λ e. None) λ count first.
    Some record { type_id = type; signatures_at = first; signatures_count = count }

abbrev pub typed_at : ℕ → List ℕ → ℕ → Option Entry
typed_at kind s at =
    pick (eqb kind 1) (option_map E.Output (output_after s at))
    (pick (eqb kind 2) (option_map E.Input (input_found s at))
    (pick (eqb kind 3) (option_map E.Operation (operation_found s at))
    (pick (eqb kind 4) (option_map E.ImportedInput (input_found s at))
    (pick (eqb kind 6) (option_map E.InitialStateOutput (output_found s at))
    (pick (eqb kind 7) (option_map E.Credential (credential_at s at)) (option_map E.ExportedOutput (output_after s at)))))))

-- ---- identifiers

abbrev pub after_key : List ℕ → ℕ → List ℕ
after_key s at = (blob 32).parse s at (λ e. no_id) λ id i. (integer 4).parse s i (λ e. no_id) λ index a. whole_at 32 s a

abbrev pub asset_at : ℕ → List ℕ → ℕ → List ℕ
asset_at kind s at =
    pick (eqb kind 2) (after_key s at) (pick (eqb kind 4) (after_key s at) (pick (eqb kind 6) no_id (pick (eqb kind 7) no_id (whole_at 32 s at))))

abbrev pub txid_at : ℕ → List ℕ → ℕ → List ℕ
txid_at kind s at = pick (eqb kind 2) (whole_at 32 s at) (pick (eqb kind 4) (whole_at 32 s at) no_id)

-- ---- the entry of a row, in a transaction of `bytes` bytes

abbrev pub with_ids : List ℕ → ℕ → Row → Entry → EntryRead
with_ids s bytes r f =
    record {
      answer = Ok record { fields = f; start = r.start; end = r.end; bytes = bytes };
      asset = asset_at r.kind s r.start;
      txid = txid_at r.kind s r.start;
    }

abbrev pub row_entry : List ℕ → ℕ → Row → Option EntryRead
row_entry s bytes r = option_map (with_ids s bytes r) (typed_at r.kind s r.start)

-- an entry, or the refusal with no identifiers
abbrev pub read_entry : Result EntryRead Refusal → EntryRead
read_entry (Ok r) = r
read_entry (Err e) = refused_entry e
