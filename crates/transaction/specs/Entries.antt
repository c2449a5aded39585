-- Entries: the rows of the table and the typed fields of each entry, from the values and their offsets. Assumes nothing.
use Rattle.std.specs.Prelude.{ℕ, ◌+◌, ◌-◌, ◌*◌, List, [], ◌∷◌, ◌++◌, length, replicate, eqb, Option, None, Some}
use Rattle.wire.specs.Bytes.{pick}
use Rattle.wire.specs.Format.{Format}
use Rattle.wire.specs.Series.{not_below}
use Rattle.element.specs.Outputs.{Output, output, TransferableOutput, output_fields}
use Rattle.element.specs.Inputs.{Input, input_fields}
use Rattle.element.specs.Operations.{Operation, operation_fields, InitialState, fx_outputs}
use Rattle.transaction.specs.Slots.{signature_width}
use Rattle.transaction.specs.Credentials.{Want, credential_code}
use Rattle.transaction.specs.declared.Entry.{Entry}
use Rattle.transaction.specs.declared.Entry.TheVariants as E

abbrev pub entry_kind : Entry → ℕ
entry_kind (E.Output f) = 1
entry_kind (E.Input f) = 2
entry_kind (E.Operation f) = 3
entry_kind (E.ImportedInput f) = 4
entry_kind (E.ExportedOutput f) = 5
entry_kind (E.InitialStateOutput f) = 6
entry_kind (E.Credential f) = 7

-- an entry from `start` up to `end`: its typed fields, and its identifiers beside them (zero bytes for one that it does not have)
pub record EntryAt : Type 0 where
  pub fields : Entry
  pub start : ℕ
  pub end : ℕ
  pub asset : List ℕ
  pub txid : List ℕ

-- a row's three numbers: kind, start, length
abbrev pub row : EntryAt → List ℕ
row e = entry_kind e.fields ∷ e.start ∷ (e.end - e.start) ∷ []

-- entry n, counted from 0
unfoldable pub nth : List EntryAt → ℕ → Option EntryAt
nth [] n = None
nth (e ∷ l) n = pick (eqb n 0) (Some e) (nth l (n - 1))

unfoldable pub rows : List EntryAt → List ℕ
rows [] = []
rows (e ∷ l) = row e ++ rows l

abbrev pub no_id : List ℕ
no_id = replicate 32 0

-- ---- the entries of each element, from its start and its end

abbrev pub output_entry : ℕ → ℕ → TransferableOutput → List EntryAt
output_entry at end o = record { fields = E.Output (output_fields (at + 32) end o.output); start = at; end = end; asset = o.asset; txid = no_id } ∷ []

abbrev pub exported_entry : ℕ → ℕ → TransferableOutput → List EntryAt
exported_entry at end o =
    record { fields = E.ExportedOutput (output_fields (at + 32) end o.output); start = at; end = end; asset = o.asset; txid = no_id } ∷ []

abbrev pub input_entry : ℕ → ℕ → Input → List EntryAt
input_entry at end i = record { fields = E.Input (input_fields end i); start = at; end = end; asset = i.asset; txid = i.txid } ∷ []

abbrev pub imported_entry : ℕ → ℕ → Input → List EntryAt
imported_entry at end i = record { fields = E.ImportedInput (input_fields end i); start = at; end = end; asset = i.asset; txid = i.txid } ∷ []

abbrev pub operation_entry : ℕ → ℕ → Operation → List EntryAt
operation_entry at end o = record { fields = E.Operation (operation_fields at end o); start = at; end = end; asset = o.asset; txid = no_id } ∷ []

abbrev pub state_output_entry : ℕ → ℕ → Output → List EntryAt
state_output_entry at end o = record { fields = E.InitialStateOutput (output_fields at end o); start = at; end = end; asset = no_id; txid = no_id } ∷ []

-- the entries of consecutive elements from `at` on
module _ {A : Type 0} (E : List ℕ → Format A) (entry : ℕ → ℕ → A → List EntryAt) where
  unfoldable pub entries_from : List ℕ → ℕ → List A → List EntryAt
  entries_from prev at [] = []
  entries_from prev at (a ∷ l) =
      entry at (at + length ((E prev).write a)) a ++ entries_from ((E prev).write a) (at + length ((E prev).write a)) l

-- an initial state's outputs follow its FxID and their count
abbrev pub state_entries : ℕ → ℕ → InitialState → List EntryAt
state_entries at end v = entries_from (not_below (output (fx_outputs v.fx))) state_output_entry [] (at + 8) v.outputs

-- a credential's signatures are its last bytes
abbrev pub credential_entry : Want → ℕ → EntryAt
credential_entry w at =
    record {
      fields = E.Credential record { type_id = credential_code w.type; signatures_at = at + 8; signatures_count = w.signatures };
      start = at;
      end = at + (8 + w.signatures * signature_width);
      asset = no_id;
      txid = no_id;
    }

unfoldable pub credential_entries : List Want → ℕ → List EntryAt
credential_entries [] at = []
credential_entries (w ∷ ws) at = credential_entry w at ∷ credential_entries ws (at + (8 + w.signatures * signature_width))
