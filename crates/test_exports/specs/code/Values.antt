-- Entry n as integers, each at its own index of a lent array. Assumes nothing.
use Rattle.std.specs.Prelude.{ℕ, Result, Ok, Err, List, [], ◌∷◌, ◌++◌, length, take, drop, set}
use Rattle.wire.specs.Numbers.{number_of}
use Rattle.owners.specs.declared.OwnersFields.{OwnersFields}
use Rattle.element.specs.declared.OutputFields.{OutputFields}
use Rattle.element.specs.declared.OutputFields.TheVariants as O
use Rattle.element.specs.declared.InputFields.{InputFields}
use Rattle.element.specs.declared.Recipients.{Recipients}
use Rattle.element.specs.declared.Recipients.TheVariants as R
use Rattle.element.specs.declared.OperationFields.{OperationFields}
use Rattle.transaction.specs.declared.CredentialFields.{CredentialFields}
use Rattle.transaction.specs.declared.Entry.{Entry}
use Rattle.transaction.specs.declared.Entry.TheVariants as E
use Rattle.wire.specs.declared.Refusal.{Refusal}
use Rattle.entry.specs.declared.Found.{Found}
use Rattle.entry.specs.declared.EntryRead.{EntryRead}

-- an index and the integer stored there
abbrev pub Value : Type 0
Value = ℕ × ℕ

unfoldable pub put_at : List Value → List ℕ → List ℕ
put_at [] t = t
put_at (v ∷ l) t = put_at l (set t v.0 v.1)

-- 10 locktime, 11 threshold, 12 offset of the addresses, 13 their count
abbrev pub owners_values : OwnersFields → List Value
owners_values o = (10, o.locktime) ∷ (11, o.threshold) ∷ (12, o.addresses_at) ∷ (13, o.addresses_count) ∷ []

-- 5 type, 6 amount, 7 group, 8 offset of the payload, 9 its length
abbrev pub output_values : OutputFields → List Value
output_values (O.SecpMint o) = (5, 6) ∷ owners_values o
output_values (O.SecpTransfer amount o) = (5, 7) ∷ (6, amount) ∷ owners_values o
output_values (O.NftMint group o) = (5, 10) ∷ (7, group) ∷ owners_values o
output_values (O.NftTransfer group at long o) = (5, 11) ∷ (7, group) ∷ (8, at) ∷ (9, long) ∷ owners_values o

-- 14 output index, 15 offset of the address indices, 16 their count
abbrev pub input_values : InputFields → List Value
input_values i = (6, i.amount) ∷ (14, i.index) ∷ (15, i.indices_at) ∷ (16, i.indices_count) ∷ []

-- 19 offset of a mint's owners, 20 their count
abbrev pub recipients_values : Recipients → List Value
recipients_values (R.Mint at count) = (5, 12) ∷ (19, at) ∷ (20, count) ∷ []
recipients_values (R.Transfer o) = (5, 13) ∷ owners_values o

-- 17 offset of the pairs, 18 their count
abbrev pub operation_values : OperationFields → List Value
operation_values o =
    (17, o.outputs_at) ∷ (18, o.outputs_count) ∷ (15, o.terms.indices_at) ∷ (16, o.terms.indices_count) ∷ (7, o.terms.group)
    ∷ (8, o.terms.payload_at) ∷ (9, o.terms.payload_length) ∷ recipients_values o.recipients

-- 21 offset of the signatures, 22 their count
abbrev pub credential_values : CredentialFields → List Value
credential_values c = (5, c.type_id) ∷ (21, c.signatures_at) ∷ (22, c.signatures_count) ∷ []

-- 2 entry kind
abbrev pub entry_values : Entry → List Value
entry_values (E.Output f) = (2, 1) ∷ output_values f
entry_values (E.Input f) = (2, 2) ∷ input_values f
entry_values (E.Operation f) = (2, 3) ∷ operation_values f
entry_values (E.ImportedInput f) = (2, 4) ∷ input_values f
entry_values (E.ExportedOutput f) = (2, 5) ∷ output_values f
entry_values (E.InitialStateOutput f) = (2, 6) ∷ output_values f
entry_values (E.Credential f) = (2, 7) ∷ credential_values f

-- 0 number, 1 place, 3 start, 4 end
abbrev pub answer_values : Result Found Refusal → List Value
answer_values (Ok f) = (0, 0) ∷ (1, f.bytes) ∷ (3, f.start) ∷ (4, f.end) ∷ entry_values f.fields
answer_values (Err e) = (0, number_of e) ∷ (1, e.place) ∷ []

pub record ExportedEntry : Type 0 where
  pub numbers : List ℕ
  pub asset : List ℕ
  pub txid : List ℕ

abbrev pub exported_entry : List ℕ → List ℕ → List ℕ → ExportedEntry
exported_entry n a t = record { numbers = n; asset = a; txid = t }

-- as many bytes of an identifier as there is room for
abbrev pub put_id : List ℕ → List ℕ → List ℕ
put_id id room = take (length room) id ++ drop (length id) room

abbrev pub encoded_entry : EntryRead → List ℕ → List ℕ → List ℕ → ExportedEntry
encoded_entry r n a t = exported_entry (put_at (answer_values r.answer) n) (put_id r.asset a) (put_id r.txid t)
