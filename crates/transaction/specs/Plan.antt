-- The plans: what a transaction of each type has after the chain id. A name stands for a field or a list; a row has the names of a type in byte
-- order, and the least number of elements of each list. Value, format, credentials wanted, entries and the writer's order of steps come from the
-- names (specs/Form). A new field is a name here, a new type a row. Assumes nothing.
use Rattle.std.specs.Prelude.{◌≡◌, refl, ℕ, ◌<◌, Bool, List, [], ◌∷◌, length, eqb, Option, None, Some}
use Rattle.wire.specs.Bytes.{pick}
use Rattle.wire.specs.Format.{Format}
use Rattle.wire.specs.Fields.{blob}
use Rattle.wire.specs.Parsers.{listed}
use Rattle.wire.specs.Series.{not_below}
use Rattle.string.specs.Strings.{memo, name, symbol, denomination}
use Rattle.element.specs.Outputs.{TransferableOutput, transferable_output}
use Rattle.element.specs.Inputs.{Input, input}
use Rattle.element.specs.Operations.{Operation, operation, InitialState, initial_state}
use Rattle.transaction.specs.Credentials.{CredentialType, secp_credential, nft_credential, Want}
use Rattle.transaction.specs.laws.NonEmpty.{output-non_empty, input-non_empty, operation-non_empty, state-non_empty}
use Rattle.transaction.specs.Entries.{EntryAt, output_entry, exported_entry, input_entry, imported_entry, operation_entry, state_entries}
use Rattle.transaction.specs.declared.TransactionType.{TransactionType}
use Rattle.transaction.specs.declared.TransactionType.TheVariants as K
use Rattle.transaction.specs.declared.FieldName.{FieldName}
use Rattle.transaction.specs.declared.FieldName.TheVariants as F
use Rattle.transaction.specs.declared.ListName.{ListName}
use Rattle.transaction.specs.declared.ListName.TheVariants as L

-- ---- what a name stands for

-- the elements of a counted list, each read given the bytes of the one before ([] for the first)
pub record Elements : Type 1 where
  pub Element : Type 0
  pub element : List ℕ → Format Element
  -- every element is non-empty
  pub non_empty : (prev : List ℕ) (v : Element) → (element prev).Good v → 0 < length ((element prev).write v)
  -- the credential that each element asks for, if any, and its number of signatures
  pub credential : Option CredentialType
  pub signatures : Element → ℕ
  -- the entries of an element, from its start and its end
  pub entries : ℕ → ℕ → Element → List EntryAt

abbrev pub want_of : Option CredentialType → ℕ → List Want
want_of None n = []
want_of (Some t) n = record { type = t; signatures = n } ∷ []

-- ---- fields

abbrev pub Content : FieldName → Type 0
Content F.Memo = List ℕ
Content F.Name = List ℕ
Content F.Symbol = List ℕ
Content F.Denomination = ℕ
Content F.Chain = List ℕ

-- the format of each field; a memo has at most `most` bytes
abbrev pub content_of : (most : ℕ) (f : FieldName) → Format (Content f)
content_of most F.Memo = memo most
content_of most F.Name = name
content_of most F.Symbol = symbol
content_of most F.Denomination = denomination
content_of most F.Chain = blob 32

-- the credential that a field asks for, if any, and its number of signatures
abbrev pub field_credential : FieldName → Option CredentialType
field_credential F.Memo = None
field_credential F.Name = None
field_credential F.Symbol = None
field_credential F.Denomination = None
field_credential F.Chain = None

abbrev pub field_signatures : (f : FieldName) → Content f → ℕ
field_signatures F.Memo v = 0
field_signatures F.Name v = 0
field_signatures F.Symbol v = 0
field_signatures F.Denomination v = 0
field_signatures F.Chain v = 0

-- ---- lists

-- outputs do not decrease as byte strings
abbrev pub outputs : (ℕ → ℕ → TransferableOutput → List EntryAt) → Elements
outputs entry =
    record {
      Element = TransferableOutput;
      element = not_below transferable_output;
      non_empty = output-non_empty;
      credential = None;
      signatures = λ v. 0;
      entries = entry;
    }

-- each input asks for a credential with as many signatures as it has indices
abbrev pub inputs : (ℕ → ℕ → Input → List EntryAt) → Elements
inputs entry =
    record {
      Element = Input;
      element = input;
      non_empty = input-non_empty;
      credential = Some secp_credential;
      signatures = λ v. length v.indices;
      entries = entry;
    }

-- operations are in any order; each asks for a credential with as many signatures as it has indices
abbrev pub operations : Elements
operations =
    record {
      Element = Operation;
      element = λ prev. operation;
      non_empty = operation-non_empty;
      credential = Some nft_credential;
      signatures = λ v. length v.terms.0;
      entries = operation_entry;
    }

-- FxIDs strictly increase
abbrev pub states : Elements
states =
    record {
      Element = InitialState;
      element = initial_state;
      non_empty = state-non_empty;
      credential = None;
      signatures = λ v. 0;
      entries = state_entries;
    }

abbrev pub elements_of : ListName → Elements
elements_of L.Output = outputs output_entry
elements_of L.Input = inputs input_entry
elements_of L.State = states
elements_of L.Operation = operations
elements_of L.Imported = inputs imported_entry
elements_of L.Exported = outputs exported_entry

-- ---- the rows

-- `field` is a field, `many` a list of at least that many elements; at `end` only the credentials are still to come, at `shut` nothing is
pub data Plan : Type 0 where
  shut end : Plan
  field : FieldName → Plan → Plan
  many : ListName → ℕ → Plan → Plan

-- what follows the memo, by type
abbrev pub own_plan : TransactionType → Plan
own_plan K.Base = end
own_plan K.CreateAsset = field F.Name (field F.Symbol (field F.Denomination (many L.State 1 end)))
own_plan K.Operation = many L.Operation 1 end
own_plan K.Import = field F.Chain (many L.Imported 1 end)
own_plan K.Export = field F.Chain (many L.Exported 1 end)

-- every type has outputs, inputs and memo
abbrev pub plan : TransactionType → Plan
plan k = many L.Output 0 (many L.Input 0 (field F.Memo (own_plan k)))

-- ---- the types' numbers; they need not be consecutive

abbrev pub type_id : TransactionType → ℕ
type_id K.Base = 0
type_id K.CreateAsset = 1
type_id K.Operation = 2
type_id K.Import = 3
type_id K.Export = 4

abbrev pub type_of : ℕ → TransactionType
type_of n = pick (eqb n 0) K.Base (pick (eqb n 1) K.CreateAsset (pick (eqb n 2) K.Operation (pick (eqb n 3) K.Import K.Export)))

pub type_of-id : (k : TransactionType) → type_of (type_id k) ≡ k
type_of-id K.Base = refl
type_of-id K.CreateAsset = refl
type_of-id K.Operation = refl
type_of-id K.Import = refl
type_of-id K.Export = refl

abbrev pub types : List TransactionType
types = K.Base ∷ K.CreateAsset ∷ K.Operation ∷ K.Import ∷ K.Export ∷ []

abbrev pub is_type : ℕ → Bool
is_type n = listed type_id types n

abbrev pub plan_of : ℕ → Plan
plan_of n = plan (type_of n)
