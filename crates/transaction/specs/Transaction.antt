-- A signed transaction as a reader of document 01 knows it, and which transactions are good, in plain words: its "Layout" and its "Rules and their
-- moments". proofs/Good shows that these are exactly the values of the signed format. Assumes nothing.
use Rattle.std.specs.Prelude.{◌≡◌, ℕ, ◌^◌, ◌≤◌, ◌<◌, List, [], ◌++◌, map, length}
use Rattle.wire.specs.Parsers.{Sized}
use Rattle.wire.specs.Orders.{All, Increasing, Nondecreasing, Ascending}
use Rattle.element.specs.Outputs.{TransferableOutput}
use Rattle.element.specs.Inputs.{Input}
use Rattle.element.specs.Operations.{Operation, InitialState}
use Rattle.element.specs.PlainBytes.{transferable_output_bytes, plain_fx_id}
use Rattle.element.specs.Good.{GoodString, GoodText, GoodTransferableOutput, GoodInput, input_key, GoodOperation, GoodInitialState}
use Rattle.transaction.specs.Credentials.{Want, secp_credential, nft_credential, total}

-- ---- the transaction

pub record Base : Type 0 where
  pub network : ℕ
  pub chain : List ℕ
  pub outputs : List TransferableOutput
  pub inputs : List Input
  pub memo : List ℕ

-- what follows the base part, by type from 0 to 4
pub data Own : Type 0 where
  plain : Own
  create_asset : (name symbol : List ℕ) (denomination : ℕ) (states : List InitialState) → Own
  operate : (operations : List Operation) → Own
  import_from : (chain : List ℕ) (inputs : List Input) → Own
  export_to : (chain : List ℕ) (outputs : List TransferableOutput) → Own

-- a transaction; its signatures are listed across the credentials
pub record Transaction : Type 0 where
  pub base : Base
  pub own : Own
  pub signatures : List (List ℕ)

-- ---- the credentials that it wants: one for each input, in order, then one for each operation or imported input; each has as many signatures as
-- that element has indices

abbrev pub input_want : Input → Want
input_want i = record { type = secp_credential; signatures = length i.indices }

abbrev pub operation_want : Operation → Want
operation_want o = record { type = nft_credential; signatures = length o.terms.0 }

abbrev pub own_wants : Own → List Want
own_wants plain = []
own_wants (create_asset name symbol denomination states) = []
own_wants (operate operations) = map operation_want operations
own_wants (import_from chain inputs) = map input_want inputs
own_wants (export_to chain outputs) = []

abbrev pub credentials_of : Transaction → List Want
credentials_of t = map input_want t.base.inputs ++ own_wants t.own

-- ---- which transactions are good

-- outputs do not decrease as byte strings, asset id included
pub record GoodOutputs (l : List TransferableOutput) : Type 0 where
  pub count : length l < 2 ^ 32
  pub each : All GoodTransferableOutput l
  pub order : Nondecreasing (map transferable_output_bytes l)

-- inputs strictly increase by (id, index)
pub record GoodInputs (l : List Input) : Type 0 where
  pub count : length l < 2 ^ 32
  pub each : All GoodInput l
  pub order : Increasing (map input_key l)

-- operations are in any order, and at least one
pub record GoodOperations (l : List Operation) : Type 0 where
  pub some : 1 ≤ length l
  pub count : length l < 2 ^ 32
  pub each : All GoodOperation l

-- initial states are at least one, and their FxIDs strictly increase
pub record GoodStates (l : List InitialState) : Type 0 where
  pub some : 1 ≤ length l
  pub count : length l < 2 ^ 32
  pub each : All GoodInitialState l
  pub order : Ascending (map (λ v. plain_fx_id v.fx) l)

-- the memo has at most `most` bytes, 256 in the base, and its length fits 32 bits
pub record GoodBase (most : ℕ) (b : Base) : Type 0 where
  pub network : b.network < 2 ^ 32
  pub chain : Sized 32 b.chain
  pub outputs : GoodOutputs b.outputs
  pub inputs : GoodInputs b.inputs
  pub memo : GoodString most b.memo
  pub memo-length : length b.memo < 2 ^ 32

pub record GoodCreateAsset (name symbol : List ℕ) (denomination : ℕ) (states : List InitialState) : Type 0 where
  pub name-good : GoodText 128 name
  pub symbol-good : GoodText 4 symbol
  pub denomination-good : denomination ≤ 32
  pub states-good : GoodStates states

-- imported inputs are a list of their own
pub record GoodImport (chain : List ℕ) (inputs : List Input) : Type 0 where
  pub chain-good : Sized 32 chain
  pub some : 1 ≤ length inputs
  pub inputs-good : GoodInputs inputs

pub record GoodExport (chain : List ℕ) (outputs : List TransferableOutput) : Type 0 where
  pub chain-good : Sized 32 chain
  pub some : 1 ≤ length outputs
  pub outputs-good : GoodOutputs outputs

abbrev pub GoodOwn : Own → Type 0
GoodOwn plain = Unit {0}
GoodOwn (create_asset name symbol denomination states) = GoodCreateAsset name symbol denomination states
GoodOwn (operate operations) = GoodOperations operations
GoodOwn (import_from chain inputs) = GoodImport chain inputs
GoodOwn (export_to chain outputs) = GoodExport chain outputs

-- the number of credentials fits 32 bits, and there are as many signatures as these want, of 65 bytes each
pub record GoodTransaction (most : ℕ) (t : Transaction) : Type 0 where
  pub base : GoodBase most t.base
  pub own : GoodOwn t.own
  pub credentials : length (credentials_of t) < 2 ^ 32
  pub count : length t.signatures ≡ total (credentials_of t)
  pub signatures : All (Sized 65) t.signatures
