-- Which values the elements of a transaction have, in plain words: the widths of document 01's "Layout" and its "Rules and their moments".
-- proofs/Good shows that these are exactly the values of the formats. Assumes nothing.
use Rattle.std.specs.Prelude.{◌≡◌, ◌↔◌, ℕ, ◌^◌, ◌≤◌, ◌<◌, List, [], ◌∷◌, map, length}
use Rattle.wire.specs.Bytes.{Bytes}
use Rattle.wire.specs.Parsers.{Sized}
use Rattle.wire.specs.Orders.{All, OneOf, Increasing, Nondecreasing, Ascending}
use Rattle.owners.specs.Owners.{Owners}
use Rattle.element.specs.Outputs.{OutputType, secp_mint, secp_transfer, nft_mint, nft_transfer, OutputBody, Output, TransferableOutput}
use Rattle.element.specs.Inputs.{Input}
use Rattle.element.specs.Operations.{OperationType, mint_nft, transfer_nft, OperationOwners, Operation, Fx, secp_fx, nft_fx, InitialState}
use Rattle.element.specs.PlainBytes.{output_bytes, key_bytes}

-- ---- strings

-- any bytes: at most 256 in a memo, at most 1,024 in a payload
pub record GoodString (most : ℕ) (b : List ℕ) : Type 0 where
  pub short : length b ≤ most
  pub bytes : Bytes b

-- a character from 0x20 to 0x7e
pub record Printable (x : ℕ) : Type 0 where
  pub low : 0x20 ≤ x
  pub high : x ≤ 0x7e

-- a name of 1 to 128 characters, a symbol of 1 to 4
pub record GoodText (most : ℕ) (b : List ℕ) : Type 0 where
  pub some : 1 ≤ length b
  pub short : length b ≤ most
  pub characters : All Printable b

-- ---- owners

pub record GoodOwners (o : Owners) : Type 0 where
  pub locktime : o.locktime < 2 ^ 64
  pub threshold : o.threshold ≤ length o.addresses
  pub zero_threshold : (o.threshold ≡ 0) ↔ (length o.addresses ≡ 0)
  pub count : length o.addresses < 2 ^ 32
  pub addresses : All (Sized 20) o.addresses
  pub order : Increasing o.addresses

-- ---- outputs

pub record GoodAmount (n : ℕ) : Type 0 where
  pub positive : 0 < n
  pub width : n < 2 ^ 64

-- an output of type 7
pub record GoodSecpTransfer (amount : ℕ) (owners : Owners) : Type 0 where
  pub amount-good : GoodAmount amount
  pub owners-good : GoodOwners owners

-- an output of type 10
pub record GoodNftMint (group : ℕ) (owners : Owners) : Type 0 where
  pub group-width : group < 2 ^ 32
  pub owners-good : GoodOwners owners

-- an output of type 11
pub record GoodNftTransfer (group : ℕ) (payload : List ℕ) (owners : Owners) : Type 0 where
  pub group-width : group < 2 ^ 32
  pub payload-good : GoodString 1024 payload
  pub owners-good : GoodOwners owners

-- what follows an output's type; type 6 has owners only
abbrev pub GoodOutputBody : (k : OutputType) → OutputBody k → Type 0
GoodOutputBody secp_mint owners = GoodOwners owners
GoodOutputBody secp_transfer (amount, owners) = GoodSecpTransfer amount owners
GoodOutputBody nft_mint (group, owners) = GoodNftMint group owners
GoodOutputBody nft_transfer (group, (payload, owners)) = GoodNftTransfer group payload owners

-- an output of one of the types listed
pub record GoodOutput (types : List OutputType) (o : Output) : Type 0 where
  pub type : OneOf o.0 types
  pub body : GoodOutputBody o.0 o.1

-- base and exported outputs have type 7 only
pub record GoodTransferableOutput (o : TransferableOutput) : Type 0 where
  pub asset : Sized 32 o.asset
  pub output : GoodOutput (secp_transfer ∷ []) o.output

-- ---- inputs

-- address indices strictly increase
pub record GoodIndices (l : List ℕ) : Type 0 where
  pub count : length l < 2 ^ 32
  pub widths : All (λ n. n < 2 ^ 32) l
  pub order : Ascending l

-- a transaction id and an output index
pub record GoodKey (id : List ℕ) (index : ℕ) : Type 0 where
  pub id-good : Sized 32 id
  pub index-width : index < 2 ^ 32

-- inputs strictly increase by (id, index), which is said of their list: in byte order, keys compare by id, then by index (`key-order`, of proofs/Good)
pub record GoodInput (i : Input) : Type 0 where
  pub key : GoodKey i.txid i.index
  pub asset : Sized 32 i.asset
  pub amount : GoodAmount i.amount
  pub indices : GoodIndices i.indices

abbrev pub input_key : Input → List ℕ
input_key i = key_bytes i.txid i.index

-- ---- operations

-- type 12 has a list of owners, in any order and perhaps empty; type 13 has owners
pub record GoodRecipients (l : List Owners) : Type 0 where
  pub count : length l < 2 ^ 32
  pub each : All GoodOwners l

abbrev pub GoodOperationOwners : (k : OperationType) → OperationOwners k → Type 0
GoodOperationOwners mint_nft l = GoodRecipients l
GoodOperationOwners transfer_nft o = GoodOwners o

pub record GoodTerms (indices : List ℕ) (group : ℕ) (payload : List ℕ) : Type 0 where
  pub indices-good : GoodIndices indices
  pub group-width : group < 2 ^ 32
  pub payload-good : GoodString 1024 payload

-- (id, index) pairs strictly increase
pub record GoodOperation (v : Operation) : Type 0 where
  pub asset : Sized 32 v.asset
  pub count : length v.outputs < 2 ^ 32
  pub outputs : All (λ (id, index). GoodKey id index) v.outputs
  pub order : Increasing (map (λ (id, index). key_bytes id index) v.outputs)
  pub terms : GoodTerms v.terms.0 v.terms.1.0 v.terms.1.1
  pub owners : GoodOperationOwners v.owners.0 v.owners.1

-- ---- initial states

-- outputs 6 and 7 under FxID 0, 10 and 11 under FxID 1
abbrev pub outputs_under : Fx → List OutputType
outputs_under secp_fx = secp_mint ∷ secp_transfer ∷ []
outputs_under nft_fx = nft_mint ∷ nft_transfer ∷ []

-- outputs do not decrease as byte strings; that FxIDs strictly increase is said of the list of states
pub record GoodInitialState (v : InitialState) : Type 0 where
  pub count : length v.outputs < 2 ^ 32
  pub outputs : All (GoodOutput (outputs_under v.fx)) v.outputs
  pub order : Nondecreasing (map output_bytes v.outputs)
