-- The bytes of a transaction's elements, field after field in the order of document 01's "Layout". Nothing here depends on a format: proofs/Writing
-- shows that the formats write exactly these bytes. Assumes nothing.
use Rattle.std.specs.Prelude.{ℕ, List, [], ◌∷◌, ◌++◌, length}
use Rattle.wire.specs.Bytes.{digits}
use Rattle.owners.specs.Owners.{Owners}
use Rattle.element.specs.Outputs.{secp_mint, secp_transfer, nft_mint, nft_transfer, Output, TransferableOutput}
use Rattle.element.specs.Inputs.{Input}
use Rattle.element.specs.Operations.{OperationType, mint_nft, transfer_nft, OperationOwners, Operation, Fx, secp_fx, nft_fx, InitialState}

-- ---- integers are big-endian

abbrev pub u8 : ℕ → List ℕ
u8 = digits 1

abbrev pub u16 : ℕ → List ℕ
u16 = digits 2

abbrev pub u32 : ℕ → List ℕ
u32 = digits 4

abbrev pub u64 : ℕ → List ℕ
u64 = digits 8

-- ---- lists and strings

-- the bytes of the elements, one after another
unfoldable pub joined : {A : Type 0} → (A → List ℕ) → List A → List ℕ
joined f [] = []
joined f (a ∷ l) = f a ++ joined f l

-- a count, then the elements
abbrev pub list_bytes : {A : Type 0} → (A → List ℕ) → List A → List ℕ
list_bytes f l = u32 (length l) ++ joined f l

-- a memo or a payload, after its length in 32 bits
abbrev pub string_bytes : List ℕ → List ℕ
string_bytes b = u32 (length b) ++ b

-- a name or a symbol, after its length in 16 bits
abbrev pub text_bytes : List ℕ → List ℕ
text_bytes b = u16 (length b) ++ b

-- ---- owners: locktime, threshold, addresses

unfoldable pub owners_bytes : Owners → List ℕ
owners_bytes o = u64 o.locktime ++ u32 o.threshold ++ list_bytes (λ address. address) o.addresses

-- ---- outputs

unfoldable pub output_bytes : Output → List ℕ
output_bytes (secp_mint, owners) = u32 6 ++ owners_bytes owners
output_bytes (secp_transfer, (amount, owners)) = u32 7 ++ u64 amount ++ owners_bytes owners
output_bytes (nft_mint, (group, owners)) = u32 10 ++ u32 group ++ owners_bytes owners
output_bytes (nft_transfer, (group, (payload, owners))) = u32 11 ++ u32 group ++ string_bytes payload ++ owners_bytes owners

-- asset id, then output
unfoldable pub transferable_output_bytes : TransferableOutput → List ℕ
transferable_output_bytes o = o.asset ++ output_bytes o.output

-- ---- inputs

-- a transaction id and an output index
abbrev pub key_bytes : List ℕ → ℕ → List ℕ
key_bytes id index = id ++ u32 index

-- transaction id, output index, asset id, type 5, amount, address indices
unfoldable pub input_bytes : Input → List ℕ
input_bytes i = i.txid ++ u32 i.index ++ i.asset ++ u32 5 ++ u64 i.amount ++ list_bytes u32 i.indices

-- ---- operations

-- address indices, group, payload
unfoldable pub terms_bytes : List ℕ × (ℕ × List ℕ) → List ℕ
terms_bytes (indices, (group, payload)) = list_bytes u32 indices ++ u32 group ++ string_bytes payload

-- type 12 ends in a list of owners, type 13 in owners
unfoldable pub action_bytes : List ℕ × (ℕ × List ℕ) → (k : OperationType) × OperationOwners k → List ℕ
action_bytes terms (mint_nft, list) = u32 12 ++ terms_bytes terms ++ list_bytes owners_bytes list
action_bytes terms (transfer_nft, owners) = u32 13 ++ terms_bytes terms ++ owners_bytes owners

-- asset id, the consumed outputs, and the action
unfoldable pub operation_bytes : Operation → List ℕ
operation_bytes v = v.asset ++ list_bytes (λ (id, index). key_bytes id index) v.outputs ++ action_bytes v.terms v.owners

-- ---- initial states

abbrev pub plain_fx_id : Fx → ℕ
plain_fx_id secp_fx = 0
plain_fx_id nft_fx = 1

-- FxID, then outputs
unfoldable pub initial_state_bytes : InitialState → List ℕ
initial_state_bytes v = u32 (plain_fx_id v.fx) ++ list_bytes output_bytes v.outputs
