-- The bytes of a signed transaction, field after field in the order of document 01's "Layout". Nothing here depends on a format: proofs/Writing shows
-- that the signed format writes exactly these bytes. Assumes nothing.
use Rattle.std.specs.Prelude.{ℕ, List, [], ◌∷◌, ◌++◌, length, take, drop}
use Rattle.element.specs.PlainBytes.{u8, u16, u32, joined, list_bytes, string_bytes, text_bytes, transferable_output_bytes, input_bytes, operation_bytes}
use Rattle.element.specs.PlainBytes.{initial_state_bytes}
use Rattle.transaction.specs.Credentials.{CredentialType, secp_credential, nft_credential, Want}
use Rattle.transaction.specs.Transaction.{Base, Own, plain, create_asset, operate, import_from, export_to, Transaction, credentials_of}

-- ---- the unsigned part

abbrev pub plain_type_id : Own → ℕ
plain_type_id plain = 0
plain_type_id (create_asset name symbol denomination states) = 1
plain_type_id (operate operations) = 2
plain_type_id (import_from chain inputs) = 3
plain_type_id (export_to chain outputs) = 4

-- what follows the memo, by type
unfoldable pub own_bytes : Own → List ℕ
own_bytes plain = []
own_bytes (create_asset name symbol denomination states) = text_bytes name ++ text_bytes symbol ++ u8 denomination ++ list_bytes initial_state_bytes states
own_bytes (operate operations) = list_bytes operation_bytes operations
own_bytes (import_from chain inputs) = chain ++ list_bytes input_bytes inputs
own_bytes (export_to chain outputs) = chain ++ list_bytes transferable_output_bytes outputs

-- network, chain id, outputs, inputs, memo
unfoldable pub base_bytes : Base → List ℕ
base_bytes b =
    u32 b.network ++ b.chain ++ list_bytes transferable_output_bytes b.outputs ++ list_bytes input_bytes b.inputs ++ string_bytes b.memo

-- ---- the credentials

-- type 9 for an input or an imported input, 14 for an operation
abbrev pub plain_credential_type : CredentialType → ℕ
plain_credential_type secp_credential = 9
plain_credential_type nft_credential = 14

-- for each credential: its type, its number of signatures, and that many signatures from the front of the list
unfoldable pub credential_bytes : List Want → List (List ℕ) → List ℕ
credential_bytes [] signatures = []
credential_bytes (w ∷ ws) signatures =
    u32 (plain_credential_type w.type) ++ u32 w.signatures ++ joined (λ signature. signature) (take w.signatures signatures)
    ++ credential_bytes ws (drop w.signatures signatures)

-- ---- the whole: codec 0, type, base part, own part, credentials

unfoldable pub bytes_of : Transaction → List ℕ
bytes_of t =
    u16 0 ++ u32 (plain_type_id t.own) ++ base_bytes t.base ++ own_bytes t.own
    ++ u32 (length (credentials_of t)) ++ credential_bytes (credentials_of t) t.signatures
