-- Operations, and the initial states of an asset. Assumes nothing.
use Rattle.std.specs.Prelude.{◌≡◌, refl, ℕ, ◌+◌, ◌-◌, ◌*◌, List, [], ◌∷◌, length, take, eqb}
use Rattle.wire.specs.Bytes.{pick}
use Rattle.wire.specs.Numbers.{unknown_type}
use Rattle.wire.specs.Format.{Format}
use Rattle.wire.specs.Fields.{integer, blob}
use Rattle.wire.specs.Sequence.{and_then, named, tag}
use Rattle.wire.specs.Series.{above, not_below, count_prefixed}
use Rattle.string.specs.Strings.{payload}
use Rattle.owners.specs.Owners.{Owners, owners, owners_fields}
use Rattle.element.specs.Outputs.{OutputType, secp_mint, secp_transfer, nft_mint, nft_transfer, Output, output}
use Rattle.element.specs.Inputs.{key, key_width, indices}
use Rattle.element.specs.declared.OperationFields.{OperationFields}
use Rattle.element.specs.declared.TermsFields.{TermsFields}
use Rattle.element.specs.declared.Recipients.{Recipients}
use Rattle.element.specs.declared.Recipients.TheVariants as R

-- ---- operations: NFT mint (12) and NFT transfer (13)

pub data OperationType : Type 0 where
  mint_nft transfer_nft : OperationType

abbrev pub operation_code : OperationType → ℕ
operation_code mint_nft = 12
operation_code transfer_nft = 13

abbrev pub operation_type : ℕ → OperationType
operation_type n = pick (eqb n 12) mint_nft transfer_nft

pub operation_type-code : (k : OperationType) → operation_type (operation_code k) ≡ k
operation_type-code mint_nft = refl
operation_type-code transfer_nft = refl

-- a mint has a list of owners, in any order; a transfer has owners
abbrev pub OperationOwners : OperationType → Type 0
OperationOwners mint_nft = List Owners
OperationOwners transfer_nft = Owners

abbrev pub operation_owners : (k : OperationType) → Format (OperationOwners k)
operation_owners mint_nft = count_prefixed (integer 4) (λ prev. owners)
operation_owners transfer_nft = owners

-- address indices, group, payload
unfoldable pub terms : Format (List ℕ × (ℕ × List ℕ))
unfolding and_then indices
terms = and_then indices (λ list. and_then (integer 4) (λ group. payload))

-- type, terms, and the recipients of that type
unfoldable pub action : Format ((k : OperationType) × ((List ℕ × (ℕ × List ℕ)) × OperationOwners k))
unfolding and_then count_prefixed
action =
    and_then (tag operation_code operation_type operation_type-code (integer 4) (mint_nft ∷ transfer_nft ∷ []) unknown_type) (λ k.
    and_then terms (λ v. operation_owners k))

pub record Operation : Type 0 where
  pub asset : List ℕ
  pub outputs : List (List ℕ × ℕ)
  pub terms : List ℕ × (ℕ × List ℕ)
  pub owners : (k : OperationType) × OperationOwners k

-- asset id, the consumed outputs as (id, index) pairs, and the action
unfoldable pub operation : Format Operation
unfolding named and_then count_prefixed
operation =
    named
    (and_then (blob 32) (λ asset.
    and_then (count_prefixed (integer 4) (above key)) (λ pairs. action)))
    (λ (asset, (pairs, (k, (v, o)))). record { asset = asset; outputs = pairs; terms = v; owners = (k, o) })
    (λ v. (v.asset, (v.outputs, (v.owners.0, (v.terms, v.owners.1)))))
    (λ v h. refl)
    (λ v. refl)

-- ---- initial states: FxIDs strictly increase; FxID 0 has outputs 6 and 7, FxID 1 has 10 and 11

pub data Fx : Type 0 where
  secp_fx nft_fx : Fx

abbrev pub fx_code : Fx → ℕ
fx_code secp_fx = 0
fx_code nft_fx = 1

abbrev pub fx_of : ℕ → Fx
fx_of n = pick (eqb n 0) secp_fx nft_fx

pub fx_of-code : (k : Fx) → fx_of (fx_code k) ≡ k
fx_of-code secp_fx = refl
fx_of-code nft_fx = refl

abbrev pub fx_outputs : Fx → List OutputType
fx_outputs secp_fx = secp_mint ∷ secp_transfer ∷ []
fx_outputs nft_fx = nft_mint ∷ nft_transfer ∷ []

unfoldable pub fx_id : Format Fx
unfolding tag
fx_id = tag fx_code fx_of fx_of-code (integer 4) (secp_fx ∷ nft_fx ∷ []) unknown_type

pub record InitialState : Type 0 where
  pub fx : Fx
  pub outputs : List Output

-- outputs of the types that an FxID allows, none below the one before
unfoldable pub state_outputs : Fx → Format (List Output)
unfolding count_prefixed
state_outputs k = count_prefixed (integer 4) (not_below (output (fx_outputs k)))

-- an initial state whose FxID is strictly above the bytes `before`
unfoldable pub initial_state_after : List ℕ → Format InitialState
unfolding named and_then
initial_state_after before =
    named (and_then (above fx_id before) state_outputs)
    (λ (k, list). record { fx = k; outputs = list })
    (λ v. (v.fx, v.outputs))
    (λ v h. refl)
    (λ v. refl)

-- `prev` is the bytes of the initial state before, or [] for the first
abbrev pub initial_state : List ℕ → Format InitialState
initial_state prev = initial_state_after (take 4 prev)

-- ---- the typed fields of an operation that starts at `at` and ends at `end`

abbrev pub terms_fields : ℕ → ℕ → List ℕ × (ℕ × List ℕ) → TermsFields
terms_fields at end (list, (group, p)) =
    record {
      indices_at = at + 4;
      indices_count = length list;
      group = group;
      payload_at = end - length p;
      payload_length = length p;
    }

-- the owners of a mint start at `first`, just past their count
abbrev pub recipients : ℕ → ℕ → (k : OperationType) × OperationOwners k → Recipients
recipients first end (mint_nft, l) = R.Mint first (length l)
recipients first end (transfer_nft, o) = R.Transfer (owners_fields end o)

abbrev pub operation_fields : ℕ → ℕ → Operation → OperationFields
operation_fields at end v =
    let first = at + 36 + key_width * length v.outputs + 4 in
    let next = first + length (terms.write v.terms) in
    record {
      outputs_at = at + 36;
      outputs_count = length v.outputs;
      terms = terms_fields first next v.terms;
      recipients = recipients (next + 4) end v.owners;
    }
