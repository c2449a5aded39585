-- Outputs of the four types, and transferable outputs, which start with an asset id. Assumes nothing.
use Rattle.std.specs.Prelude.{◌≡◌, refl, ℕ, ◌+◌, List, [], ◌∷◌, length, ltb, eqb}
use Rattle.wire.specs.Bytes.{pick}
use Rattle.wire.specs.Numbers.{zero_amount, unknown_type}
use Rattle.wire.specs.Format.{Format}
use Rattle.wire.specs.Fields.{integer, blob}
use Rattle.wire.specs.Sequence.{and_then, guard, named, tag}
use Rattle.string.specs.Strings.{payload}
use Rattle.owners.specs.Owners.{Owners, owners, owners_fields}
use Rattle.element.specs.declared.OutputFields.{OutputFields}
use Rattle.element.specs.declared.OutputFields.TheVariants as O

unfoldable pub amount : Format ℕ
unfolding guard
amount = guard (integer 8) (λ n. ltb 0 n) zero_amount

pub data OutputType : Type 0 where
  secp_mint secp_transfer nft_mint nft_transfer : OutputType

abbrev pub output_code : OutputType → ℕ
output_code secp_mint = 6
output_code secp_transfer = 7
output_code nft_mint = 10
output_code nft_transfer = 11

abbrev pub output_type : ℕ → OutputType
output_type n = pick (eqb n 6) secp_mint (pick (eqb n 7) secp_transfer (pick (eqb n 10) nft_mint nft_transfer))

pub output_type-code : (k : OutputType) → output_type (output_code k) ≡ k
output_type-code secp_mint = refl
output_type-code secp_transfer = refl
output_type-code nft_mint = refl
output_type-code nft_transfer = refl

-- what follows the type: owners; amount and owners; group and owners; group, payload and owners
abbrev pub OutputBody : OutputType → Type 0
OutputBody secp_mint = Owners
OutputBody secp_transfer = ℕ × Owners
OutputBody nft_mint = ℕ × Owners
OutputBody nft_transfer = ℕ × (List ℕ × Owners)

unfoldable pub transfer_body : Format (ℕ × Owners)
unfolding and_then amount
transfer_body = and_then amount (λ n. owners)

abbrev pub output_body : (k : OutputType) → Format (OutputBody k)
output_body secp_mint = owners
output_body secp_transfer = transfer_body
output_body nft_mint = and_then (integer 4) (λ group. owners)
output_body nft_transfer = and_then (integer 4) (λ group. and_then payload (λ p. owners))

abbrev pub Output : Type 0
Output = (k : OutputType) × OutputBody k

-- an output of one of the types listed
unfoldable pub output : List OutputType → Format Output
unfolding and_then tag
output types = and_then (tag output_code output_type output_type-code (integer 4) types unknown_type) output_body

-- ---- an output after its asset id; base and exported outputs have type 7 only

pub record TransferableOutput : Type 0 where
  pub asset : List ℕ
  pub output : Output

unfoldable pub transferable_output : Format TransferableOutput
unfolding named and_then output
transferable_output =
    named (and_then (blob 32) (λ asset. output (secp_transfer ∷ [])))
    (λ (asset, out). record { asset = asset; output = out })
    (λ o. (o.asset, o.output))
    (λ v h. refl)
    (λ o. refl)

-- ---- the typed fields of an output whose type starts at `at` and that ends at `end`

abbrev pub output_fields : ℕ → ℕ → Output → OutputFields
output_fields at end (secp_mint, o) = O.SecpMint (owners_fields end o)
output_fields at end (secp_transfer, (n, o)) = O.SecpTransfer n (owners_fields end o)
output_fields at end (nft_mint, (g, o)) = O.NftMint g (owners_fields end o)
output_fields at end (nft_transfer, (g, (p, o))) = O.NftTransfer g (at + 12) (length p) (owners_fields end o)
