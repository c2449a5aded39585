-- The lengths that document 01 gives under "Layout". Assumes nothing.
use Rattle.std.specs.Prelude.{ℕ, ◌+◌, ◌*◌, ◌≡◌, List, length}
use Rattle.wire.specs.Orders.{All}
use Rattle.owners.specs.Owners.{Owners}
use Rattle.element.specs.Outputs.{secp_mint, secp_transfer, nft_mint, nft_transfer}
use Rattle.element.specs.Inputs.{Input}
use Rattle.element.specs.PlainBytes.{output_bytes, input_bytes}

-- every address has 20 bytes
abbrev pub AddressesOf20 : Owners → Type 0
AddressesOf20 o = All (λ address. length address ≡ 20) o.addresses

-- by how many addresses or indices there are; the first 68 bytes of an input are its transaction id, its index and its asset id
pub record Lengths : Type 0 where
  pub output-7 : (amount : ℕ) (o : Owners) → AddressesOf20 o → length (output_bytes (secp_transfer, (amount, o))) ≡ 28 + 20 * length o.addresses
  pub output-6 : (o : Owners) → AddressesOf20 o → length (output_bytes (secp_mint, o)) ≡ 20 + 20 * length o.addresses
  pub output-10 : (group : ℕ) (o : Owners) → AddressesOf20 o → length (output_bytes (nft_mint, (group, o))) ≡ 24 + 20 * length o.addresses
  pub output-11 : (group : ℕ) (payload : List ℕ) (o : Owners) → AddressesOf20 o
      → length (output_bytes (nft_transfer, (group, (payload, o)))) ≡ 28 + length payload + 20 * length o.addresses
  pub input-after-asset : (i : Input) → length i.txid ≡ 32 → length i.asset ≡ 32
      → length (input_bytes i) ≡ 68 + (16 + 4 * length i.indices)
