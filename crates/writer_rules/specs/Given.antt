-- What a step of the writer is given: the bytes that it would add. Assumes nothing.
use Rattle.std.specs.Prelude.{ℕ, zero, suc, ◌/◌, ◌%◌, Bool, true, List, [], ◌∷◌, ◌++◌, length, take, drop, eqb}
use Rattle.wire.specs.Bytes.{digits}
use Rattle.owners.specs.Owners.{address_width}
use Rattle.element.specs.Outputs.{secp_transfer, TransferableOutput, transferable_output}
use Rattle.element.specs.Inputs.{Input, input}

-- the bytes that a step would add, and whether they are whole: a slice of addresses whose length is not a multiple of 20 is cut short
pub record Given : Type 0 where
  pub whole : Bool
  pub bytes : List ℕ

abbrev pub given : List ℕ → Given
given ys = record { whole = true; bytes = ys }

-- ---- built from fields, by the format's own `write`

-- codec, type, network and chain id
abbrev pub head_bytes : ℕ → ℕ → List ℕ → List ℕ
head_bytes type_id network chain = digits 2 0 ++ (digits 4 type_id ++ (digits 4 network ++ chain))

-- the first n addresses of s, one after the other
unfoldable pub addresses_of : ℕ → List ℕ → List (List ℕ)
addresses_of zero s = []
addresses_of (suc n) s = take address_width s ∷ addresses_of n (drop address_width s)

abbrev pub output_of : List ℕ → ℕ → ℕ → ℕ → List ℕ → TransferableOutput
output_of asset amount locktime threshold addresses =
    record {
      asset = asset;
      output = (
        secp_transfer,
        (amount, record { locktime = locktime; threshold = threshold; addresses = addresses_of (length addresses / address_width) addresses }),
      );
    }

-- a slice of addresses whose length is not a multiple of 20 is cut short
abbrev pub output_given : List ℕ → ℕ → ℕ → ℕ → List ℕ → Given
output_given asset amount locktime threshold addresses =
    record { whole = eqb (length addresses % address_width) 0; bytes = transferable_output.write (output_of asset amount locktime threshold addresses) }

abbrev pub input_of : List ℕ → ℕ → List ℕ → ℕ → List ℕ → Input
input_of txid index asset amount indices = record { txid = txid; index = index; asset = asset; amount = amount; indices = indices }

abbrev pub input_given : List ℕ → ℕ → List ℕ → ℕ → List ℕ → Given
input_given txid index asset amount indices = given ((input []).write (input_of txid index asset amount indices))
