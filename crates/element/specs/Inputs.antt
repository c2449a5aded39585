-- Transferable inputs, which strictly increase by transaction id and output index, checked when the index is read. Assumes nothing.
use Rattle.std.specs.Prelude.{refl, ℕ, ◌-◌, ◌*◌, List, length, take}
use Rattle.wire.specs.Numbers.{unknown_type}
use Rattle.wire.specs.Format.{Format}
use Rattle.wire.specs.Fields.{integer, blob, constant}
use Rattle.wire.specs.Sequence.{and_then, named}
use Rattle.wire.specs.Series.{above, count_prefixed}
use Rattle.element.specs.Outputs.{amount}
use Rattle.element.specs.declared.InputFields.{InputFields}

-- a transaction id and an output index
unfoldable pub key : Format (List ℕ × ℕ)
unfolding and_then
key = and_then (blob 32) (λ id. integer 4)

abbrev pub key_width : ℕ
key_width = 36

-- address indices, each strictly above the one before
unfoldable pub indices : Format (List ℕ)
unfolding count_prefixed
indices = count_prefixed (integer 4) (above (integer 4))

pub record Input : Type 0 where
  pub txid : List ℕ
  pub index : ℕ
  pub asset : List ℕ
  pub amount : ℕ
  pub indices : List ℕ

-- what follows an input's key: asset id, type 5, amount, indices
unfoldable pub spend : Format (List ℕ × (Unit {0} × (ℕ × List ℕ)))
unfolding and_then constant amount indices
spend = and_then (blob 32) (λ asset. and_then (constant 4 5 unknown_type) (λ type. and_then amount (λ n. indices)))

-- an input whose key is strictly above the key bytes `before`
unfoldable pub input_after : List ℕ → Format Input
unfolding named and_then
input_after before =
    named (and_then (above key before) (λ k. spend))
    (λ ((txid, index), (asset, (type, (n, list)))). record { txid = txid; index = index; asset = asset; amount = n; indices = list })
    (λ i. ((i.txid, i.index), (i.asset, (tt, (i.amount, i.indices)))))
    (λ v h. refl)
    (λ i. refl)

-- `prev` is the bytes of the input before, or [] for the first input
abbrev pub input : List ℕ → Format Input
input prev = input_after (take key_width prev)

-- the typed fields of an input that ends at `end`
abbrev pub input_fields : ℕ → Input → InputFields
input_fields end i =
    record {
      index = i.index;
      amount = i.amount;
      indices_at = end - 4 * length i.indices;
      indices_count = length i.indices;
    }
