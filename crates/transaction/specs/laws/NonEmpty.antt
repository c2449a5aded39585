-- Every element is non-empty: it starts with a field of fixed width
use Rattle.std.specs.Prelude.{◌≡◌, ℕ, suc, ◌<◌, List, ◌++◌, length}
use Rattle.std.proofs.Common.{arith, length-append}
use Rattle.wire.specs.Fields.{integer, blob}
use Rattle.wire.specs.laws.Sizes.{length-integer}
use Rattle.wire.specs.Sequence.{guard}
use Rattle.wire.specs.Series.{not_below}
use Rattle.element.specs.Outputs.{TransferableOutput, transferable_output}
use Rattle.element.specs.Inputs.{Input, key, input_after, input}
use Rattle.element.specs.Operations.{Operation, operation, InitialState, fx_code, fx_id, initial_state_after, initial_state}

longer : (a b : List ℕ) (n : ℕ) → length a ≡ suc n → 0 < length (a ++ b)
longer a b n h = omega (arith, length-append a b)

pub output-non_empty : (prev : List ℕ) (v : TransferableOutput) → (not_below transferable_output prev).Good v
    → 0 < length ((not_below transferable_output prev).write v)
unfolding guard transferable_output blob
output-non_empty prev v h = longer v.asset _ 31 h.0.0.0

pub input-non_empty : (prev : List ℕ) (v : Input) → (input prev).Good v → 0 < length ((input prev).write v)
unfolding input_after guard key blob
input-non_empty prev v h = longer (v.txid ++ (integer 4).write v.index) _ 35
    (omega (arith, h.0.0.0.0, length-append v.txid ((integer 4).write v.index), length-integer 4 v.index))

pub operation-non_empty : (prev : List ℕ) (v : Operation) → operation.Good v → 0 < length (operation.write v)
unfolding operation blob
operation-non_empty prev v h = longer v.asset _ 31 h.0.0

pub state-non_empty : (prev : List ℕ) (v : InitialState) → (initial_state prev).Good v → 0 < length ((initial_state prev).write v)
unfolding initial_state_after guard fx_id
state-non_empty prev v h = longer ((integer 4).write (fx_code v.fx)) _ 3 (length-integer 4 (fx_code v.fx))
