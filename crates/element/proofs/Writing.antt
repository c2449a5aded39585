-- The formats write the bytes of specs/PlainBytes. Each law holds of every value, good or not. Assumes nothing.
use mathlib.Core.Path.{◌≡◌, refl, ap, ap₂}
use Prim.Native.Nat.{ℕ}
use mathlib.Core.List.{List, [], ◌∷◌, ◌++◌, append_assoc}
use lib.ListN.{length, take}
use Rattle.wire.specs.Format.{Format}
use Rattle.wire.specs.Fields.{integer, blob}
use Rattle.wire.specs.Sequence.{guard, tag, items}
use Rattle.wire.specs.Series.{left, above, not_below, count_prefixed}
use Rattle.wire.specs.Parsers.{list_write}
use Rattle.string.specs.Strings.{string, printable, text, denomination}
use Rattle.owners.specs.Owners.{Owners, owners}
use Rattle.element.specs.Outputs.{OutputType, secp_mint, secp_transfer, nft_mint, nft_transfer, transfer_body, Output, output, TransferableOutput}
use Rattle.element.specs.Outputs.{transferable_output}
use Rattle.element.specs.Inputs.{Input, key, indices, spend, input_after, input}
use Rattle.element.specs.Operations.{OperationType, mint_nft, transfer_nft, OperationOwners, terms, action, Operation, operation, Fx, secp_fx, nft_fx}
use Rattle.element.specs.Operations.{fx_outputs, fx_id, state_outputs, InitialState, initial_state_after, initial_state}
use Rattle.element.specs.PlainBytes.{u8, u32, joined, list_bytes, string_bytes, text_bytes, owners_bytes, output_bytes, transferable_output_bytes, input_bytes}
use Rattle.element.specs.PlainBytes.{key_bytes, terms_bytes, action_bytes, operation_bytes, plain_fx_id, initial_state_bytes}

-- ---- lists: the bytes of an element do not depend on the element before

pub joined-write : {A : Type 0} (E : List ℕ → Format A) (f : A → List ℕ) → ((prev : List ℕ) (a : A) → (E prev).write a ≡ f a)
    → (prev : List ℕ) (l : List A) → list_write E (left E) prev l ≡ joined f l
unfolding list_write joined
joined-write E f same prev [] = refl
joined-write E f same prev (a ∷ l) = ap₂ (λ (x y : List ℕ). x ++ y) (same prev a) (joined-write E f same ((E prev).write a) l)

pub list-write : {A : Type 0} (E : List ℕ → Format A) (f : A → List ℕ) → ((prev : List ℕ) (a : A) → (E prev).write a ≡ f a)
    → (l : List A) → (count_prefixed (integer 4) E).write l ≡ list_bytes f l
unfolding count_prefixed items integer
list-write E f same l = ap (λ (z : List ℕ). u32 (length l) ++ z) (joined-write E f same [] l)

-- ---- strings

pub string_bytes_lem : (most : ℕ) (b : List ℕ) → (string 4 most).write b ≡ string_bytes b
unfolding string integer blob
string_bytes_lem most b = refl

pub text-bytes : (most : ℕ) (b : List ℕ) → (text most).write b ≡ text_bytes b
unfolding text printable integer blob
text-bytes most b = refl

pub denomination-bytes : (n : ℕ) → denomination.write n ≡ u8 n
unfolding denomination integer
denomination-bytes n = refl

-- ---- owners

address-bytes : (prev address : List ℕ) → (above (blob 20) prev).write address ≡ address
unfolding guard blob
address-bytes prev address = refl

pub owners-bytes : (o : Owners) → owners.write o ≡ owners_bytes o
unfolding owners owners_bytes items integer
owners-bytes o =
    simp (joined-write (above (blob 20)) (λ (a : List ℕ). a) address-bytes [] o.addresses, append_assoc)

-- ---- outputs

pub output-bytes : (types : List OutputType) (o : Output) → (output types).write o ≡ output_bytes o
unfolding output output_bytes transfer_body integer
output-bytes types (secp_mint, o) = rw (owners-bytes o) refl
output-bytes types (secp_transfer, (amount, o)) = simp (owners-bytes o, append_assoc)
output-bytes types (nft_mint, (group, o)) = simp (owners-bytes o, append_assoc)
output-bytes types (nft_transfer, (group, (payload, o))) = simp (owners-bytes o, string_bytes_lem 1024 payload, append_assoc)

pub transferable_output-bytes : (o : TransferableOutput) → transferable_output.write o ≡ transferable_output_bytes o
unfolding transferable_output transferable_output_bytes blob
transferable_output-bytes o = ap (λ (z : List ℕ). o.asset ++ z) (output-bytes (secp_transfer ∷ []) o.output)

-- ---- inputs

pub indices-bytes : (l : List ℕ) → indices.write l ≡ list_bytes u32 l
unfolding indices guard integer
indices-bytes l = list-write (above (integer 4)) u32 (λ prev n. refl) l

pub input-bytes : (prev : List ℕ) (i : Input) → (input prev).write i ≡ input_bytes i
unfolding input_after guard key spend input_bytes blob integer
input-bytes prev i = simp (indices-bytes i.indices, append_assoc)

-- ---- operations

pub terms-bytes : (v : List ℕ × (ℕ × List ℕ)) → terms.write v ≡ terms_bytes v
unfolding terms terms_bytes integer
terms-bytes (list, (group, payload)) = simp (indices-bytes list, string_bytes_lem 1024 payload, append_assoc)

pub action-bytes : (v : List ℕ × (ℕ × List ℕ)) (o : (k : OperationType) × OperationOwners k) → action.write (o.0, (v, o.1)) ≡ action_bytes v o
unfolding action action_bytes tag integer
action-bytes v (mint_nft, l) = simp (terms-bytes v, list-write (λ prev. owners) owners_bytes (λ prev. owners-bytes) l, append_assoc)
action-bytes v (transfer_nft, o) = simp (terms-bytes v, owners-bytes o, append_assoc)

pair-bytes : (prev : List ℕ) (k : List ℕ × ℕ) → (above key prev).write k ≡ key_bytes k.0 k.1
unfolding guard key blob integer
pair-bytes prev k = refl

pub operation-bytes : (v : Operation) → operation.write v ≡ operation_bytes v
unfolding operation operation_bytes blob
operation-bytes v = simp (list-write (above key) (λ (id, index). key_bytes id index) pair-bytes v.outputs, action-bytes v.terms v.owners, append_assoc)

-- ---- initial states

fx-bytes : (prev : List ℕ) (k : Fx) → (above fx_id prev).write k ≡ u32 (plain_fx_id k)
unfolding guard fx_id integer
fx-bytes prev secp_fx = refl
fx-bytes prev nft_fx = refl

state_outputs-bytes : (k : Fx) (l : List Output) → (state_outputs k).write l ≡ list_bytes output_bytes l
unfolding state_outputs guard
state_outputs-bytes k l = list-write (not_below (output (fx_outputs k))) output_bytes (λ prev. output-bytes (fx_outputs k)) l

pub initial_state-bytes : (prev : List ℕ) (v : InitialState) → (initial_state prev).write v ≡ initial_state_bytes v
unfolding initial_state_after initial_state_bytes
initial_state-bytes prev v = simp (fx-bytes (take 4 prev) v.fx, state_outputs-bytes v.fx v.outputs)
