-- The signed format writes the bytes of specs/PlainBytes. Each law holds of every value, good or not. Assumes nothing.
use mathlib.Core.Path.{◌≡◌, refl, ap, ◌∙◌}
use Prim.Native.Nat.{ℕ, zero, suc}
use mathlib.Core.List.{List, [], ◌∷◌, ◌++◌, append-nil, append_assoc}
use lib.ListN.{length, take, drop}
use Rattle.wire.specs.Fields.{integer, blob, constant}
use Rattle.wire.specs.Sequence.{guard, tag, items}
use Rattle.wire.specs.Format.{Format}
use Rattle.wire.specs.Series.{not_below}
use Rattle.element.specs.PlainBytes.{u16, u32, joined, list_bytes, transferable_output_bytes, input_bytes, operation_bytes, initial_state_bytes}
use Rattle.element.proofs.Writing.{joined-write, string_bytes_lem, text-bytes, denomination-bytes, transferable_output-bytes, input-bytes, operation-bytes}
use Rattle.element.proofs.Writing.{initial_state-bytes}
use Rattle.transaction.specs.Credentials.{CredentialType, secp_credential, nft_credential, credential_code, Want, Piece, signatures, each, pieces}
use Rattle.transaction.specs.Credentials.{credentials}
use Rattle.element.specs.Outputs.{TransferableOutput, transferable_output}
use Rattle.element.specs.Inputs.{Input, input}
use Rattle.element.specs.Operations.{operation, initial_state}
use Rattle.transaction.specs.Plan.{own_plan, type_id}
use Rattle.transaction.specs.Form.{at_least, form}
use Rattle.transaction.specs.Avm.{avm}
use Rattle.transaction.specs.Family.{Head, head, unsigned, wants, signed}
use Rattle.transaction.specs.Signed as AnySigned
use Rattle.transaction.specs.Transaction.{Own, plain, create_asset, operate, import_from, export_to, Transaction, credentials_of}
use Rattle.transaction.specs.PlainBytes.{plain_type_id, own_bytes, base_bytes, plain_credential_type, credential_bytes, bytes_of}
use Rattle.transaction.specs.Accepted.{own_type, own_value, value_of}
use Rattle.transaction.specs.declared.TransactionType.{TransactionType}
use Rattle.transaction.proofs.Good.{reading-value, wants-credentials}

-- ---- lists

list-bytes : {A : Type 0} (least : ℕ) (E : List ℕ → Format A) (f : A → List ℕ) → ((prev : List ℕ) (a : A) → (E prev).write a ≡ f a)
    → (l : List A) → (at_least least E).write l ≡ list_bytes f l
unfolding at_least items integer
list-bytes least E f same l = ap (λ (z : List ℕ). u32 (length l) ++ z) (joined-write E f same [] l)

-- ---- the credentials

none-bytes : (ps : List Piece) (n : ℕ) → (pieces (signatures n ps)).write [] ≡ (pieces ps).write []
unfolding pieces signatures
none-bytes ps zero = refl
none-bytes ps (suc n) = none-bytes ps n

signatures-bytes : (ps : List Piece) (n : ℕ) (l : List (List ℕ))
    → (pieces (signatures n ps)).write l ≡ joined (λ signature. signature) (take n l) ++ (pieces ps).write (drop n l)
unfolding pieces signatures joined
signatures-bytes ps zero l = refl
signatures-bytes ps (suc n) [] = none-bytes ps (suc n)
signatures-bytes ps (suc n) (b ∷ l) = simp (signatures-bytes ps n l, append_assoc)

plain-credential-type : (k : CredentialType) → credential_code k ≡ plain_credential_type k
plain-credential-type secp_credential = refl
plain-credential-type nft_credential = refl

each-bytes : (ws : List Want) (l : List (List ℕ)) → (pieces (each ws)).write l ≡ credential_bytes ws l
unfolding pieces each credential_bytes integer
each-bytes [] l = refl
each-bytes (w ∷ ws) l = simp
    (signatures-bytes (each ws) w.signatures l, each-bytes ws (drop w.signatures l), plain-credential-type w.type, append_assoc)

credentials-bytes : (ws : List Want) (l : List (List ℕ)) → (credentials ws).write l ≡ u32 (length ws) ++ credential_bytes ws l
unfolding credentials pieces integer
credentials-bytes ws l = simp (each-bytes ws l)

-- ---- the fields that each type has of its own

plain-type-id : (o : Own) → type_id (own_type o) ≡ plain_type_id o
plain-type-id plain = refl
plain-type-id (create_asset name symbol denomination list) = refl
plain-type-id (operate list) = refl
plain-type-id (import_from chain list) = refl
plain-type-id (export_to chain list) = refl

outputs-bytes : (least : ℕ) (l : List TransferableOutput) → (at_least least (not_below transferable_output)).write l ≡ list_bytes transferable_output_bytes l
unfolding guard
outputs-bytes least = list-bytes least (not_below transferable_output) transferable_output_bytes (λ prev. transferable_output-bytes)

inputs-bytes : (least : ℕ) (l : List Input) → (at_least least input).write l ≡ list_bytes input_bytes l
inputs-bytes least = list-bytes least input input_bytes input-bytes

own-bytes : (most : ℕ) (o : Own) → (form most (own_plan (own_type o))).write (own_value o) ≡ own_bytes o
unfolding form own_value own_bytes blob
own-bytes most plain = refl
own-bytes most (create_asset name symbol denomination list) =
    simp (
      text-bytes 128 name,
      text-bytes 4 symbol,
      denomination-bytes denomination,
      list-bytes 1 initial_state initial_state_bytes initial_state-bytes list,
      append-nil,
      append_assoc,
    )
own-bytes most (operate list) = simp (list-bytes 1 (λ prev. operation) operation_bytes (λ prev. operation-bytes) list, append-nil)
own-bytes most (import_from chain list) = simp (inputs-bytes 1 list, append-nil)
own-bytes most (export_to chain list) = simp (outputs-bytes 1 list, append-nil)

-- ---- the whole

wants-value : (most : ℕ) (t : Transaction) → wants (avm most) (value_of most t).0 ≡ credentials_of t
wants-value most t = wants-credentials most (value_of most t) ∙ ap credentials_of (reading-value most t)

head_bytes : (most : ℕ) (h : Head TransactionType) → (head (avm most)).write h ≡ u16 0 ++ u32 (type_id h.type) ++ u32 h.network ++ h.chain
unfolding head tag constant guard integer blob
head_bytes most h = simp append_assoc

unsigned_bytes : (most : ℕ) (t : Transaction)
    → (unsigned (avm most)).write (value_of most t).0 ≡ u16 0 ++ u32 (plain_type_id t.own) ++ base_bytes t.base ++ own_bytes t.own
unfolding unsigned form value_of base_bytes
unsigned_bytes most t =
    let b = t.base in
    simp (
      head_bytes most (record { type = own_type t.own; network = b.network; chain = b.chain }),
      plain-type-id t.own,
      outputs-bytes 0 b.outputs,
      inputs-bytes 0 b.inputs,
      string_bytes_lem most b.memo,
      own-bytes most t.own,
      append_assoc,
    )

pub transaction-bytes : (most : ℕ) (t : Transaction) → (signed (avm most)).write (value_of most t) ≡ bytes_of t
unfolding AnySigned.signed bytes_of value_of
transaction-bytes most t =
    simp (unsigned_bytes most t, wants-value most t, credentials-bytes (credentials_of t) (value_of most t).1, append_assoc)
