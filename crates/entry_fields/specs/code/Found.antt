-- The typed fields of an element at an offset, found by their offsets alone. If an element was read there, they are its fields (proofs/Finding).
-- Assumes nothing.
use Rattle.element.specs.declared.InputFields.{InputFields}
use Rattle.std.specs.Prelude.{ℕ, ◌*◌, List, eqb, Some, None, Option}
use Rattle.wire.specs.Bytes.{pick}
use Rattle.wire.specs.Fields.{integer, blob}
use Rattle.owners.specs.declared.OwnersFields.{OwnersFields}
use Rattle.element.specs.declared.OutputFields.{OutputFields}
use Rattle.element.specs.declared.OutputFields.TheVariants as F
use Rattle.element.specs.declared.TermsFields.{TermsFields}
use Rattle.element.specs.declared.OperationFields.{OperationFields}
use Rattle.element.specs.declared.Recipients.{Recipients}
use Rattle.element.specs.declared.Recipients.TheVariants as Q

abbrev pub owners_found : List ℕ → ℕ → Option OwnersFields
owners_found s at =
    (integer 8).parse s at (λ e. None) λ locktime t.
    (integer 4).parse s t (λ e. None) λ threshold n.
    (integer 4).parse s n (λ e. None) λ count first.
    Some record { locktime = locktime; threshold = threshold; addresses_at = first; addresses_count = count }

-- ---- outputs: what follows the type, then the output with its type

abbrev pub output_of : Option OwnersFields → (OwnersFields → OutputFields) → Option OutputFields
output_of (Some o) make = Some (make o)
output_of None make = None

abbrev pub mint_found : List ℕ → ℕ → Option OutputFields
mint_found s at = output_of (owners_found s at) F.SecpMint

abbrev pub transfer_found : List ℕ → ℕ → Option OutputFields
transfer_found s at = (integer 8).parse s at (λ e. None) λ amount o. output_of (owners_found s o) (F.SecpTransfer amount)

abbrev pub nft_mint_found : List ℕ → ℕ → Option OutputFields
nft_mint_found s at = (integer 4).parse s at (λ e. None) λ group o. output_of (owners_found s o) (F.NftMint group)

abbrev pub nft_transfer_found : List ℕ → ℕ → Option OutputFields
nft_transfer_found s at =
    (integer 4).parse s at (λ e. None) λ group p.
    (integer 4).parse s p (λ e. None) λ length first.
    (blob length).parse s first (λ e. None) λ payload o.
    output_of (owners_found s o) (F.NftTransfer group first length)

abbrev pub body_found : ℕ → List ℕ → ℕ → Option OutputFields
body_found type s at = pick (eqb type 6) (mint_found s at)
    (pick (eqb type 7) (transfer_found s at) (pick (eqb type 10) (nft_mint_found s at) (nft_transfer_found s at)))

abbrev pub output_found : List ℕ → ℕ → Option OutputFields
output_found s at = (integer 4).parse s at (λ e. None) λ type b. body_found type s b

-- ---- inputs

abbrev pub input_found : List ℕ → ℕ → Option InputFields
input_found s at =
    (blob 32).parse s at (λ e. None) λ txid i.
    (integer 4).parse s i (λ e. None) λ index a.
    (blob 32).parse s a (λ e. None) λ asset k.
    (integer 4).parse s k (λ e. None) λ type m.
    (integer 8).parse s m (λ e. None) λ amount n.
    (integer 4).parse s n (λ e. None) λ count first.
    Some record { index = index; amount = amount; indices_at = first; indices_count = count }

-- ---- operations: terms, recipients, then the whole operation

abbrev pub terms_found : List ℕ → ℕ → Option (TermsFields × ℕ)
terms_found s at =
    (integer 4).parse s at (λ e. None) λ count first.
    (blob (4 * count)).parse s first (λ e. None) λ list g.
    (integer 4).parse s g (λ e. None) λ group p.
    (integer 4).parse s p (λ e. None) λ length begin.
    (blob length).parse s begin (λ e. None) λ payload next.
    Some (record { indices_at = first; indices_count = count; group = group; payload_at = begin; payload_length = length }, next)

abbrev pub transfer_to : Option OwnersFields → Option Recipients
transfer_to (Some o) = Some (Q.Transfer o)
transfer_to None = None

abbrev pub recipients_found : ℕ → List ℕ → ℕ → Option Recipients
recipients_found type s at =
    pick (eqb type 12) ((integer 4).parse s at (λ e. None) λ count first. Some (Q.Mint first count)) (transfer_to (owners_found s at))

abbrev pub on_terms : Option (TermsFields × ℕ) → (TermsFields → ℕ → Option OperationFields) → Option OperationFields
on_terms (Some (t, n)) go = go t n
on_terms None go = None

abbrev pub on_recipients : Option Recipients → (Recipients → OperationFields) → Option OperationFields
on_recipients (Some r) make = Some (make r)
on_recipients None make = None

-- an operation whose pairs start at the offset `place`
abbrev pub operation_of : ℕ → ℕ → TermsFields → Recipients → OperationFields
operation_of place count t r = record { outputs_at = place; outputs_count = count; terms = t; recipients = r }

abbrev pub action_found : ℕ → ℕ → List ℕ → ℕ → Option OperationFields
action_found place count s at =
    (integer 4).parse s at (λ e. None) λ type i.
    on_terms (terms_found s i) λ t o.
    on_recipients (recipients_found type s o) (operation_of place count t)

abbrev pub operation_found : List ℕ → ℕ → Option OperationFields
operation_found s at =
    (blob 32).parse s at (λ e. None) λ asset p.
    (integer 4).parse s p (λ e. None) λ count first.
    (blob (36 * count)).parse s first (λ e. None) λ pairs t.
    action_found first count s t
