-- The formats of a transaction's elements have exactly the values that specs/Good says. Assumes nothing.
use mathlib.Core.Path.{◌≡◌, refl, ap, subst, subst⁻¹}
use mathlib.Core.Logic.Iff
use mathlib.Core.Logic.{◌↔◌, ◌⊎◌, inl, inr}
use Prim.Native.Nat.{ℕ, zero, suc, ◌^◌, ◌≤◌, ◌<◌}
use native.Mathlib.Omega.{arith}
use mathlib.Core.Bool.{Bool, true, false, ◌&&◌}
use mathlib.Core.List.{List, [], ◌∷◌, ◌++◌, map, map_congr_left}
use lib.ListN.{length, take, length-append}
use lib.Dec.{leb}
use borrow.Author.Tests.{ltb-true, lt-ltb, leb-true, le-leb, eqb-true, eq-eqb, ne_eqb}
use Rattle.wire.specs.Bytes.{Bytes, digits, below, pick}
use Rattle.wire.specs.laws.Bytes.{length_digits}
use Rattle.wire.specs.Numbers.{unknown_type}
use Rattle.wire.specs.Fields.{integer, blob}
use Rattle.wire.specs.Sequence.{guard, and_then, tag}
use Rattle.wire.specs.Series.{left, above, not_below, series, count_prefixed}
use Rattle.wire.specs.Parsers.{Chain, Sized}
use Rattle.wire.specs.Orders.{All, OneOf, Increasing, Nondecreasing, Ascending}
use Rattle.wire.proofs.Bytes.{key_below_lem}
use Rattle.wire.proofs.Orders.{constant-good, tag-good, key_below-order, above_good, not_below-good, unordered-good, ascending-good, series-good}
use Rattle.wire.proofs.Orders.{counted-good, adjacent-map}
use Rattle.string.specs.Strings.{string, payload, text, denomination}
use Rattle.string.specs.Characters.{is_printable, unprintable}
use Rattle.owners.specs.Owners.{Owners, threshold_fits, owners}
use Rattle.element.specs.Outputs.{amount, transfer_body, OutputType, secp_mint, secp_transfer, nft_mint, nft_transfer, output_code, OutputBody}
use Rattle.element.specs.Outputs.{output_body, output_type, output_type-code, Output, output, TransferableOutput, transferable_output}
use Rattle.element.specs.Inputs.{key, indices, Input, spend, input_after, input}
use Rattle.element.specs.Operations.{OperationType, mint_nft, transfer_nft, operation_code, operation_type, operation_type-code, OperationOwners}
use Rattle.element.specs.Operations.{operation_owners, terms, action, Operation, operation, Fx, secp_fx, nft_fx, fx_code, fx_of, fx_of-code}
use Rattle.element.specs.Operations.{fx_outputs, fx_id, state_outputs, InitialState, initial_state_after, initial_state}
use Rattle.element.specs.Good.{GoodString, Printable, GoodText, GoodOwners, GoodAmount, GoodOutputBody, GoodOutput, GoodTransferableOutput}
use Rattle.element.specs.Good.{GoodIndices, GoodKey, GoodInput, input_key, GoodRecipients, GoodOperationOwners, GoodTerms, GoodOperation}
use Rattle.element.specs.Good.{outputs_under, GoodInitialState}
use Rattle.element.specs.PlainBytes.{output_bytes, key_bytes}
use Rattle.element.proofs.Writing.{output-bytes}

-- ---- strings

pub string-good : (w most : ℕ) (b : List ℕ) → (string w most).Good b ↔ (GoodString most b × (length b < 256 ^ w))
unfolding string blob integer
string-good w most b = (
  λ h. (record { short = leb-true (length b) most h.0.1; bytes = h.1.1 }, h.0.0),
  λ g. ((g.1, le-leb (length b) most g.0.short), (refl, g.0.bytes)),
)

pub payload-good : (b : List ℕ) → payload.Good b ↔ GoodString 1024 b
payload-good b = (λ h. ((string-good 4 1024 b).0 h).0, λ g. (string-good 4 1024 b).1 (g, omega arith))

both_true : (a b : Bool) → (a && b ≡ true) → (a ≡ true) × (b ≡ true)
both_true true b e = (refl, e)
both_true false b e = let z : ◌≡◌ {A = ℕ} 0 1 = cc in absurd (omega arith)

pub character-good : (x : ℕ) → (is_printable x ≡ true) ↔ Printable x
character-good x = (
  λ e.
      let (a, b) = both_true (leb 32 x) (leb x 126) e in
      record { low = leb-true 32 x a; high = leb-true x 126 b },
  λ g. rw (le-leb 32 x g.low, le-leb x 126 g.high),
)

pub characters-good : (b : List ℕ) → (unprintable b ≡ length b) ↔ All Printable b
unfolding unprintable
characters-good [] = (λ e. tt, λ g. refl)
characters-good (x ∷ b) = turn (is_printable x) refl (characters-good b)
  where
    turn : (t : Bool) → is_printable x ≡ t → (unprintable b ≡ length b) ↔ All Printable b
        → (pick t (suc (unprintable b)) 0 ≡ suc (length b)) ↔ (Printable x × All Printable b)
    turn true p on = (λ e. ((character-good x).0 p, on.0 (omega arith)), λ g. ap suc (on.1 g.1))
    turn false p on = (λ e. absurd (omega arith), λ g. let q = (character-good x).1 g.0 in let z : ◌≡◌ {A = ℕ} 0 1 = cc in absurd (omega arith))

characters-bytes : (b : List ℕ) → All Printable b → Bytes b
characters-bytes [] g = tt
characters-bytes (x ∷ b) g = (omega arith, characters-bytes b g.1)

pub text-good : (most : ℕ) → most < 256 ^ 2 → (b : List ℕ) → (text most).Good b ↔ GoodText most b
unfolding text blob integer
text-good most fits b = (
  λ h.
      record {
        some = ltb-true 0 (length b) h.0.0.1;
        short = leb-true (length b) most h.0.1;
        characters = (characters-good b).0 (eqb-true (unprintable b) (length b) h.1.1);
      },
  λ g. (
    ((omega arith, lt-ltb 0 (length b) g.some), le-leb (length b) most g.short),
    ((refl, characters-bytes b g.characters), eq-eqb (unprintable b) (length b) ((characters-good b).1 g.characters)),
  ),
)

pub denomination-good : (n : ℕ) → denomination.Good n ↔ (n ≤ 32)
unfolding denomination integer
denomination-good n = (λ h. leb-true n 32 h.1, λ g. (omega arith, le-leb n 32 g))

-- ---- owners

threshold-good : (t n : ℕ) → (threshold_fits t n ≡ true) ↔ ((t ≤ n) × ((t ≡ 0) ↔ (n ≡ 0)))
threshold-good zero n = (λ e. let none = eqb-true n 0 e in (omega arith, (λ z. none, λ z. refl)), λ g. eq-eqb n 0 (g.1.0 refl))
threshold-good (suc t) n =
    rw (ne_eqb (suc t) 0 (λ z. omega arith)) (
      λ e. let most = leb-true (suc t) n e in (most, (λ z. absurd (omega arith), λ z. absurd (omega arith))),
      λ g. le-leb (suc t) n g.0,
    )

pub owners-good : (o : Owners) → owners.Good o ↔ GoodOwners o
unfolding owners blob integer
owners-good o = (
  λ h.
      let (each, sorted) = (list.0 h.1.1).1 in
      let (most, zeroes) = (threshold-good o.threshold (length o.addresses)).0 h.1.0.1 in
      record {
        locktime = h.0;
        threshold = most;
        zero_threshold = zeroes;
        count = h.1.0.0.1;
        addresses = each;
        order = sorted;
      },
  λ g. (
    g.locktime,
    (
      ((omega arith, g.count), (threshold-good o.threshold (length o.addresses)).1 (g.threshold, g.zero_threshold)),
      list.1 (refl, (g.addresses, g.order)),
    ),
  ),
)
  where
    list : (series (above (blob 20)) (length o.addresses)).Good o.addresses
        ↔ ((length o.addresses ≡ length o.addresses) × (All (Sized 20) o.addresses × Increasing o.addresses))
    list =
        series-good (above (blob 20)) (λ l. All (Sized 20) l × Increasing l) (above_good (blob 20) (Sized 20) (λ a. Iff.rfl) (λ a h. omega arith))
        (length o.addresses) o.addresses

-- ---- outputs

pub amount-good : (n : ℕ) → amount.Good n ↔ GoodAmount n
unfolding amount integer
amount-good n = (λ h. record { positive = ltb-true 0 n h.1; width = h.0 }, λ g. (g.width, lt-ltb 0 n g.positive))

pub output_body-good : (k : OutputType) (b : OutputBody k) → (output_body k).Good b ↔ GoodOutputBody k b
unfolding and_then integer transfer_body
output_body-good secp_mint o = owners-good o
output_body-good secp_transfer (n, o) = (
  λ h. record { amount-good = (amount-good n).0 h.0; owners-good = (owners-good o).0 h.1 },
  λ g. ((amount-good n).1 g.amount-good, (owners-good o).1 g.owners-good),
)
output_body-good nft_mint (group, o) = (
  λ h. record { group-width = h.0; owners-good = (owners-good o).0 h.1 },
  λ g. (g.group-width, (owners-good o).1 g.owners-good),
)
output_body-good nft_transfer (group, (p, o)) = (
  λ h. record { group-width = h.0; payload-good = (payload-good p).0 h.1.0; owners-good = (owners-good o).0 h.1.1 },
  λ g. (g.group-width, ((payload-good p).1 g.payload-good, (owners-good o).1 g.owners-good)),
)

output_code-fits : (k : OutputType) → output_code k < 256 ^ 4
output_code-fits secp_mint = omega arith
output_code-fits secp_transfer = omega arith
output_code-fits nft_mint = omega arith
output_code-fits nft_transfer = omega arith

pub output-good : (types : List OutputType) (o : Output) → (output types).Good o ↔ GoodOutput types o
unfolding output integer
output-good types (k, b) = (
  λ h. record { type = type_id.0 h.0; body = (output_body-good k b).0 h.1 },
  λ g. (type_id.1 g.type, (output_body-good k b).1 g.body),
)
  where
    type_id : (tag output_code output_type output_type-code (integer 4) types unknown_type).Good k ↔ OneOf k types
    type_id = tag-good output_code output_type output_type-code (integer 4) types unknown_type k (output_code-fits k)

pub transferable_output-good : (o : TransferableOutput) → transferable_output.Good o ↔ GoodTransferableOutput o
unfolding transferable_output blob
transferable_output-good o = (
  λ h. record { asset = h.0; output = (output-good (secp_transfer ∷ []) o.output).0 h.1 },
  λ g. (g.asset, (output-good (secp_transfer ∷ []) o.output).1 g.output),
)

-- ---- inputs

pub indices-good : (l : List ℕ) → indices.Good l ↔ GoodIndices l
unfolding indices integer
indices-good l = (
  λ h.
      let (count, (each, sorted)) = list.0 h in
      record { count = count; widths = each; order = sorted },
  λ g. list.1 (g.count, (g.widths, g.order)),
)
  where
    list : indices.Good l ↔ ((length l < 256 ^ 4) × (All (λ n. n < 256 ^ 4) l × Ascending l))
    list = counted-good (above (integer 4)) (λ l. All (λ n. n < 256 ^ 4) l × Ascending l) (ascending-good 4 (omega arith)) (integer 4) l

pub key-good : (k : List ℕ × ℕ) → key.Good k ↔ GoodKey k.0 k.1
unfolding key blob integer
key-good k = (λ h. record { id-good = h.0; index-width = h.1 }, λ g. (g.id-good, g.index-width))

pub key-width : (k : List ℕ × ℕ) → GoodKey k.0 k.1 → length (key_bytes k.0 k.1) ≡ 36
key-width k g = omega (arith, length-append k.0 (digits 4 k.1), length_digits 4 k.1, g.id-good.0)

-- keys are in order by the id, and by the index if the ids are equal
pub key-order : (a b : List ℕ) (i j : ℕ) → GoodKey a i → GoodKey b j
    → (below (key_bytes a i) (key_bytes b j) ≡ true) ↔ ((below a b ≡ true) ⊎ ((a ≡ b) × (i < j)))
key-order a b i j g h = rw (key_below_lem a b i j (omega arith) g.index-width h.index-width) (key_below-order a b i j)

-- an input is read given the bytes of the one before
pub input-good : (prev : List ℕ) (i : Input) → (input prev).Good i ↔ (GoodInput i × (below (take 36 prev) (input_key i) ≡ true))
unfolding input_after key blob integer guard spend
input-good prev i = (
  λ h. (
    record {
      key = (key-good (i.txid, i.index)).0 h.0.0;
      asset = h.1.0;
      amount = (amount-good i.amount).0 h.1.1.1.0;
      indices = (indices-good i.indices).0 h.1.1.1.1;
    },
    h.0.1,
  ),
  λ g. (
    ((key-good (i.txid, i.index)).1 g.0.key, g.1),
    (g.0.asset, ((constant-good 4 5 unknown_type).1 (omega arith), ((amount-good i.amount).1 g.0.amount, (indices-good i.indices).1 g.0.indices))),
  ),
)

-- the bytes of an input start with its key
pub input-front : (prev : List ℕ) (i : Input) → (t : List ℕ) × ((input prev).write i ≡ input_key i ++ t)
unfolding input_after key blob integer guard spend
input-front prev i = (spend.write (i.asset, (tt, (i.amount, i.indices))), refl)

-- ---- operations

operation_code-fits : (k : OperationType) → operation_code k < 256 ^ 4
operation_code-fits mint_nft = omega arith
operation_code-fits transfer_nft = omega arith

operation_code-listed : (k : OperationType) → OneOf k (mint_nft ∷ transfer_nft ∷ [])
operation_code-listed mint_nft = inl refl
operation_code-listed transfer_nft = inr (inl refl)

pub recipients-good : (l : List Owners) → (operation_owners mint_nft).Good l ↔ GoodRecipients l
unfolding integer
recipients-good l = (
  λ h.
      let (count, each) = list.0 h in
      record { count = count; each = each },
  λ g. list.1 (g.count, g.each),
)
  where
    list : (operation_owners mint_nft).Good l ↔ ((integer 4).Good (length l) × All GoodOwners l)
    list = counted-good (λ prev. owners) (All GoodOwners) (unordered-good owners GoodOwners owners-good []) (integer 4) l

pub operation_owners-good : (k : OperationType) (o : OperationOwners k) → (operation_owners k).Good o ↔ GoodOperationOwners k o
operation_owners-good mint_nft l = recipients-good l
operation_owners-good transfer_nft o = owners-good o

pub terms-good : (t : List ℕ × (ℕ × List ℕ)) → terms.Good t ↔ GoodTerms t.0 t.1.0 t.1.1
unfolding terms integer
terms-good (list, (group, p)) = (
  λ h. record { indices-good = (indices-good list).0 h.0; group-width = h.1.0; payload-good = (payload-good p).0 h.1.1 },
  λ g. ((indices-good list).1 g.indices-good, (g.group-width, (payload-good p).1 g.payload-good)),
)

abbrev GoodPairs : List (List ℕ × ℕ) → Type 0
GoodPairs l = All (λ (id, index). GoodKey id index) l × Increasing (map (λ (id, index). key_bytes id index) l)

pairs-good : (l : List (List ℕ × ℕ)) → (count_prefixed (integer 4) (above key)).Good l ↔ ((length l < 256 ^ 4) × GoodPairs l)
unfolding key blob integer
pairs-good l = counted-good (above key) GoodPairs chain (integer 4) l
  where
    chain : (l : List (List ℕ × ℕ)) → Chain (above key) (left (above key)) [] l ↔ GoodPairs l
    chain l =
        Iff.trans
        (above_good key (λ (id, index). GoodKey id index) key-good (λ k g. omega (arith, key-width k g)) l)
        (Iff.and Iff.rfl (adjacent-map (λ (id, index). key_bytes id index) (λ a b. below a b ≡ true) l))

pub operation-good : (v : Operation) → operation.Good v ↔ GoodOperation v
unfolding operation action blob integer
operation-good v = (
  λ h.
      let (count, (each, sorted)) = (pairs-good v.outputs).0 h.1.0 in
      record {
        asset = h.0;
        count = count;
        outputs = each;
        order = sorted;
        terms = (terms-good v.terms).0 h.1.1.1.0;
        owners = (operation_owners-good v.owners.0 v.owners.1).0 h.1.1.1.1;
      },
  λ g. (
    g.asset,
    (
      (pairs-good v.outputs).1 (g.count, (g.outputs, g.order)),
      (
        (tag-good operation_code operation_type operation_type-code (integer 4) (mint_nft ∷ transfer_nft ∷ []) unknown_type v.owners.0
            (operation_code-fits v.owners.0)).1
            (operation_code-listed v.owners.0),
        ((terms-good v.terms).1 g.terms, (operation_owners-good v.owners.0 v.owners.1).1 g.owners),
      ),
    ),
  ),
)

-- ---- initial states

pub fx_code-fits : (k : Fx) → fx_code k < 256 ^ 4
fx_code-fits secp_fx = omega arith
fx_code-fits nft_fx = omega arith

fx_code-listed : (k : Fx) → OneOf k (secp_fx ∷ nft_fx ∷ [])
fx_code-listed secp_fx = inl refl
fx_code-listed nft_fx = inr (inl refl)

outputs-under : (k : Fx) → fx_outputs k ≡ outputs_under k
outputs-under secp_fx = refl
outputs-under nft_fx = refl

-- an initial state is read given the bytes of the one before
pub initial_state-good : (prev : List ℕ) (v : InitialState)
    → (initial_state prev).Good v ↔ (GoodInitialState v × (below (take 4 prev) (digits 4 (fx_code v.fx)) ≡ true))
unfolding initial_state_after fx_id integer state_outputs guard
initial_state-good prev v = (
  λ h.
      let (count, (each, sorted)) = list.0 h.1 in (
        record { count = count; outputs = subst (λ (l : List OutputType). All (GoodOutput l) v.outputs) (outputs-under v.fx) each; order = sorted },
        h.0.1,
      ),
  λ g. (
    ((tag-good fx_code fx_of fx_of-code (integer 4) (secp_fx ∷ nft_fx ∷ []) unknown_type v.fx (fx_code-fits v.fx)).1 (fx_code-listed v.fx), g.1),
    list.1 (g.0.count, (subst⁻¹ (λ (l : List OutputType). All (GoodOutput l) v.outputs) (outputs-under v.fx) g.0.outputs, g.0.order)),
  ),
)
  where
    types : List OutputType
    types = fx_outputs v.fx

    Sorted : List Output → Type 0
    Sorted l = All (GoodOutput types) l × Nondecreasing (map output_bytes l)

    chain : (l : List Output) → Chain (not_below (output types)) (left (not_below (output types))) [] l ↔ Sorted l
    chain l =
        Iff.trans
        (not_below-good (output types) (GoodOutput types) (output-good types) l)
        (Iff.and Iff.rfl (rw (map_congr_left {f = (output types).write} {g = output_bytes} {l = l} (λ o m. output-bytes types o)) at
        (adjacent-map (output types).write (λ a b. below b a ≡ false) l)))

    list : (count_prefixed (integer 4) (not_below (output types))).Good v.outputs ↔ ((length v.outputs < 256 ^ 4) × Sorted v.outputs)
    list = counted-good (not_below (output types)) Sorted chain (integer 4) v.outputs

-- the bytes of an initial state start with its FxID
pub initial_state-front : (prev : List ℕ) (v : InitialState) → (t : List ℕ) × ((initial_state prev).write v ≡ digits 4 (fx_code v.fx) ++ t)
unfolding initial_state_after fx_id integer state_outputs guard
initial_state-front prev v = ((count_prefixed (integer 4) (not_below (output (fx_outputs v.fx)))).write v.outputs, refl)
