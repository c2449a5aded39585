-- The signed format has exactly the values that specs/Transaction calls good. Assumes nothing.
use mathlib.Core.Path.{◌≡◌, refl, ap, ap₂, ◌∙◌}
use mathlib.Core.Logic.Iff
use mathlib.Core.Logic.{◌↔◌, inl, inr}
use Prim.Native.Nat.{ℕ, zero, suc, ◌+◌, ◌^◌, ◌≤◌, ◌<◌}
use native.Mathlib.Nat.{zero-add}
use native.Mathlib.Omega.{arith}
use mathlib.Core.Bool.{true, false}
use mathlib.Core.List.{List, [], ◌∷◌, ◌++◌, map, map_congr_left, append-nil}
use lib.ListN.{length}
use lib.Dec.{leb}
use borrow.Author.Tests.{leb-true, le-leb}
use Rattle.wire.specs.Bytes.{digits, below}
use Rattle.wire.specs.laws.Bytes.{length_digits}
use Rattle.wire.specs.Numbers.{wrong_codec, unknown_type, wrong_count, empty_list}
use Rattle.wire.specs.Format.{Format}
use Rattle.wire.specs.Fields.{integer, blob}
use Rattle.wire.specs.Sequence.{guard}
use Rattle.wire.specs.Series.{left, not_below}
use Rattle.wire.specs.Parsers.{Chain, Sized}
use Rattle.wire.specs.Orders.{All, OneOf, Increasing, Nondecreasing, Ascending}
use Rattle.wire.proofs.Orders.{constant-good, tag-good, digits-order, not_below-good, unordered-good, keyed-good, counted-good, adjacent-map}
use Rattle.element.specs.Outputs.{TransferableOutput, transferable_output}
use Rattle.element.specs.Inputs.{Input, input}
use Rattle.element.specs.Operations.{Operation, operation, fx_code, InitialState, initial_state}
use Rattle.element.specs.PlainBytes.{transferable_output_bytes}
use Rattle.element.specs.Good.{GoodTransferableOutput, GoodInput, input_key, GoodOperation, GoodInitialState}
use Rattle.element.proofs.Writing.{transferable_output-bytes}
use Rattle.element.proofs.Good.{string-good, text-good, denomination-good, transferable_output-good, key-width, input-good, input-front}
use Rattle.element.proofs.Good.{operation-good, fx_code-fits, initial_state-good, initial_state-front}
use Rattle.transaction.specs.Slots.{signature_width}
use Rattle.transaction.specs.Credentials.{credential_code, Want, Piece, signatures, each, pieces, credentials, total}
use Rattle.transaction.specs.Plan.{own_plan, type_id, type_of, type_of-id, types}
use Rattle.transaction.specs.Form.{at_least, Value, form, asked, wanted}
use Rattle.transaction.specs.Avm.{avm}
use Rattle.transaction.specs.Family.{Head, head, unsigned, wants, Signed, signed}
use Rattle.transaction.specs.Signed as AnySigned
use Rattle.transaction.specs.Transaction.{Own, plain, create_asset, operate, import_from, export_to, Transaction, input_want, operation_want}
use Rattle.transaction.specs.Transaction.{own_wants, credentials_of, GoodOutputs, GoodInputs, GoodOperations, GoodStates, GoodOwn}
use Rattle.transaction.specs.Transaction.{GoodTransaction}
use Rattle.transaction.specs.Accepted.{own_of, reading, own_type, own_value, value_of}
use Rattle.transaction.specs.declared.TransactionType.{TransactionType}
use Rattle.transaction.specs.declared.TransactionType.TheVariants as K
use Rattle.transaction.proofs.CredentialLaws.{credential_code-fits}

-- ---- a transaction and a value of the format are the same thing

own_of-value : (o : Own) → own_of (own_type o) (own_value o) ≡ o
unfolding own_of own_value
own_of-value plain = refl
own_of-value (create_asset name symbol denomination list) = refl
own_of-value (operate list) = refl
own_of-value (import_from chain list) = refl
own_of-value (export_to chain list) = refl

pub reading-value : (most : ℕ) (t : Transaction) → reading most (value_of most t) ≡ t
unfolding reading value_of
reading-value most t = ap (λ o. record { base = t.base; own = o; signatures = t.signatures }) (own_of-value t.own)

pub value-reading : (most : ℕ) (v : Signed (avm most)) → value_of most (reading most v) ≡ v
unfolding reading value_of
value-reading most ((h, (outs, (ins, (memo, own)))), signatures) = go h.type own
  where
    go : (k : TransactionType) (own : Value (own_plan k))
        → ◌≡◌ {A = Signed (avm most)}
        ((record { type = own_type (own_of k own); network = h.network; chain = h.chain }, (outs, (ins, (memo, own_value (own_of k own))))), signatures)
        ((record { type = k; network = h.network; chain = h.chain }, (outs, (ins, (memo, own)))), signatures)
    go K.Base own = refl
    go K.CreateAsset own = refl
    go K.Operation own = refl
    go K.Import own = refl
    go K.Export own = refl

-- ---- the credentials: as many signatures as are wanted, of 65 bytes each, and every integer of the list fits in 32 bits

-- n signatures before pieces that hold m
signatures-good : (ps : List Piece) (m : ℕ) (W : Type 0) → ((l : List (List ℕ)) → (pieces ps).Good l ↔ ((length l ≡ m) × All (Sized 65) l × W))
    → (n : ℕ) (l : List (List ℕ)) → (pieces (signatures n ps)).Good l ↔ ((length l ≡ n + m) × All (Sized 65) l × W)
unfolding pieces signatures signature_width
signatures-good ps m W good zero l = rw (zero-add m) (good l)
signatures-good ps m W good (suc n) [] = (λ h. absurd h, λ g. absurd (omega arith))
signatures-good ps m W good (suc n) (b ∷ l) =
    let on = signatures-good ps m W good n l in (
      λ h.
          let (len, each, w) = on.0 h.1 in
          (omega arith, (h.0, each), w),
      λ g. (g.1.0, on.1 (omega arith, g.1.1, g.2)),
    )

each-good : (ws : List Want) (l : List (List ℕ))
    → (pieces (each ws)).Good l ↔ ((length l ≡ total ws) × All (Sized 65) l × All (λ w. w.signatures < 256 ^ 4) ws)
unfolding pieces each total
each-good [] [] = (λ h. (refl, tt, tt), λ g. refl)
each-good [] (b ∷ l) = (λ h. let z : ◌≡◌ {A = ℕ} 0 1 = cc in absurd (omega arith), λ g. absurd (omega arith))
each-good (w ∷ ws) l =
    let on = signatures-good (each ws) (total ws) (All (λ w. w.signatures < 256 ^ 4) ws) (each-good ws) w.signatures l in (
      λ h.
          let (len, signed, fit) = on.0 h.1.1 in
          (len, signed, ((constant-good 4 w.signatures wrong_count).0 h.1.0, fit)),
      λ g. (
        (constant-good 4 (credential_code w.type) unknown_type).1 (credential_code-fits w.type),
        ((constant-good 4 w.signatures wrong_count).1 g.2.0, on.1 (g.0, g.1, g.2.1)),
      ),
    )

pub credentials-good : (ws : List Want) (l : List (List ℕ))
    → (credentials ws).Good l ↔ ((length ws < 256 ^ 4) × All (λ w. w.signatures < 256 ^ 4) ws × (length l ≡ total ws) × All (Sized 65) l)
unfolding credentials
credentials-good ws l = (
  λ h.
      let (len, signed, fit) = (each-good ws l).0 h.1 in
      ((constant-good 4 (length ws) wrong_count).0 h.0, fit, len, signed),
  λ g. ((constant-good 4 (length ws) wrong_count).1 g.0, (each-good ws l).1 (g.2, g.3, g.1)),
)

-- ---- lists

-- a list with a least number of elements
list-good : {A : Type 0} (least : ℕ) (E : List ℕ → Format A) (P : List A → Type 0) → ((l : List A) → Chain E (left E) [] l ↔ P l)
    → (l : List A) → (at_least least E).Good l ↔ ((least ≤ length l) × (length l < 256 ^ 4) × P l)
unfolding at_least integer
list-good least E P good l =
    let on = counted-good E P good (guard (integer 4) (λ n. leb least n) empty_list) l in (
      λ h.
          let ((count, some), p) = on.0 h in
          (leb-true least (length l) some, count, p),
      λ g. on.1 ((g.1, le-leb least (length l) g.0), g.2),
    )

module _ (least : ℕ) where
  pub outputs-good : (l : List TransferableOutput) → (at_least least (not_below transferable_output)).Good l ↔ ((least ≤ length l) × GoodOutputs l)
  outputs-good l =
      let on = list-good least (not_below transferable_output) Sorted chain l in (
        λ h.
            let (some, count, (each, sorted)) = on.0 h in
            (some, record { count = count; each = each; order = sorted }),
        λ g. on.1 (g.0, g.1.count, (g.1.each, g.1.order)),
      )
    where
      Sorted : List TransferableOutput → Type 0
      Sorted l = All GoodTransferableOutput l × Nondecreasing (map transferable_output_bytes l)

      chain : (l : List TransferableOutput) → Chain (not_below transferable_output) (left (not_below transferable_output)) [] l ↔ Sorted l
      chain l =
          Iff.trans
          (not_below-good transferable_output GoodTransferableOutput transferable_output-good l)
          (Iff.and Iff.rfl (rw (map_congr_left {f = transferable_output.write} {g = transferable_output_bytes} {l = l} (λ o m. transferable_output-bytes o)) at
          (adjacent-map transferable_output.write (λ a b. below b a ≡ false) l)))

module _ (least : ℕ) where
  pub inputs-good : (l : List Input) → (at_least least input).Good l ↔ ((least ≤ length l) × GoodInputs l)
  inputs-good l =
      let on = list-good least input Sorted chain l in (
        λ h.
            let (some, count, (each, sorted)) = on.0 h in
            (some, record { count = count; each = each; order = sorted }),
        λ g. on.1 (g.0, g.1.count, (g.1.each, g.1.order)),
      )
    where
      Sorted : List Input → Type 0
      Sorted l = All GoodInput l × Increasing (map input_key l)

      chain : (l : List Input) → Chain input (left input) [] l ↔ Sorted l
      chain l =
          Iff.trans
          (keyed-good input GoodInput 35 input_key (λ a b. below (input_key a) (input_key b) ≡ true) input-good input-front
          (λ i g. key-width (i.txid, i.index) g.key) (λ a b ga gb. Iff.rfl) l)
          (Iff.and Iff.rfl (adjacent-map input_key (λ a b. below a b ≡ true) l))

pub operations-good : (l : List Operation) → (at_least 1 (λ prev. operation)).Good l ↔ GoodOperations l
operations-good l =
    let on = list-good 1 (λ prev. operation) (All GoodOperation) (unordered-good operation GoodOperation operation-good []) l in (
      λ h.
          let (some, count, each) = on.0 h in
          record { some = some; count = count; each = each },
      λ g. on.1 (g.some, g.count, g.each),
    )

pub states-good : (l : List InitialState) → (at_least 1 initial_state).Good l ↔ GoodStates l
states-good l =
    let on = list-good 1 initial_state Sorted chain l in (
      λ h.
          let (some, count, (each, sorted)) = on.0 h in
          record { some = some; count = count; each = each; order = sorted },
      λ g. on.1 (g.some, g.count, (g.each, g.order)),
    )
  where
    code : InitialState → ℕ
    code v = fx_code v.fx

    Sorted : List InitialState → Type 0
    Sorted l = All GoodInitialState l × Ascending (map code l)

    chain : (l : List InitialState) → Chain initial_state (left initial_state) [] l ↔ Sorted l
    chain l =
        Iff.trans
        (keyed-good initial_state GoodInitialState 3 (λ v. digits 4 (code v)) (λ a b. code a < code b) initial_state-good initial_state-front
        (λ v g. length_digits 4 (code v)) (λ a b ga gb. digits-order 4 (code a) (code b) (fx_code-fits a.fx) (fx_code-fits b.fx)) l)
        (Iff.and Iff.rfl (adjacent-map code (λ m n. m < n) l))

-- ---- the fields that each type has of its own

pub own-good : (most : ℕ) (k : TransactionType) (w : Value (own_plan k)) → (form most (own_plan k)).Good w ↔ GoodOwn (own_of k w)
unfolding own_of form blob
own-good most K.Base w = (λ h. tt, λ g. refl)
own-good most K.CreateAsset (name, (symbol, (denomination, (list, w)))) = (
  λ h.
      record {
        name-good = (text-good 128 (omega arith) name).0 h.0;
        symbol-good = (text-good 4 (omega arith) symbol).0 h.1.0;
        denomination-good = (denomination-good denomination).0 h.1.1.0;
        states-good = (states-good list).0 h.1.1.1.0;
      },
  λ g. (
    (text-good 128 (omega arith) name).1 g.name-good,
    (
      (text-good 4 (omega arith) symbol).1 g.symbol-good,
      ((denomination-good denomination).1 g.denomination-good, ((states-good list).1 g.states-good, refl)),
    ),
  ),
)
own-good most K.Operation (list, w) = (λ h. (operations-good list).0 h.0, λ g. ((operations-good list).1 g, refl))
own-good most K.Import (chain, (list, w)) = (
  λ h.
      let (some, good) = (inputs-good 1 list).0 h.1.0 in
      record { chain-good = h.0; some = some; inputs-good = good },
  λ g. (g.chain-good, ((inputs-good 1 list).1 (g.some, g.inputs-good), refl)),
)
own-good most K.Export (chain, (list, w)) = (
  λ h.
      let (some, good) = (outputs-good 1 list).0 h.1.0 in
      record { chain-good = h.0; some = some; outputs-good = good },
  λ g. (g.chain-good, ((outputs-good 1 list).1 (g.some, g.outputs-good), refl)),
)

-- ---- the credentials that a transaction wants

asked-none : {A : Type 0} (l : List A) → asked {A = A} (λ a. []) l ≡ []
unfolding asked
asked-none [] = refl
asked-none (a ∷ l) = asked-none l

asked-one : {A : Type 0} (f : A → Want) (l : List A) → asked (λ a. f a ∷ []) l ≡ map f l
unfolding asked
asked-one f [] = refl
asked-one f (a ∷ l) = ap (λ (ws : List Want). f a ∷ ws) (asked-one f l)

own-wanted : (k : TransactionType) (w : Value (own_plan k)) → wanted (own_plan k) w ≡ own_wants (own_of k w)
unfolding own_of wanted
own-wanted K.Base w = refl
own-wanted K.CreateAsset (name, (symbol, (denomination, (list, w)))) = append-nil _ ∙ asked-none list
own-wanted K.Operation (list, w) = append-nil _ ∙ asked-one operation_want list
own-wanted K.Import (chain, (list, w)) = append-nil _ ∙ asked-one input_want list
own-wanted K.Export (chain, (list, w)) = append-nil _ ∙ asked-none list

-- one for each input, then one for each operation or imported input
pub wants-credentials : (most : ℕ) (v : Signed (avm most)) → wants (avm most) v.0 ≡ credentials_of (reading most v)
unfolding wants reading
wants-credentials most ((h, (outs, (ins, (memo, own)))), signatures) =
    ap₂ (λ (a b : List Want). a ++ b) (asked-none outs)
    (ap₂ (λ (a b : List Want). a ++ b) (asked-one input_want ins) (own-wanted h.type own))

-- their counts are counts of indices, which fit in 32 bits
all_append : {A : Type 0} (P : A → Type 0) (a b : List A) → All P a → All P b → All P (a ++ b)
all_append P [] b h k = k
all_append P (x ∷ a) b h k = (h.0, all_append P a b h.1 k)

all_map : {A B : Type 0} (f : A → B) (Q : A → Type 0) (P : B → Type 0) → ((a : A) → Q a → P (f a)) → (l : List A) → All Q l → All P (map f l)
all_map f Q P on [] h = tt
all_map f Q P on (a ∷ l) h = (on a h.0, all_map f Q P on l h.1)

abbrev Narrow : Want → Type 0
Narrow w = w.signatures < 256 ^ 4

own-narrow : (o : Own) → GoodOwn o → All Narrow (own_wants o)
own-narrow plain g = tt
own-narrow (create_asset name symbol denomination list) g = tt
own-narrow (operate list) g = all_map operation_want GoodOperation Narrow (λ o h. h.terms.indices-good.count) list g.each
own-narrow (import_from chain list) g = all_map input_want GoodInput Narrow (λ i h. h.indices.count) list g.inputs-good.each
own-narrow (export_to chain list) g = tt

-- ---- the whole

pub type_id-fits : (k : TransactionType) → type_id k < 256 ^ 4
type_id-fits K.Base = omega arith
type_id-fits K.CreateAsset = omega arith
type_id-fits K.Operation = omega arith
type_id-fits K.Import = omega arith
type_id-fits K.Export = omega arith

type-listed : (k : TransactionType) → OneOf k types
type-listed K.Base = inl refl
type-listed K.CreateAsset = inr (inl refl)
type-listed K.Operation = inr (inr (inl refl))
type-listed K.Import = inr (inr (inr (inl refl)))
type-listed K.Export = inr (inr (inr (inr (inl refl))))

-- codec and type add no condition: every type is one of the five
pub head-good : (most : ℕ) (h : Head TransactionType) → (head (avm most)).Good h ↔ ((h.network < 256 ^ 4) × Sized 32 h.chain)
unfolding head integer blob
head-good most h = (
  λ g. g.1.1,
  λ g. (
    (constant-good 2 0 wrong_codec).1 (omega arith),
    (
      (tag-good type_id type_of type_of-id (integer 4) types unknown_type h.type (type_id-fits h.type)).1
          (type-listed h.type),
      g,
    ),
  ),
)

pub transaction-good : (most : ℕ) (v : Signed (avm most)) → (signed (avm most)).Good v ↔ GoodTransaction most (reading most v)
unfolding AnySigned.signed unsigned form reading
transaction-good most ((h, (outs, (ins, (memo, own)))), signatures) = (
  λ g.
      let (network, chain) = (head-good most h).0 g.0.0 in
      let (note, length-fits) = (string-good 4 most memo).0 g.0.1.1.1.0 in
      let (credentials, fit, count, sized) = (credentials-good (credentials_of t) signatures).0 (rw wanted-are at g).1 in
      record {
        base =
            record {
              network = network;
              chain = chain;
              outputs = ((outputs-good 0 outs).0 g.0.1.0).1;
              inputs = ((inputs-good 0 ins).0 g.0.1.1.0).1;
              memo = note;
              memo-length = length-fits;
            };
        own = (own-good most h.type own).0 g.0.1.1.1.1;
        credentials = credentials;
        count = count;
        signatures = sized;
      },
  λ g. (
    (
      (head-good most h).1 (g.base.network, g.base.chain),
      (
        (outputs-good 0 outs).1 (omega arith, g.base.outputs),
        (
          (inputs-good 0 ins).1 (omega arith, g.base.inputs),
          ((string-good 4 most memo).1 (g.base.memo, g.base.memo-length), (own-good most h.type own).1 g.own),
        ),
      ),
    ),
    rw wanted-are ((credentials-good (credentials_of t) signatures).1 (g.credentials, narrow g, g.count, g.signatures)),
  ),
)
  where
    t : Transaction
    t = reading most ((h, (outs, (ins, (memo, own)))), signatures)

    wanted-are : wants (avm most) (h, (outs, (ins, (memo, own)))) ≡ credentials_of t
    wanted-are = wants-credentials most ((h, (outs, (ins, (memo, own)))), signatures)

    narrow : GoodTransaction most t → All Narrow (credentials_of t)
    narrow g =
        all_append Narrow (map input_want ins) (own_wants (own_of h.type own))
        (all_map input_want GoodInput Narrow (λ i k. k.indices.count) ins g.base.inputs.each)
        (own-narrow (own_of h.type own) g.own)
