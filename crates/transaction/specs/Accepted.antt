-- What is accepted, and what every accepted transaction is read as: the first half of demand 2, for AVM transactions and in bytes. Assumes nothing.
use Rattle.std.specs.Prelude.{◌≡◌, ◌↔◌, true, ℕ, ◌≤◌, List, length}
use Rattle.wire.specs.Bytes.{Bytes}
use Rattle.wire.specs.Format.{took}
use Rattle.transaction.specs.Plan.{own_plan}
use Rattle.transaction.specs.Form.{Value}
use Rattle.transaction.specs.Family.{Signed, check, accepted}
use Rattle.transaction.specs.Avm.{avm}
use Rattle.transaction.specs.Transaction.{Own, plain, create_asset, operate, import_from, export_to, Transaction, GoodTransaction}
use Rattle.transaction.specs.PlainBytes.{bytes_of}
use Rattle.transaction.specs.declared.TransactionType.{TransactionType}
use Rattle.transaction.specs.declared.TransactionType.TheVariants as K

-- ---- a value of the signed format as a transaction, and a transaction as a value of the format

unfoldable pub own_of : (k : TransactionType) → Value (own_plan k) → Own
own_of K.Base v = plain
own_of K.CreateAsset (name, (symbol, (denomination, (list, v)))) = create_asset name symbol denomination list
own_of K.Operation (list, v) = operate list
own_of K.Import (chain, (list, v)) = import_from chain list
own_of K.Export (chain, (list, v)) = export_to chain list

unfoldable pub reading : (most : ℕ) → Signed (avm most) → Transaction
unfolding own_of
reading most ((h, (outs, (ins, (memo, own)))), signatures) =
    record {
      base = record { network = h.network; chain = h.chain; outputs = outs; inputs = ins; memo = memo };
      own = own_of h.type own;
      signatures = signatures;
    }

abbrev pub own_type : Own → TransactionType
own_type plain = K.Base
own_type (create_asset name symbol denomination states) = K.CreateAsset
own_type (operate operations) = K.Operation
own_type (import_from chain inputs) = K.Import
own_type (export_to chain outputs) = K.Export

unfoldable pub own_value : (o : Own) → Value (own_plan (own_type o))
own_value plain = tt
own_value (create_asset name symbol denomination list) = (name, (symbol, (denomination, (list, tt))))
own_value (operate list) = (list, tt)
own_value (import_from chain list) = (chain, (list, tt))
own_value (export_to chain list) = (chain, (list, tt))

unfoldable pub value_of : (most : ℕ) → Transaction → Signed (avm most)
unfolding own_value
value_of most t =
    let b = t.base in (
      (
        record { type = own_type t.own; network = b.network; chain = b.chain },
        (b.outputs, (b.inputs, (b.memo, own_value t.own))),
      ),
      t.signatures,
    )

-- ---- what is accepted

-- s is the bytes of the good transaction t, at most 65,536 of them
pub record Encodes (most : ℕ) (s : List ℕ) (t : Transaction) : Type 0 where
  pub good : GoodTransaction most t
  pub written : bytes_of t ≡ s
  pub short : length s ≤ 65536

-- for memos of at most `most` bytes, 256 in the base; proved for every `most` as `transactions` (proofs/Accepted)
pub record Transactions (most : ℕ) : Type 0 where
  -- bytes are accepted exactly if they are a good transaction of at most 65,536 bytes
  pub accepted-exactly : (s : List ℕ) → Bytes s → (accepted (avm most) s ≡ true) ↔ ((t : Transaction) × Encodes most s t)
  -- no bytes encode two transactions
  pub one-reading : (s : List ℕ) (t u : Transaction) → Encodes most s t → Encodes most s u → t ≡ u
  -- what is read encodes to the same bytes, and the place reported is their number
  pub write-after-read : (s : List ℕ) (v : Signed (avm most)) (n : ℕ) → Bytes s → check (avm most) s ≡ took v n
      → Encodes most s (reading most v) × (n ≡ length s)
  -- what is encoded is read
  pub read-after-write : (s : List ℕ) (t : Transaction) → Encodes most s t → check (avm most) s ≡ took (value_of most t) (length s)
  -- transactions and values of the format correspond one to one
  pub reading-value : (t : Transaction) → reading most (value_of most t) ≡ t
  pub value-reading : (v : Signed (avm most)) → value_of most (reading most v) ≡ v
