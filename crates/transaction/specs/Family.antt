-- A family of transactions: its types, their numbers, and the plan of each. The signed format, the check and the entries are made from these.
-- Assumes nothing.
use Rattle.std.specs.Prelude.{◌≡◌, refl, ℕ, ◌+◌, Bool, List, ◌++◌, length, Option}
use Rattle.wire.specs.Numbers.{wrong_codec, unknown_type}
use Rattle.wire.specs.Format.{Format, Parsed}
use Rattle.wire.specs.Fields.{integer, blob, constant}
use Rattle.wire.specs.Sequence.{and_then, named, tag}
use Rattle.transaction.specs.Credentials.{Want}
use Rattle.transaction.specs.Entries.{EntryAt, nth, credential_entries}
use Rattle.transaction.specs.Plan.{Plan}
use Rattle.transaction.specs.Form.{Value, form, wanted, plan_entries}
use Rattle.transaction.specs.Signed as AnySigned

pub record Family : Type 1 where
  pub TransactionType : Type 0
  pub type_id : TransactionType → ℕ
  pub type_of : ℕ → TransactionType
  pub type_of-id : (k : TransactionType) → type_of (type_id k) ≡ k
  pub types : List TransactionType
  pub plan : TransactionType → Plan
  -- the most bytes of a memo
  pub memo_most : ℕ

-- codec, type, network, chain id
pub record Head (K : Type 0) : Type 0 where
  pub type : K
  pub network : ℕ
  pub chain : List ℕ

module _ (F : Family) where
  unfoldable pub head : Format (Head F.TransactionType)
  unfolding named and_then
  head =
      named
      (and_then (constant 2 0 wrong_codec) (λ codec.
      and_then (tag F.type_id F.type_of F.type_of-id (integer 4) F.types unknown_type) (λ k.
      and_then (integer 4) (λ network.
      blob 32))))
      (λ (codec, (k, (network, chain))). record { type = k; network = network; chain = chain })
      (λ h. (tt, (h.type, (h.network, h.chain))))
      (λ v h. refl)
      (λ h. refl)

  abbrev pub Unsigned : Type 0
  Unsigned = (h : Head F.TransactionType) × Value (F.plan h.type)

  unfoldable pub unsigned : Format Unsigned
  unfolding and_then
  unsigned = and_then head (λ h. form F.memo_most (F.plan h.type))

  unfoldable pub wants : Unsigned → List Want
  unfolding wanted
  wants u = wanted (F.plan u.0.type) u.1

  abbrev pub Signed : Type 0
  Signed = Unsigned × List (List ℕ)

  abbrev pub signed : Format Signed
  signed = AnySigned.signed unsigned wants

  abbrev pub check : List ℕ → Parsed Signed
  check = AnySigned.check unsigned wants

  abbrev pub accepted : List ℕ → Bool
  accepted = AnySigned.accepted unsigned wants

  -- all entries in byte order: those of the plan's segments, then the credentials
  unfoldable pub entries : Signed → List EntryAt
  unfolding plan_entries credential_entries
  entries (u, l) =
      plan_entries F.memo_most (F.plan u.0.type) u.1 (length (head.write u.0))
      ++ credential_entries (wants u) (length (unsigned.write u) + 4)

  abbrev pub entry : Signed → ℕ → Option EntryAt
  entry v = nth (entries v)
