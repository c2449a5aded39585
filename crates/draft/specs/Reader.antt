-- What merging and filling need to know of a transaction: whether it is accepted, where its credential count is, and where its slots are. For any
-- unsigned format and any rule for the credentials that it wants, and so for any family. Assumes nothing.
use Rattle.std.specs.Prelude.{◌≡◌, Bool, true, List, ℕ, length, take, get_or}
use Rattle.wire.specs.Bytes.{Bytes}
use Rattle.wire.specs.Format.{Format}
use Rattle.transaction.specs.Slots.{slot_at}
use Rattle.transaction.specs.Credentials.{Want}
use Rattle.transaction.specs.Signed as Signed
use Rattle.transaction.specs.Family.{Family, unsigned, wants}

pub record Reader : Type 0 where
  pub accepts : List ℕ → Bool
  pub credentials_at : List ℕ → ℕ
  pub slots : List ℕ → List ℕ

abbrev pub signed_reader : {U : Type 0} → Format U → (U → List Want) → Reader
signed_reader body wants =
    record { accepts = Signed.accepted body wants; credentials_at = Signed.credentials_at body wants; slots = Signed.slots_at body wants }

abbrev pub reader : Family → Reader
reader F = signed_reader (unsigned F) (wants F)

-- a draft: any accepted transaction
pub record Draft (R : Reader) (d : List ℕ) : Type 0 where
  pub bytes : Bytes d
  pub accepted : R.accepts d ≡ true

-- its bytes before the credential count: the unsigned transaction
unfoldable pub body : Reader → List ℕ → List ℕ
body R d = take (R.credentials_at d) d

-- how many slots it has, and what slot k holds, counted from 0 across credentials
unfoldable pub slot_count : Reader → List ℕ → ℕ
slot_count R d = length (R.slots d)

unfoldable pub slot : Reader → List ℕ → ℕ → List ℕ
slot R d k = slot_at d (get_or (R.slots d) k 0)
