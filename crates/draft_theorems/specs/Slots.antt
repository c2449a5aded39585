-- The slots that demand 3 speaks of are the signatures of the reading that demand 2 speaks of. They come after the credential count and do not
-- overlap. Assumes nothing.
use Rattle.std.specs.Prelude.{◌≡◌, List, [], ℕ, ◌+◌, ◌≤◌, ◌<◌, length, get_or}
use Rattle.wire.specs.Bytes.{Bytes}
use Rattle.wire.specs.Format.{took}
use Rattle.transaction.specs.Slots.{signature_width}
use Rattle.transaction.specs.Family.{Family, Signed, unsigned, check}
use Rattle.draft.specs.Reader.{reader, Draft, body, slot_count, slot}

-- where slot k of d starts
abbrev pub slot_start : (F : Family) → List ℕ → ℕ → ℕ
slot_start F d k = get_or ((reader F).slots d) k 0

-- the slots of d, whose reading is v
pub record SlotsAre (F : Family) (d : List ℕ) (v : Signed F) : Type 0 where
  -- slot k is the k-th signature, and there are no others
  pub count : slot_count (reader F) d ≡ length v.1
  pub holds : (k : ℕ) → k < slot_count (reader F) d → slot (reader F) d k ≡ get_or v.1 k []
  -- a slot is 65 bytes of d
  pub wide : (k : ℕ) → k < slot_count (reader F) d → length (slot (reader F) d k) ≡ signature_width
  pub inside : (k : ℕ) → k < slot_count (reader F) d → slot_start F d k + signature_width ≤ length d
  -- a slot comes after the four bytes of the credential count
  pub after-count : (k : ℕ) → k < slot_count (reader F) d → (reader F).credentials_at d + 4 ≤ slot_start F d k
  -- a slot ends before the next one starts, so no two overlap
  pub apart : (j k : ℕ) → j < k → k < slot_count (reader F) d → slot_start F d j + signature_width ≤ slot_start F d k
  -- the bytes before the credential count are those of the unsigned part
  pub unsigned-part : body (reader F) d ≡ (unsigned F).write v.0

pub record SlotsOfReading (F : Family) : Type 0 where
  -- the drafts of demand 3 are exactly the bytes that have a reading
  pub reading : (d : List ℕ) → Draft (reader F) d → (v : Signed F) × (n : ℕ) × (check F d ≡ took v n)
  pub draft : (d : List ℕ) (v : Signed F) (n : ℕ) → Bytes d → check F d ≡ took v n → Draft (reader F) d
  pub slots : (d : List ℕ) (v : Signed F) (n : ℕ) → Bytes d → check F d ≡ took v n → SlotsAre F d v
