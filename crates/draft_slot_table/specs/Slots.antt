-- The slots of a transaction as rows of a table, from the credentials that it wants and where they are. For any unsigned format and any rule for
-- the credentials that it wants, and so for any family. Assumes nothing.
use Rattle.std.specs.Prelude.{ℕ, suc, ◌+◌, cond, List, [], ◌∷◌, ◌++◌, map}
use Rattle.wire.specs.Format.{Format, Parsed, took, refused, read}
use Rattle.transaction.specs.Slots.{blank, slot_at}
use Rattle.transaction.specs.Credentials.{Want, credential, places, size}
use Rattle.draft_slots.specs.Joining.{same}

-- a slot: the number of its credential, from 0, and the offset of its first byte
pub record Slot : Type 0 where
  pub credential : ℕ
  pub place : ℕ

abbrev pub slot_in : ℕ → ℕ → Slot
slot_in k p = record { credential = k; place = p }

-- the slots of credentials from p on, one after the other, the first of which is number k
unfoldable pub slots_from : ℕ → ℕ → List Want → List Slot
unfolding places size
slots_from k p [] = []
slots_from k p (w ∷ ws) = map (slot_in k) (places p (credential w [])) ++ slots_from (suc k) (p + size (credential w [])) ws

-- the first credential follows the 4 bytes of the count
abbrev pub slots_of : {U : Type 0} → (U → List Want) → Parsed U → List Slot
slots_of wants (took u m) = slots_from 0 (m + 4) (wants u)
slots_of wants (refused e) = []

-- in slot order, by the reading of the bytes before the credential count
abbrev pub slot_list : {U : Type 0} → Format U → (U → List Want) → List ℕ → List Slot
slot_list body wants d = slots_of wants (read body d 0)

-- ---- the rows

-- 0 if the slot at p is empty, 1 if it is filled
unfoldable pub filled_at : List ℕ → ℕ → ℕ
unfolding same
filled_at d p = cond (same (slot_at d p) blank) 0 1

-- credential, offset, filled
unfoldable pub row : List ℕ → Slot → List ℕ
unfolding filled_at
row d x = x.credential ∷ x.place ∷ filled_at d x.place ∷ []

unfoldable pub rows : List ℕ → List Slot → List ℕ
unfolding row
rows d [] = []
rows d (x ∷ l) = row d x ++ rows d l
