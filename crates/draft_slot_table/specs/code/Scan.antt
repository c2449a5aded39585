-- The slots of a transaction as the code finds them, by the counts in its credentials. In an accepted transaction they are its slots
-- (`scanned-slots`, in proofs/Accepted). A credential that is cut short has none. Assumes nothing.
use Rattle.std.specs.Prelude.{ℕ, zero, suc, ◌+◌, List, [], ◌∷◌, ◌++◌}
use Rattle.std.proofs.lemmas.List.Edits.{sets}
use Rattle.draft_slots.specs.code.Scan.{range_at, on_range}
use Rattle.draft_slot_table.specs.Slots.{Slot, slot_in}

-- c slots of credential k from p on, one after the other
unfoldable pub slots_in : ℕ → ℕ → ℕ → List Slot
slots_in k zero p = []
slots_in k (suc c) p = slot_in k p ∷ slots_in k c (p + 65)

-- the slots of n credentials from q on, the first of which is number k
unfoldable pub scan_from : ℕ → ℕ → List ℕ → ℕ → List Slot
unfolding slots_in
scan_from k zero s q = []
scan_from k (suc n) s q = on_range (range_at s q) [] λ first c next. slots_in k c first ++ scan_from (suc k) n s next

-- the table t with l written from index i on. Not unfolded, so that proof search finds its arguments
unfoldable pub put : List ℕ → ℕ → List ℕ → List ℕ
put t i l = sets t i l
