-- The slots of a draft as the code finds them, by the counts in its credentials. In an accepted transaction they are its slots (`scanned`, in
-- draft/proofs/Scanned). A credential that is cut short has none. Assumes nothing.
use Rattle.std.specs.Prelude.{◌&&◌, List, [], ◌∷◌, ◌++◌, ℕ, zero, suc, ◌+◌, ◌*◌, ltb, eqb, length, get_or, Some, None, Option}
use Rattle.wire.specs.Bytes.{pick}
use Rattle.wire.specs.Fields.{integer, blob}
use Rattle.transaction.specs.Slots.{blank, slot_at, put_slot}
use Rattle.draft_slots.specs.Joining.{same}
use Rattle.draft_slots.specs.declared.SlotRange.{SlotRange}

-- the slots of the credential that starts at `at`
abbrev pub range_at : List ℕ → ℕ → Option SlotRange
range_at s at =
    (blob 4).parse s at (λ e. None) λ t i. (integer 4).parse s i (λ e. None) λ c first. (blob (65 * c)).parse s first (λ e. None)
    λ b next. Some (record { first = first; count = c; next = next })

abbrev pub on_range : {A : Type 0} → Option SlotRange → A → (ℕ → ℕ → ℕ → A) → A
on_range (Some r) stop go = go r.first r.count r.next
on_range None stop go = stop

-- c slots from p on, one after the other
unfoldable pub slot_range : ℕ → ℕ → List ℕ
slot_range zero p = []
slot_range (suc c) p = p ∷ slot_range c (p + 65)

-- the slots of n credentials from q on
unfoldable pub scan_from : ℕ → List ℕ → ℕ → List ℕ
unfolding slot_range
scan_from zero s q = []
scan_from (suc n) s q = on_range (range_at s q) [] λ first c next. slot_range c first ++ scan_from n s next

-- the offset of slot k
abbrev pub placed : List ℕ → ℕ → Option ℕ
placed ps k = pick (ltb k (length ps)) (Some (get_or ps k 0)) None

-- ---- joining in place

-- d, in which the slot at p takes s if it is empty
unfoldable pub joined_at : ℕ → List ℕ → List ℕ → List ℕ
unfolding put_slot same
joined_at p s d = pick (eqb (length s) 65 && same (slot_at d p) blank) (put_slot p s d) d

-- d, in which each of these slots is joined with that of e
unfoldable pub join_all : List ℕ → List ℕ → List ℕ → List ℕ
unfolding joined_at
join_all [] e d = d
join_all (p ∷ ps) e d = join_all ps e (joined_at p (slot_at e p) d)

-- d, joined with the slots of e's n credentials from q on
abbrev pub joined_with : List ℕ → ℕ → ℕ → List ℕ → List ℕ
joined_with e n q d = join_all (scan_from n e q) e d
