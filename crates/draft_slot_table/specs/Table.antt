-- The slots of a transaction listed in a lent table: the answer, and every number of the table afterwards. Assumes nothing.
use Rattle.std.specs.Prelude.{ℕ, ◌*◌, List, ◌++◌, length, drop, leb, Ok, Err}
use Rattle.wire.specs.Bytes.{pick}
use Rattle.wire.specs.Numbers.{refusal, no_room}
use Rattle.wire.specs.Format.{on_result}
use Rattle.transaction.specs.Family.{unsigned, wants, check}
use Rattle.transaction.specs.Avm.{avm}
use Rattle.entry_table.specs.Table.{Filled, filled}
use Rattle.draft_slot_table.specs.Slots.{Slot, slot_list, rows}

-- if there is room for all rows, three numbers each, they are written to the front; else nothing changes
abbrev pub listed : ℕ → List ℕ → List Slot → List ℕ → Filled
listed end s l t =
    pick (leb (3 * length l) (length t)) (filled (Ok (length l, end)) (rows s l ++ drop (3 * length l) t)) (filled (Err (refusal no_room 0)) t)

-- with memos of at most `most` bytes
module _ (most : ℕ) where
  -- the slots of s
  abbrev pub slots : List ℕ → List Slot
  slots s = slot_list (unsigned (avm most)) (wants (avm most)) s

  -- room is judged after all rules
  abbrev pub tabled_slots : List ℕ → List ℕ → Filled
  tabled_slots s t = on_result (check (avm most) s) (λ e. filled (Err e) t) (λ v end. listed end s (slots s) t)
