-- `draft_slot_table::list_slots_within` meets its contract. Assumes nothing.
use Rattle.wire.proofs.Trying.{passed-on}
use Rattle.draft.proofs.Known.{start_fits}
use Rattle.draft_slot_table.proofs.Listing.{short, room, listing}
use Rattle.draft_slot_table.proofs.list_slots_within.Goals as goal

pub returns-in_err-layout : goal.returns-in_err-layout
returns-in_err-layout c = search (listing, passed-on, c.in_err-layout.was)

pub overflow_add-at : goal.overflow_add-at
overflow_add-at c = search (start_fits, c.in_ok-layout.was)

pub returns-then-table-slots : goal.returns-then-table-slots
returns-then-table-slots c = search (listing, c.in_ok-layout.was)

pub put_slots-requires : goal.put_slots-requires
put_slots-requires c = record { s_len_bound = search (short, c.in_ok-layout.was); at_in_bounds = search (room, c.in_ok-layout.was) }

pub returns : goal.returns
returns c = search (listing, c.in_ok-layout.was)
