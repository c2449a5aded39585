use Rattle.draft_slots.proofs.Scanning.{range-ends, slots-counted}
use Rattle.draft_slot_table.proofs.Scanning.{counting}
use Rattle.draft_slot_table.proofs.count.Goals as goal

pub returns-in_default : goal.returns-in_default
returns-in_default c = search counting

pub overflow_add-slots : goal.overflow_add-slots
overflow_add-slots c = search slots-counted

pub loop-preserved : goal.loop-preserved
loop-preserved c = (search counting, search range-ends)

pub returns : goal.returns
returns c = search counting
