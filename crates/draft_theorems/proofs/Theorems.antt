-- THE THEOREMS, for every family, and so for the AVM. Assumes nothing.
use Rattle.transaction.specs.Family.{Family, unsigned, wants}
use Rattle.transaction.specs.Avm.{avm}
use Rattle.transaction.specs.Answer.{memo_most}
use Rattle.draft.specs.Reader.{Reader, reader}
use Rattle.draft_theorems.specs.Demand.{Demand3}
use Rattle.draft_theorems.specs.Order.{Orders}
use Rattle.draft_theorems.specs.Filling.{Filling, ReadingFilled}
use Rattle.draft_theorems.specs.Slots.{SlotsOfReading}
use Rattle.draft_theorems.specs.Answers.{CallsOwe, CallsDecide}
use Rattle.draft_theorems.proofs.Demand.{demand3}
use Rattle.draft_theorems.proofs.Reading.{laws}
use Rattle.draft_theorems.proofs.Ordering as Ordering
use Rattle.draft_theorems.proofs.Filling as Filling
use Rattle.draft_theorems.proofs.Refilling as Refilling
use Rattle.draft_theorems.proofs.Slotting as Slotting
use Rattle.draft_theorems.proofs.Answering as Answering
use Rattle.draft_theorems.proofs.Deciding as Deciding

module _ (F : Family) where
  pub demand-3 : Demand3 (reader F)
  demand-3 = demand3 (reader F) (laws (unsigned F) (wants F))

  pub orders : Orders (reader F)
  orders = Ordering.orders (reader F) demand-3

  pub filling : Filling (reader F)
  filling = Filling.filling (reader F) (laws (unsigned F) (wants F))

  pub reading-filled : ReadingFilled F
  reading-filled = Refilling.reading-filled F

  pub slots-of-reading : SlotsOfReading F
  slots-of-reading = Slotting.slots-of-reading F

  pub calls-owe : CallsOwe (reader F)
  calls-owe = Answering.calls-owe (reader F)

  pub calls-decide : CallsDecide (reader F)
  calls-decide = Deciding.calls-decide (reader F) (laws (unsigned F) (wants F))

-- ---- the AVM

-- the AVM's family with the base's limit on memos, fixed here only
abbrev base : Family
base = avm memo_most

abbrev Avm : Reader
Avm = reader base

pub avm-demand-3 : Demand3 Avm
avm-demand-3 = demand-3 base

pub avm-orders : Orders Avm
avm-orders = orders base

pub avm-filling : Filling Avm
avm-filling = filling base

pub avm-reading-filled : ReadingFilled base
avm-reading-filled = reading-filled base

pub avm-slots-of-reading : SlotsOfReading base
avm-slots-of-reading = slots-of-reading base

pub avm-calls-owe : CallsOwe Avm
avm-calls-owe = calls-owe base

pub avm-calls-decide : CallsDecide Avm
avm-calls-decide = calls-decide base
