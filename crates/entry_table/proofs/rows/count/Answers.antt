-- `entry_table::rows::count` meets its contract. Assumes nothing.
use Rattle.entry_table.proofs.Looping.{count-most}
use Rattle.entry_table.proofs.rows.count.Goals as goal

pub returns : goal.returns
returns c = count-most _ _ _ c.new.ensures _ _ _ _ c.take.ensures.source c.take.ensures.count c.count-rows.ensures.ran c.then_some.ensures
