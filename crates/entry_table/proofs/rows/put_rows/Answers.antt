-- `entry_table::rows::put_rows` meets its contract. Assumes nothing.
use Rattle.entry_table.proofs.Looping.{put-each}
use Rattle.entry_table.proofs.rows.put_rows.Goals as goal

pub returns : goal.returns
returns c = put-each _ _ _ c.new.ensures _ _ _ _ _ c.zip-i-items.ensures.first c.zip-i-items.ensures.second c.into_iter-i-iterator.ensures.into_iter_gives
    _ _ _ _ c.loop-i.yielded_by c.in-None.is c.next.ensures.steps c.loop-i.invariant.stored
