-- The iterator over the rows. The invariant: what was ahead is still ahead. Assumes nothing.
use Rattle.entry_walk.specs.code.Walk.{ahead}
use Rattle.entry_table.proofs.Stepping.{Moved}
use Rattle.entry_table.proofs.rows.EntriesIterator.next.Given as goal

abbrev pub invariant-loop-next : goal.invariant-loop-next
invariant-loop-next l = Moved l.initial.self l.self

abbrev pub decreases-loop-next : goal.decreases-loop-next
decreases-loop-next l = ahead l.self.cursor
