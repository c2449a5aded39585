-- `next` of the iterator over the rows meets its contract. Assumes nothing.
use Rattle.entry_table.proofs.Stepping.{stepping}
use Rattle.entry_table.proofs.rows.EntriesIterator.next.Goals as goal

pub returns-in-Done-clause-steps : goal.returns-in-Done-clause-steps
returns-in-Done-clause-steps c = search stepping

pub loop-next-preserved : goal.loop-next-preserved
loop-next-preserved c = search stepping

pub returns-in-Found-clause-steps : goal.returns-in-Found-clause-steps
returns-in-Found-clause-steps c = search stepping
