-- `entry_walk::steps::advance_counted` meets its contract. Assumes nothing.
use Rattle.entry_walk.proofs.Advancing.{counted-short, counted-into, counted-entered}
use Rattle.entry_walk.proofs.steps.advance_counted.Goals as goal

pub returns-in_default-clause-counted_advance : goal.returns-in_default-clause-counted_advance
returns-in_default-clause-counted_advance c = search counted-short

pub returns-clause-counted_advance : goal.returns-clause-counted_advance
returns-clause-counted_advance c = search counted-into

pub returns-clause-entered : goal.returns-clause-entered
returns-clause-entered c = search counted-entered
