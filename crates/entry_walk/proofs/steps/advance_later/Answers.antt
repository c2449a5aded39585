-- `entry_walk::steps::advance_later` meets its contract. Assumes nothing.
use Rattle.entry_walk.proofs.Advancing.{leading}
use Rattle.entry_walk.proofs.steps.advance_later.Goals as goal

pub returns-then-cursor-gt-LAST_PHASE-clause-later_advance : goal.returns-then-cursor-gt-LAST_PHASE-clause-later_advance
returns-then-cursor-gt-LAST_PHASE-clause-later_advance c = search leading

pub returns-in-Nothing-clause-later_advance : goal.returns-in-Nothing-clause-later_advance
returns-in-Nothing-clause-later_advance c = search leading

pub returns-in-Finish-clause-later_advance : goal.returns-in-Finish-clause-later_advance
returns-in-Finish-clause-later_advance c = search leading

pub returns-in-Field-clause-later_advance : goal.returns-in-Field-clause-later_advance
returns-in-Field-clause-later_advance c = search leading
