-- `entry_walk::steps::advance` meets its contract. Assumes nothing.
use Rattle.entry_walk.proofs.Advancing.{stepping}
use Rattle.entry_walk.proofs.steps.advance.Goals as goal

pub returns-in-Nothing-clause-advance_ahead : goal.returns-in-Nothing-clause-advance_ahead
returns-in-Nothing-clause-advance_ahead c = search stepping

pub returns-in-Finish-clause-advance_ahead : goal.returns-in-Finish-clause-advance_ahead
returns-in-Finish-clause-advance_ahead c = search stepping

pub returns-in-Finish-2-clause-advance_ahead : goal.returns-in-Finish-2-clause-advance_ahead
returns-in-Finish-2-clause-advance_ahead c = search stepping

pub returns-in-List-clause-advance_ahead : goal.returns-in-List-clause-advance_ahead
returns-in-List-clause-advance_ahead c = search stepping

pub returns-in-List-2-clause-advance_ahead : goal.returns-in-List-2-clause-advance_ahead
returns-in-List-2-clause-advance_ahead c = search stepping

pub returns-in-List-3-clause-advance_ahead : goal.returns-in-List-3-clause-advance_ahead
returns-in-List-3-clause-advance_ahead c = search stepping
