-- `entry_walk::steps::advance_state` meets its contract. Assumes nothing.
use Rattle.entry_walk.proofs.Advancing.{entering, state-shorter}
use Rattle.entry_walk.proofs.steps.advance_state.Goals as goal

pub returns-in_default-clause-element_advance : goal.returns-in_default-clause-element_advance
returns-in_default-clause-element_advance c = search entering

pub returns-in_default-u32_at-clause-element_advance : goal.returns-in_default-u32_at-clause-element_advance
returns-in_default-u32_at-clause-element_advance c = search entering

pub returns-clause-element_advance : goal.returns-clause-element_advance
returns-clause-element_advance c = search entering

pub returns-clause-shorter : goal.returns-clause-shorter
returns-clause-shorter c = search state-shorter
