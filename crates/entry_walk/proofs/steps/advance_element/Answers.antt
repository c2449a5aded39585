-- `entry_walk::steps::advance_element` meets its contract. Assumes nothing.
use Rattle.entry_walk.proofs.Advancing.{entering}
use Rattle.entry_walk.proofs.steps.advance_element.Goals as goal

pub returns-in_default-clause-element_advance : goal.returns-in_default-clause-element_advance
returns-in_default-clause-element_advance c = search entering

pub returns-clause-element_advance : goal.returns-clause-element_advance
returns-clause-element_advance c = search entering
