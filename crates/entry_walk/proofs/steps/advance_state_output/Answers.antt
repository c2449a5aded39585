-- `entry_walk::steps::advance_state_output` meets its contract. Assumes nothing.
use Rattle.entry_walk.proofs.Advancing.{crediting}
use Rattle.entry_walk.proofs.steps.advance_state_output.Goals as goal

pub returns-in_default-clause-state_output_advance : goal.returns-in_default-clause-state_output_advance
returns-in_default-clause-state_output_advance c = search crediting

pub returns-clause-state_output_advance : goal.returns-clause-state_output_advance
returns-clause-state_output_advance c = search crediting
