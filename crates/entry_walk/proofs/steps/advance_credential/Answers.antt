-- `entry_walk::steps::advance_credential` meets its contract. Assumes nothing.
use Rattle.entry_walk.proofs.Advancing.{crediting}
use Rattle.entry_walk.proofs.steps.advance_credential.Goals as goal

pub returns-in_default-clause-credential_advance : goal.returns-in_default-clause-credential_advance
returns-in_default-clause-credential_advance c = search crediting

pub returns-clause-credential_advance : goal.returns-clause-credential_advance
returns-clause-credential_advance c = search crediting
