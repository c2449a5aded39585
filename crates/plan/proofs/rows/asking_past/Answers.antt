-- `plan::rows::asking_past` meets its contract. Assumes nothing.
use Rattle.plan.proofs.Passing.{asking-operation, asking-input}
use Rattle.plan.proofs.rows.asking_past.Goals as goal

pub returns-then-credential-eq-NFT_CREDENTIAL : goal.returns-then-credential-eq-NFT_CREDENTIAL
returns-then-credential-eq-NFT_CREDENTIAL c = search asking-operation depth 12

pub returns : goal.returns
returns c = search asking-input depth 12
