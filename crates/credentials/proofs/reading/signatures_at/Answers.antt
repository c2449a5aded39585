-- `credentials::reading::signatures_at` meets its contract. Assumes nothing.
use Rattle.transaction.proofs.CredentialLaws.{signatures-fit}
use Rattle.credentials.proofs.Signatures.{signatures-all, signatures-cut}
use Rattle.credentials.proofs.reading.signatures_at.Goals as goal

pub overflow_mul-count : goal.overflow_mul-count
overflow_mul-count c = search signatures-fit

pub returns-in-Ok : goal.returns-in-Ok
returns-in-Ok c = search signatures-all

pub returns-in-Err : goal.returns-in-Err
returns-in-Err c = search signatures-cut
