-- `checker::body::unsigned_at` meets its contract. Assumes nothing.
use Rattle.checker.proofs.Unsigned.{unsigning}
use Rattle.transaction.specs.Family.{unsigned}
use Rattle.checker.proofs.body.unsigned_at.Goals as goal

pub returns-in_err-number : goal.returns-in_err-number
unfolding unsigned
returns-in_err-number c = search (unsigning, c.in_err-number.was) depth 12

pub returns-in_err-inputs_at : goal.returns-in_err-inputs_at
unfolding unsigned
returns-in_err-inputs_at c = search (unsigning, c.in_ok-number.was, c.in_err-inputs_at.was) depth 12

pub returns : goal.returns
unfolding unsigned
returns c = search (unsigning, c.in_ok-number.was, c.in_ok-inputs_at.was) depth 12
