-- `checker::check::signed_at` meets its contract. Assumes nothing.
use Rattle.transaction.proofs.Checking.{signing}
use Rattle.checker.proofs.check.signed_at.Goals as goal

pub returns-in_err-end : goal.returns-in_err-end
returns-in_err-end c = search (signing, c.in_err-end.was) depth 12

pub returns-then-end-s : goal.returns-then-end-s
returns-then-end-s c = search (signing, c.in_ok-end.was) depth 12

pub returns : goal.returns
returns c = search (signing, c.in_ok-end.was) depth 12
