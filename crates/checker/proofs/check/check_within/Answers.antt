-- `checker::check::check_within` meets its contract. Assumes nothing.
use Rattle.transaction.proofs.Checking.{checking}
use Rattle.checker.proofs.check.check_within.Goals as goal

pub returns-then-s-gt-MOST_BYTES : goal.returns-then-s-gt-MOST_BYTES
returns-then-s-gt-MOST_BYTES c = search checking depth 12

pub returns-in_err-layout : goal.returns-in_err-layout
returns-in_err-layout c = search (checking, c.in_err-layout.was) depth 12

pub returns : goal.returns
returns c = search (checking, c.in_ok-layout.was) depth 12
