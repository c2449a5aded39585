-- `credentials::asking::element_wanted` meets its contract. Assumes nothing.
use Rattle.credentials.proofs.Ahead.{element-unread, element-wanted}
use Rattle.credentials.proofs.asking.element_wanted.Goals as goal

pub returns-in_err-signatures : goal.returns-in_err-signatures
returns-in_err-signatures c = search (element-unread, c.in_err-signatures.was) depth 12

pub returns : goal.returns
returns c = search (element-wanted, c.in_ok-signatures.was) depth 12
