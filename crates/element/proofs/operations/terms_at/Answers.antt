-- `element::operations::terms_at` meets its contract. Assumes nothing.
use Rattle.element.proofs.Reading.{reading}
use Rattle.element.specs.Operations.{terms}
use Rattle.element.proofs.operations.terms_at.Goals as goal

pub returns-in_err-count : goal.returns-in_err-count
unfolding terms
returns-in_err-count c = search (reading, c.in_err-count.was) depth 12

pub returns-in_err-group_at : goal.returns-in_err-group_at
unfolding terms
returns-in_err-group_at c = search (reading, c.in_ok-count.was, c.in_err-group_at.was) depth 12

pub returns-in_err-payload_at : goal.returns-in_err-payload_at
unfolding terms
returns-in_err-payload_at c = search (reading, c.in_ok-count.was, c.in_ok-group_at.was, c.in_err-payload_at.was) depth 12

pub returns : goal.returns
unfolding terms
returns c = search (reading, c.in_ok-count.was, c.in_ok-group_at.was, c.in_ok-payload_at.was) depth 12
