-- `credentials::reading::credential_at` meets its contract. Assumes nothing.
use Rattle.transaction.proofs.Reading.{piecewise}
use Rattle.credentials.proofs.Signatures.{wanted-fit}
use Rattle.transaction.specs.Credentials.{pieces}
use Rattle.wire.specs.Fields.{constant}
use Rattle.credentials.proofs.reading.credential_at.Goals as goal

pub returns-in_err-found : goal.returns-in_err-found
unfolding pieces constant
returns-in_err-found c = search (piecewise, c.in_err-found.was) depth 12

pub returns-then-found-type_id : goal.returns-then-found-type_id
unfolding pieces constant
returns-then-found-type_id c = search (piecewise, c.in_ok-found.was) depth 12

pub returns-in_err-count : goal.returns-in_err-count
unfolding pieces constant
returns-in_err-count c = search (piecewise, c.in_ok-found.was, c.in_err-count.was) depth 12

pub returns-then-count-wanted : goal.returns-then-count-wanted
unfolding pieces constant
returns-then-count-wanted c = search (piecewise, c.in_ok-found.was, c.in_ok-count.was) depth 12

pub signatures_at-requires : goal.signatures_at-requires
unfolding pieces constant
signatures_at-requires c = search (wanted-fit _ _ c.if-count-wanted.false, c.in_ok-found.was, c.in_ok-count.was)

pub returns : goal.returns
unfolding pieces constant
returns c = search (piecewise, c.in_ok-found.was, c.in_ok-count.was) depth 12
