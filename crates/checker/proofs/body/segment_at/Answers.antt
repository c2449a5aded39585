-- `checker::body::segment_at` meets its contract. Assumes nothing.
use Rattle.checker.proofs.Planning.{passing}
use Rattle.checker.proofs.body.segment_at.Goals as goal

pub returns-in-Nothing : goal.returns-in-Nothing
returns-in-Nothing c = search passing depth 12

pub returns-in_err-next-in-Field : goal.returns-in_err-next-in-Field
returns-in_err-next-in-Field c = search (passing, c.in_err-next-in-Field.was) depth 12

pub returns-then-field_credential-eq0 : goal.returns-then-field_credential-eq0
returns-then-field_credential-eq0 c = search (passing, c.in_ok-next-in-Field.was) depth 12

pub returns-else-field_credential-eq0 : goal.returns-else-field_credential-eq0
returns-else-field_credential-eq0 c = search (passing, c.in_ok-next-in-Field.was) depth 12

pub returns-in_err-count-in-List : goal.returns-in_err-count-in-List
returns-in_err-count-in-List c = search (passing, c.in_err-count-in-List.was) depth 12

pub returns-then-credential_of-eq0 : goal.returns-then-credential_of-eq0
returns-then-credential_of-eq0 c = search (passing, c.in_ok-count-in-List.was) depth 12

pub returns-else-credential_of-eq0 : goal.returns-else-credential_of-eq0
returns-else-credential_of-eq0 c = search (passing, c.in_ok-count-in-List.was) depth 12
