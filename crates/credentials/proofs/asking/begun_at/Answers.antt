-- `credentials::asking::begun_at` meets its contract. Assumes nothing.
use Rattle.credentials.proofs.Ahead.{beginning}
use Rattle.credentials.proofs.asking.begun_at.Goals as goal

pub returns-then-asks-eq0 : goal.returns-then-asks-eq0
returns-then-asks-eq0 c = search beginning depth 12

pub returns-in-Nothing : goal.returns-in-Nothing
returns-in-Nothing c = search beginning depth 12

pub returns-in-List : goal.returns-in-List
returns-in-List c = search beginning depth 12

pub returns-else-asks-eq0 : goal.returns-else-asks-eq0
returns-else-asks-eq0 c = search beginning depth 12
