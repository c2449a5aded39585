-- `credentials::asking::next_wanted_fast` meets its contract. Assumes nothing.
use Rattle.credentials.proofs.asking.next_wanted_fast.Goals as goal

pub returns-then-from-gt0 : goal.returns-then-from-gt0
returns-then-from-gt0 c = c.element_wanted.ensures c.args.type_id
