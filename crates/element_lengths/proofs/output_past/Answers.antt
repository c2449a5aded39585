-- `element_lengths::output_past` meets its contract. Assumes nothing.
use Rattle.element_lengths.proofs.Passing.{typed}
use Rattle.element_lengths.proofs.output_past.Goals as goal

pub returns-in_err-type_id : goal.returns-in_err-type_id
returns-in_err-type_id c = search (typed, c.in_err-type_id.was)

pub returns-in-6 : goal.returns-in-6
returns-in-6 c = search (typed, c.in_ok-type_id.was)

pub returns-in-7 : goal.returns-in-7
returns-in-7 c = search (typed, c.in_ok-type_id.was)

pub returns-in-10 : goal.returns-in-10
returns-in-10 c = search (typed, c.in_ok-type_id.was)

pub returns-in_default : goal.returns-in_default
returns-in_default c = search (typed, c.in_ok-type_id.was)
