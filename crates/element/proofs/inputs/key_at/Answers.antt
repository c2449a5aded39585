-- `element::inputs::key_at` meets its contract. Assumes nothing.
use Rattle.element.proofs.Reading.{reading}
use Rattle.element.specs.Inputs.{key}
use Rattle.element.proofs.inputs.key_at.Goals as goal

pub returns-in_err-index_at : goal.returns-in_err-index_at
unfolding key
returns-in_err-index_at c = search (reading, c.in_err-index_at.was) depth 12

pub returns : goal.returns
unfolding key
returns c = search (reading, c.in_ok-index_at.was) depth 12
