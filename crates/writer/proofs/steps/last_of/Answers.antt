-- `writer::steps::last_of` meets its contract. Assumes nothing.
use Rattle.writer.proofs.Entering.{no_last, last-there}
use Rattle.writer.proofs.steps.last_of.Goals as goal

pub returns-then-writer-eq0 : goal.returns-then-writer-eq0
returns-then-writer-eq0 c = search no_last

pub returns : goal.returns
returns c = search last-there
