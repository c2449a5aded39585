-- `writer_transfers::output_below` meets its contract. Assumes nothing.
use Rattle.writer_transfers.proofs.Pieces.{output-few, output-many}
use Rattle.writer_transfers.proofs.output_below.Goals as goal

pub returns-then-count-clause-value : goal.returns-then-count-clause-value
returns-then-count-clause-value c = search output-many

pub returns : goal.returns
returns c = search output-few
