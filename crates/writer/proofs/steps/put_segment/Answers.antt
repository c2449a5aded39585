-- `writer::steps::put_segment` meets its contract. Assumes nothing.
use Rattle.writer.proofs.Settling.{segment-settled}
use Rattle.writer.proofs.steps.put_segment.Goals as goal

pub returns : goal.returns
returns c = search segment-settled
