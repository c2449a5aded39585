-- `writer_transfers::pieces_below` meets its contract. Assumes nothing.
use Rattle.writer_transfers.proofs.Pieces.{pieces-below, pieces-equal, pieces-above}
use Rattle.writer_transfers.proofs.pieces_below.Goals as goal

pub returns-in-Less : goal.returns-in-Less
returns-in-Less c = search pieces-below

pub returns-in-Equal : goal.returns-in-Equal
returns-in-Equal c = search pieces-equal

pub returns-in-Greater : goal.returns-in-Greater
returns-in-Greater c = search pieces-above
