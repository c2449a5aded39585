-- `writer_transfers::put_integer_after` meets its contract. Assumes nothing.
use Rattle.writer_transfers.proofs.Heads.{integer-after}
use Rattle.writer_transfers.proofs.put_integer_after.Goals as goal

pub returns : goal.returns
returns c = search integer-after
