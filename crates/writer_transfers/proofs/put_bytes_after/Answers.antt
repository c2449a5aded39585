-- `writer_transfers::put_bytes_after` meets its contract. Assumes nothing.
use Rattle.writer_transfers.proofs.Heads.{bytes_after}
use Rattle.writer_transfers.proofs.put_bytes_after.Goals as goal

pub returns : goal.returns
returns c = search bytes_after
