-- `writer_buffer::put_at` meets its contract. Assumes nothing.
use Rattle.writer_buffer.proofs.Stores.{bytes_back}
use Rattle.writer_buffer.proofs.put_at.Goals as goal

pub returns : goal.returns
returns c = search bytes_back
