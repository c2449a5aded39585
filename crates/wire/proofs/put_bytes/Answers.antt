-- `wire::put_bytes` meets its contract. Assumes nothing.
use Rattle.wire.proofs.Bytes.{copy_some}
use Rattle.wire.proofs.put_bytes.Goals as goal

pub returns : goal.returns
returns c = search copy_some
