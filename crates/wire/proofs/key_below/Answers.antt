use Rattle.wire.proofs.Bytes.{order-key}
use Rattle.wire.proofs.key_below.Goals as goal

pub returns-in-Less : goal.returns-in-Less
returns-in-Less c = search order-key

pub returns-in-Equal : goal.returns-in-Equal
returns-in-Equal c = search order-key

pub returns-in-Greater : goal.returns-in-Greater
returns-in-Greater c = search order-key
