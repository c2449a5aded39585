use Rattle.wire.proofs.Bytes.{slice-order}
use Rattle.wire.proofs.order_of.Goals as goal

pub returns : goal.returns
returns c = slice-order _ _ _ c.cmp.ensures
