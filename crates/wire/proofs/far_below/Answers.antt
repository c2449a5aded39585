use mathlib.Core.Path.{ap, ◌∙◌}
use Rattle.std.specs.Ordering.{is_lt}
use Rattle.wire.proofs.Bytes.{order-lt}
use Rattle.wire.proofs.far_below.Goals as goal

pub returns : goal.returns
returns c = c.is_lt.ensures ∙ ap is_lt c.order_of.ensures ∙ order-lt _ _
