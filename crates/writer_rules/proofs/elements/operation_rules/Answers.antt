-- `writer_rules::elements::operation_rules` meets its contract. Assumes nothing.
use Rattle.element.specs.Operations.{operation}
use Rattle.writer_rules.specs.Judged.{judged}
use Rattle.writer_rules.proofs.States.{read-judged}
use Rattle.writer_rules.proofs.elements.operation_rules.Goals as goal

pub returns : goal.returns
unfolding judged
returns c = read-judged operation c.args.bytes.now 0 _ c.operation_at.ensures _ c.all_read.ensures
