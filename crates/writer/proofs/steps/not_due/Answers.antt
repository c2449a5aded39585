-- `writer::steps::not_due` meets its contract. Assumes nothing.
use mathlib.Core.Path.{ap, ◌∙◌}
use Rattle.writer.specs.code.Answer.{refused_step}
use Rattle.writer.proofs.steps.not_due.Goals as goal

pub returns : goal.returns
returns c = c.refused.ensures ∙ ap (refused_step c.args.writer) c.refuse.ensures
