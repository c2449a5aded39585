use Rattle.std.proofs.Common.{rules, ◌∙◌}
use Rattle.wire.specs.code.Answer.{ended}
use Rattle.element.specs.Outputs.{transferable_output}
use Rattle.element.proofs.Reading.{ordered-start}
use Rattle.element.proofs.outputs.outputs_from.Goals as goal

pub returns : goal.returns
returns c =
    c.outputs_by.ensures (λ at. ended transferable_output c.args.s.now at) (λ at r h. search rules)
    ∙ ordered-start transferable_output _ c.type_inv.s _ _
