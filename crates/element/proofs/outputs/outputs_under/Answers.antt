use Rattle.std.proofs.Common.{rules, ◌∙◌}
use Rattle.wire.specs.code.Answer.{ended}
use Rattle.element.specs.Outputs.{output}
use Rattle.element.specs.Operations.{fx_of, fx_outputs}
use Rattle.element.proofs.Reading.{ordered-start}
use Rattle.element.proofs.outputs.outputs_under.Goals as goal

pub returns : goal.returns
returns c =
    let F = output (fx_outputs (fx_of c.args.fx)) in
    c.outputs_by.ensures (λ at. ended F c.args.s.now at) (λ at r h. search rules) ∙ ordered-start F _ c.type_inv.s _ _
