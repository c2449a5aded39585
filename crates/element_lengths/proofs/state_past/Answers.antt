-- `element_lengths::state_past` meets its contract. Assumes nothing.
use Rattle.std.proofs.Common.{rules}
use Rattle.wire.specs.Sequence.{and_then}
use Rattle.element_lengths.proofs.Passing.{passing, outputs-repeated, state-passed}
use Rattle.element_lengths.proofs.state_past.Goals as goal

pub returns-in_err-outputs : goal.returns-in_err-outputs
unfolding and_then
returns-in_err-outputs c = state-passed _ _ (search rules) _ (search (passing, c.in_err-outputs.was) depth 8)

pub returns-in_err-count : goal.returns-in_err-count
unfolding and_then
returns-in_err-count c = state-passed _ _ (search rules) _ (search (passing, c.in_ok-outputs.was, c.in_err-count.was) depth 8)

pub returns : goal.returns
unfolding and_then
returns c =
    let list = outputs-repeated _ _ c.args.s.now _ _ c.each_past.ensures (search rules) (λ at x p. search rules) in
    state-passed _ _ (search rules) _ (search (passing, c.in_ok-outputs.was, c.in_ok-count.was) depth 8)
