-- `element_lengths::recipients_past` meets its contract. Assumes nothing.
use Rattle.std.proofs.Common.{rules}
use Rattle.element_lengths.proofs.Passing.{typed, owners-repeated}
use Rattle.element_lengths.proofs.recipients_past.Goals as goal

pub returns-in_err-count-in-12 : goal.returns-in_err-count-in-12
returns-in_err-count-in-12 c = search (typed, c.in_err-count-in-12.was)

pub returns-in_ok-count-in-12 : goal.returns-in_ok-count-in-12
returns-in_ok-count-in-12 c = search (typed, c.in_ok-count-in-12.was, owners-repeated _ _ c.args.s.now _ _ c.each_past.ensures (λ at x p. search rules))

pub returns-in_default : goal.returns-in_default
returns-in_default c = search typed
