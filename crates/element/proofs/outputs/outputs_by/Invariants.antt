-- The invariant: what is left, as the reader's answers are known, gives the answer of the list. Assumes nothing.
use Rattle.std.proofs.Common.{◌≡◌, ℕ, Result, ◌-◌}
use Rattle.wire.specs.declared.Refusal.{Refusal}
use Rattle.element.specs.code.Answer.{ordered}
use Rattle.element.proofs.outputs.outputs_by.Given as goal

abbrev pub invariant-loop : goal.invariant-loop
invariant-loop g l = (f : ℕ → Result ℕ Refusal) → ((at : ℕ) (r : _) → goal.F-post g l.read at r → r ≡ f at)
    → ordered f l.s l.prev l.at (l.count - l.counter) ≡ ordered f l.s l.start l.start l.count
