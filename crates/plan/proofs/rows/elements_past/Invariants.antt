-- `plan::rows::elements_past` meets its contract. The invariant: what skips the elements that are left skips all of them. Assumes nothing.
use Rattle.plan.proofs.Passing.{ElementsOnward}
use Rattle.plan.proofs.rows.elements_past.Given as goal

abbrev pub invariant-loop : goal.invariant-loop
invariant-loop l = ElementsOnward l.list l.s l.count l.first l.counter l.at
