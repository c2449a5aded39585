-- `element_lengths::each_past` meets its contract. The invariant: what the steps that are left answer, all steps answer. Assumes nothing.
use Rattle.std.proofs.Common.{◌-◌}
use Rattle.element_lengths.proofs.Repeating.{Goes}
use Rattle.element_lengths.proofs.each_past.Given as goal

abbrev pub invariant-loop : goal.invariant-loop
invariant-loop g l = Goes (goal.F-post g l.past) (l.count - l.counter) l.at l.count l.start
