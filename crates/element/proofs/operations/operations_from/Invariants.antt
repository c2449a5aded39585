-- The invariant: parsing what is left gives the answer of the list. Assumes nothing.
use Rattle.std.proofs.Common.{◌≡◌, ◌-◌}
use Rattle.wire.specs.Series.{unordered}
use Rattle.wire.specs.code.Answer.{ended}
use Rattle.element.specs.Operations.{operation}
use Rattle.element.proofs.operations.operations_from.Given as goal

abbrev pub invariant-loop : goal.invariant-loop
invariant-loop l = ended (unordered operation (l.count - l.counter)) l.s l.at ≡ ended (unordered operation l.count) l.s l.start
