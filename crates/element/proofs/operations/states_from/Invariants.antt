-- The invariant: parsing what is left, given the FxID of the state before, gives the answer of the list. Assumes nothing.
use Rattle.std.proofs.Common.{◌≡◌, ◌-◌}
use Rattle.wire.specs.Series.{series}
use Rattle.wire.specs.code.Answer.{ended}
use Rattle.element.specs.Operations.{initial_state}
use Rattle.element.proofs.Reading.{Small, integer_before, states_after}
use Rattle.element.proofs.operations.states_from.Given as goal

abbrev pub invariant-loop : goal.invariant-loop
invariant-loop l = Small l.prev
    × (ended (states_after (integer_before l.prev) (l.count - l.counter)) l.s l.at ≡ ended (series initial_state l.count) l.s l.start)
