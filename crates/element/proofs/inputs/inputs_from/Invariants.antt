-- The invariant: parsing what is left, given the key of the input before, gives the answer of the list. Assumes nothing.
use Rattle.std.proofs.Common.{◌≡◌, ◌-◌}
use Rattle.wire.specs.Series.{series}
use Rattle.wire.specs.code.Answer.{ended}
use Rattle.element.specs.Inputs.{input}
use Rattle.element.proofs.Reading.{GoodBefore, key_before, inputs_after}
use Rattle.element.proofs.inputs.inputs_from.Given as goal

abbrev pub invariant-loop : goal.invariant-loop
invariant-loop l = GoodBefore l.prev
    × (ended (inputs_after (key_before l.prev) (l.count - l.counter)) l.s l.at ≡ ended (series input l.count) l.s l.start)
