-- The invariant: parsing what is left, given the bytes of the index before, gives the answer of the list. Assumes nothing.
use Rattle.std.proofs.Common.{◌≡◌, ◌-◌}
use Rattle.wire.specs.Fields.{integer}
use Rattle.wire.specs.Series.{above, series_from, increasing}
use Rattle.wire.specs.code.Answer.{ended}
use Rattle.element.proofs.Reading.{Small, integer_before}
use Rattle.element.proofs.inputs.indices_from.Given as goal

abbrev pub invariant-loop : goal.invariant-loop
invariant-loop l = Small l.prev
    × (ended (series_from (above (integer 4)) (integer_before l.prev) (l.count - l.counter)) l.s l.at ≡ ended (increasing (integer 4) l.count) l.s l.start)
