-- The invariant: parsing what is left, given the bytes of the pair before, gives the answer of the list. Assumes nothing.
use Rattle.std.proofs.Common.{◌≡◌, ◌-◌}
use Rattle.wire.specs.Series.{above, series_from, increasing}
use Rattle.wire.specs.code.Answer.{ended}
use Rattle.element.specs.Inputs.{key}
use Rattle.element.proofs.Reading.{GoodBefore, key_before}
use Rattle.element.proofs.operations.pairs_from.Given as goal

abbrev pub invariant-loop : goal.invariant-loop
invariant-loop l = GoodBefore l.prev
    × (ended (series_from (above key) (key_before l.prev) (l.count - l.counter)) l.s l.at ≡ ended (increasing key l.count) l.s l.start)
