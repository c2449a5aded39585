-- The invariant: parsing what is left gives the answer of the list. Assumes nothing.
use Rattle.std.proofs.Common.{◌≡◌, ◌-◌}
use Rattle.wire.specs.Series.{unordered}
use Rattle.wire.specs.code.Answer.{ended}
use Rattle.owners.specs.Owners.{owners}
use Rattle.owners.proofs.owners_list_at.Given as goal

abbrev pub invariant-loop : goal.invariant-loop
invariant-loop l = ended (unordered owners (l.count - l.counter)) l.s l.at ≡ ended (unordered owners l.count) l.s l.start
