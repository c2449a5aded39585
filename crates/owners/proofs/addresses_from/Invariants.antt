-- The invariant: parsing the address before, and what is left after it, gives the answer of the list. Assumes nothing.
use Rattle.std.proofs.Common.{◌≡◌, ◌-◌}
use Rattle.wire.specs.Fields.{blob}
use Rattle.wire.specs.Series.{increasing}
use Rattle.wire.specs.code.Answer.{ended}
use Rattle.owners.proofs.Reading.{address_then}
use Rattle.owners.proofs.addresses_from.Given as goal

abbrev pub invariant-loop : goal.invariant-loop
invariant-loop l = address_then (l.count - l.counter) l.s l.prev ≡ ended (increasing (blob 20) l.count) l.s l.start
