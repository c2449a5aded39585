-- `credentials::reading::first_cut` meets its contract. The invariant: the first signature cut short of those left is the first of all.
-- Assumes nothing.
use Prim.Native.Nat.{◌-◌}
use mathlib.Core.Path.{◌≡◌}
use Rattle.credentials.specs.code.Cut.{first_cut}
use Rattle.credentials.proofs.reading.first_cut.Given as goal

abbrev pub invariant-loop : goal.invariant-loop
invariant-loop l = first_cut (l.count - l.counter) l.s l.at ≡ first_cut l.count l.s l.start
