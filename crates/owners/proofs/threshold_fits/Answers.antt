-- `owners::threshold_fits` meets its contract. Assumes nothing.
use mathlib.Core.Path.{◌≡◌}
use Prim.Native.Nat.{ℕ, ◌≤◌, ◌<◌}
use native.Mathlib.Omega.{arith}
use mathlib.Core.Bool.{true, false}
use lib.Dec.{eqb}
use borrow.Author.Tests.{eq-eqb, ne_eqb, le-leb, lt-leb}
use Rattle.owners.specs.Owners.{threshold_fits}
use Rattle.owners.proofs.threshold_fits.Goals as goal

module _ (threshold addresses : ℕ) where
  above : addresses < threshold → false ≡ threshold_fits threshold addresses
  above h = rw (ne_eqb threshold 0 (λ z. omega arith), lt-leb threshold addresses h)

  within : threshold ≤ addresses → 0 < threshold → true ≡ threshold_fits threshold addresses
  within h some = rw (ne_eqb threshold 0 (λ z. omega arith), le-leb threshold addresses h)

  none : threshold ≤ 0 → eqb addresses 0 ≡ threshold_fits threshold addresses
  none h = rw (eq-eqb threshold 0 (omega arith))

pub returns-then-addresses-threshold : goal.returns-then-addresses-threshold
returns-then-addresses-threshold c = search above

pub returns-then-threshold-gt0 : goal.returns-then-threshold-gt0
returns-then-threshold-gt0 c = search within

pub returns : goal.returns
returns c = search none
