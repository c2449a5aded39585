-- `wire::are_there` meets its contract. Assumes nothing.
use Prim.Native.Nat.{ℕ, ◌-◌, ◌≤◌, ◌<◌}
use mathlib.Core.Path.{◌≡◌, refl, sym}
use mathlib.Core.Bool.{Bool, true, false}
use native.Mathlib.Omega.{arith}
use lib.Dec.{leb, eqb}
use borrow.Author.Tests.{le-leb, lt-leb, eqb-true, eqb-false}
use Rattle.wire.proofs.are_there.Goals as goal

fewer : (k n at : ℕ) → n < k → false ≡ leb k (n - at)
fewer k n at h = sym (lt-leb k (n - at) (omega arith))

enough : (k n at : ℕ) → k ≤ n → at ≤ n - k → true ≡ leb k (n - at)
enough k n at h l = sym (le-leb k (n - at) (omega arith))

-- past the end, only 0 bytes are there
none-past : (k n at : ℕ) → k ≤ n → n - k < at → eqb k 0 ≡ leb k (n - at)
none-past k n at h l = cases (eqb k 0) refl
  where
    cases : (t : Bool) → eqb k 0 ≡ t → t ≡ leb k (n - at)
    cases true e = sym (le-leb k (n - at) (omega (arith, eqb-true k 0 e)))
    cases false e = sym (lt-leb k (n - at) (omega (arith, eqb-false k 0 e)))

pub returns-then-s-width : goal.returns-then-s-width
returns-then-s-width c = search fewer

pub returns-then-s-width-2 : goal.returns-then-s-width-2
returns-then-s-width-2 c = search none-past

pub returns : goal.returns
returns c = search enough
