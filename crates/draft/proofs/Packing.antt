-- A small number and a small place, packed into one integer, can be unpacked again. Assumes nothing.
use Prim.Native.Nat.{ℕ, ◌+◌, ◌*◌, ◌^◌, ◌≤◌, ◌<◌}
use mathlib.Core.List.{List, [], ◌∷◌}
use native.Mathlib.Omega.{arith}
use lib.Arith.{digits_div, digits_mod}
use lib.ListN.{length}
use Rattle.transaction.specs.Slots.{signature_width, Spaced}
use Rattle.draft.specs.Packing.{TakenApart}

pub apart : (n p : ℕ) → n ≤ 21 → p ≤ 65536 → TakenApart (n * 4294967296 + p) n p
apart n p h k =
    let small : p < 2 ^ 32 = omega arith in
    record { fits = omega arith; number = digits_div n small; place = digits_mod n small }

-- there are no more slots than bytes
pub spaced-count : (lo : ℕ) (ps : List ℕ) (n : ℕ) → Spaced lo ps n → lo + length ps ≤ n
unfolding signature_width
spaced-count lo [] n h = omega arith
spaced-count lo (p ∷ ps) n h = let k : p + signature_width + length ps ≤ n = spaced-count (p + signature_width) ps n h.1 in omega arith
