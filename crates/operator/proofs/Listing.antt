-- The answer of a call with a lent table as one integer. Assumes nothing.
use Rattle.std.specs.Prelude.{Ok, Err, Result}
use Prim.Native.Nat.{ℕ, ◌%◌}
use mathlib.Core.Path.{◌≡◌, ap, ◌∙◌}
use mathlib.Core.List.{List}
use native.Mathlib.Omega.{arith}
use borrow.Author.Tests.{ne_eqb}
use Rattle.wire.specs.declared.Refusal.{Refusal}
use Rattle.wire.specs.Numbers.{number_of}
use Rattle.wire.proofs.Numbers.{number-range}
use Rattle.entry_table.specs.Table.{Filled, filled}
use Rattle.operator.specs.Uploads.{refusal_word}
use Rattle.operator.specs.Listing.{packed, listing, listed}

-- ---- the answer as one integer

pub rows-packed : (x : Result (ℕ × ℕ) Refusal) (n end : ℕ) → x ≡ Ok (n, end) → n % 4294967296 ≡ packed x
unfolding packed
rows-packed x n end q = rw q (omega arith)

-- a refusal's number is not 0, so it differs from done
pub refused-packed : (x : Result (ℕ × ℕ) Refusal) (e : Refusal) → x ≡ Err e → (w : ℕ) → w ≡ refusal_word e → w ≡ packed x
unfolding packed refusal_word
refused-packed x e q w h = h ∙ rw (q, ne_eqb (number_of e) 0 (λ z. absurd (omega (arith, (number-range e.rule).0))))

pub ruleset packing = (rows-packed, refused-packed)

-- ---- x is what the call answered, and u what the table holds then

pub answered : (f : Filled) (u : List ℕ) (x : Result (ℕ × ℕ) Refusal) (r : ℕ) → filled x u ≡ f → r ≡ packed x → listing r u ≡ listed f
answered f u x r p q = ap (λ (n : ℕ). listing n u) q ∙ ap listed p
