-- A list of elements as the code skips it: of one width by its length, of other elements one by one. Assumes nothing.
use Rattle.std.specs.Prelude.{◌≡◌, ℕ, zero, suc, ◌*◌, List, Result, Ok, Err}
use Rattle.wire.specs.declared.Refusal.{Refusal}
use Rattle.wire.specs.Format.{Format}
use Rattle.wire.specs.Fields.{integer, blob}
use Rattle.wire.specs.Sequence.{and_then}

-- a count, then that many times `width` bytes
unfoldable pub by_count : ℕ → Format (ℕ × List ℕ)
unfolding and_then
by_count width = and_then (integer 4) (λ count. blob (width * count))

-- the answer x of one step decides: the offset that it returned goes on, a refusal is the answer z of all
abbrev pub Onto : Result ℕ Refusal → Result ℕ Refusal → (ℕ → Type 0) → Type 0
Onto (Ok m) z Later = Later m
Onto (Err e) z Later = z ≡ Err e

-- z is the answer of `count` steps, each from the offset that the one before returned
abbrev pub Repeated : (ℕ → Result ℕ Refusal → Type 0) → ℕ → ℕ → Result ℕ Refusal → Type 0
Repeated Step zero at z = z ≡ Ok at
Repeated Step (suc n) at z = (x : Result ℕ Refusal) × (Step at x × Onto x z (λ m. Repeated Step n m z))
