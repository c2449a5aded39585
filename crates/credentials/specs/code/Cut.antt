-- The refusal of signatures that are not all there. Assumes nothing.
use Rattle.std.specs.Prelude.{ℕ, List, []}
use Rattle.wire.specs.Numbers.{cut_at}
use Rattle.wire.specs.declared.Refusal.{Refusal}
use Rattle.transaction.specs.Slots.{signature_width}
use Rattle.transaction.specs.Credentials.{signatures, pieces}

-- the refusal of n signatures from `at` on; if all are there, that of one more
abbrev pub first_cut : ℕ → List ℕ → ℕ → Refusal
first_cut n s at = (pieces (signatures n [])).parse s at (λ e. e) (λ l m. cut_at signature_width s m)
