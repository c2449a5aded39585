-- `writer_buffer::blank::blanks_end` meets its contract. The invariant: the end of the credentials that are left is the end of all. Assumes nothing.
use Rattle.std.specs.Prelude.{Result}
use Rattle.wire.specs.declared.Refusal.{Refusal}
use Prim.Native.Nat.{ℕ, ◌-◌, ◌≤◌}
use mathlib.Core.Path.{◌≡◌}
use lib.ListN.{length}
use Rattle.writer_buffer.specs.code.Closing.{blank_bytes, fitted, OfAhead}
use Rattle.writer_buffer.proofs.blank.blanks_end.Given as goal

abbrev pub invariant-loop : goal.invariant-loop
invariant-loop l =
    ((r : Result ℕ Refusal) → OfAhead l.type_id l.s l.cursor (l.count - l.counter) (λ ws. r ≡ fitted l.at (length (blank_bytes ws)) l.limit)
    → OfAhead l.type_id l.s l.initial.cursor l.count (λ ws. r ≡ fitted l.start (length (blank_bytes ws)) l.limit))
    × (l.at ≤ l.limit)
