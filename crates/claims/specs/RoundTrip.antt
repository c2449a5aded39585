-- Demand 2's round trip, by calls alone: the writer's methods and fill. Assumes nothing.
use Rattle.std.specs.Prelude.{ℕ, ◌≤◌, ◌≡◌, List, length, take, Ok}
use Rattle.wire.specs.Bytes.{Bytes}
use Rattle.wire.specs.Format.{took}
use Rattle.transaction.specs.Family.{Signed, check}
use Rattle.transaction.specs.Avm.{avm}
use Rattle.transaction.specs.Answer.{memo_most}
use Rattle.draft.specs.Reader.{reader}
use Rattle.writer.specs.Steps.{fresh}
use Rattle.writer_theorems.specs.Calls.{AllCallsDone, reading_calls, finish_after}
use Rattle.draft_theorems.specs.Filling.{Fills}

-- d is accepted, v is its reading, and the buffer s has room for d, whatever s holds
pub record RoundTrip (d : List ℕ) (v : Signed (avm memo_most)) (s : List ℕ) : Type 0 where
  -- the calls that write the reading, and finish after them, are done
  pub written : AllCallsDone memo_most (reading_calls memo_most v.0) fresh s
  pub finished : (finish_after memo_most (reading_calls memo_most v.0) s).step.answer ≡ Ok (length d)
  -- then the calls of fill that put the reading's signatures into slots 0, 1, .. of what was finished are done, and leave d
  pub filled : Fills (reader (avm memo_most)) 0 v.1 (take (length d) (finish_after memo_most (reading_calls memo_most v.0) s).buffer) d

abbrev pub RoundTrips : Type 0
RoundTrips = (d : List ℕ) (v : Signed (avm memo_most)) (n : ℕ) → Bytes d → check (avm memo_most) d ≡ took v n → (s : List ℕ) → length d ≤ length s
    → RoundTrip d v s
