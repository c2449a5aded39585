-- What the writer finishes, with its slots filled by calls of fill, is the transaction. Assumes nothing.
use Prim.Native.Nat.{ℕ}
use mathlib.Core.Path.{subst⁻¹}
use mathlib.Core.List.{List}
use Rattle.transaction.specs.Avm.{avm}
use Rattle.transaction.specs.Answer.{memo_most}
use Rattle.draft.specs.Reader.{reader}
use Rattle.writer_theorems.proofs.Calling.{methods-round-trip, blank-written}
use Rattle.draft_theorems.specs.Filling.{Fills}
use Rattle.draft_theorems.proofs.Theorems.{avm-reading-filled}
use Rattle.claims.specs.RoundTrip.{RoundTrips}

pub round-trips : RoundTrips
round-trips d v n b e s room =
    record {
      written = (methods-round-trip memo_most).calls-done d v n b e s room;
      finished = (methods-round-trip memo_most).finish-done d v n b e s room;
      filled = subst⁻¹ (λ (x : List ℕ). Fills (reader (avm memo_most)) 0 v.1 x d) (blank-written memo_most d v n b e s room)
          (avm-reading-filled.filled d v n b e);
    }
