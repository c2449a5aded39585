-- Demand 2, second half: whatever the writer finishes is accepted, and writing the reading of a transaction and filling its signatures gives its
-- bytes. What every call of the writer's methods guarantees is in Calls. Assumes nothing.
use Rattle.std.specs.Prelude.{ℕ, ◌≤◌, ◌≡◌, ◌⊎◌, true, List, length, take, Ok, Err}
use Rattle.wire.specs.Bytes.{Bytes}
use Rattle.wire.specs.Numbers.{no_room, step_not_due}
use Rattle.wire.specs.Format.{took}
use Rattle.wire.specs.declared.Refusal.{Refusal}
use Rattle.transaction.specs.Slots.{slot_at, put_all}
use Rattle.transaction.specs.Credentials.{layout, blanks}
use Rattle.transaction.specs.Signed as AnySigned
use Rattle.transaction.specs.Family.{Family, Signed, unsigned, wants, check, accepted}
use Rattle.writer.specs.Steps.{Turn, fresh, finish}
use Rattle.writer_theorems.specs.Runs.{Act, AllFair, run, AllDone, spelled}

module _ (F : Family) where
  -- finish after a run of steps from a fresh writer over the buffer s
  abbrev pub finish_after : List Act → List ℕ → Turn
  finish_after l s = finish F (run F l fresh s).0 (run F l fresh s).1

  -- for every run of steps, whichever of them are refused
  pub record FinishedIsAccepted : Type 0 where
    pub is-accepted : (l : List Act) → AllFair l → (s : List ℕ) (n : ℕ) → (finish_after l s).step.answer ≡ Ok n
        → accepted F (take n (finish_after l s).buffer) ≡ true
    pub refused-by : (l : List Act) → AllFair l → (s : List ℕ) (e : Refusal) → (finish_after l s).step.answer ≡ Err e
        → (e.rule ≡ no_room) ⊎ (e.rule ≡ step_not_due)

  -- d is accepted, v is its reading, and the buffer s has room for d, whatever s holds
  pub record StepsRoundTrip : Type 0 where
    pub steps-done : (d : List ℕ) (v : Signed F) (n : ℕ) → Bytes d → check F d ≡ took v n → (s : List ℕ) → length d ≤ length s
        → AllDone F (spelled F v.0) fresh s
    pub finish-done : (d : List ℕ) (v : Signed F) (n : ℕ) → Bytes d → check F d ≡ took v n → (s : List ℕ) → length d ≤ length s
        → (finish_after (spelled F v.0) s).step.answer ≡ Ok (length d)
    pub blank-written : (d : List ℕ) (v : Signed F) (n : ℕ) → Bytes d → check F d ≡ took v n → (s : List ℕ) → length d ≤ length s
        → take (length d) (finish_after (spelled F v.0) s).buffer ≡ AnySigned.assemble (unsigned F) (wants F) v.0 (blanks (layout (wants F v.0)))
    -- d again, once each slot is filled with its signature
    pub filled : (d : List ℕ) (v : Signed F) (n : ℕ) → Bytes d → check F d ≡ took v n → (s : List ℕ) → length d ≤ length s
        → put_all (AnySigned.slots_at (unsigned F) (wants F) d) (slot_at d) (take (length d) (finish_after (spelled F v.0) s).buffer) ≡ d
