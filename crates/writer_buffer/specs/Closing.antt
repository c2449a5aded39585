-- The blank credentials that finish writes, by the family's format, and why they are refused. Assumes nothing.
use Rattle.wire.specs.declared.Refusal.{Refusal}
use Rattle.std.specs.Prelude.{ℕ, ◌+◌, List, [], length, take, leb, Result}
use Rattle.wire.specs.Bytes.{pick}
use Rattle.wire.specs.Numbers.{no_room}
use Rattle.wire.specs.Format.{read, Parsed, took, refused}
use Rattle.transaction.specs.Credentials.{layout, credentials, blanks}
use Rattle.transaction.specs.Family.{Family, Unsigned, unsigned, wants}
use Rattle.writer_rules.specs.Given.{given}
use Rattle.writer_rules.specs.Judged.{refused_by, judged}
use Rattle.writer_buffer.specs.Stores.{room_for}

module _ (F : Family) where
  -- the blank credentials that an unsigned part wants
  abbrev pub blank_of : Unsigned F → List ℕ
  blank_of u = (credentials (wants F u)).write (blanks (layout (wants F u)))

  abbrev pub blank_after : Parsed (Unsigned F) → List ℕ
  blank_after (took u n) = blank_of u
  blank_after (refused e) = []

  -- the unsigned part ends at `at` and is read back from what was written
  unfoldable pub closing : ℕ → List ℕ → List ℕ
  closing at s = blank_after (read (unsigned F) (take at s) 0)

  unfoldable pub closable : ℕ → List ℕ → Result (Unit {0}) Refusal
  closable at s = pick (leb at (length s)) (judged (unsigned F) (given (take at s)) (room_for (at + length (closing at s)) s)) (refused_by no_room)
