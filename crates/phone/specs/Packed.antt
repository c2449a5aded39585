-- A number of the table and a place, packed into one integer of 64 bits and unpacked again. Assumes nothing.
use Rattle.wire.specs.declared.Refusal.{Refusal}
use Rattle.std.specs.Prelude.{ℕ, ◌+◌, ◌*◌, List, Result}
use Rattle.wire.specs.Bytes.{Bytes}
use Rattle.wire.specs.Format.{verdict}
use Rattle.transaction.specs.Family.{check}
use Rattle.transaction.specs.Avm.{avm}
use Rattle.transaction.specs.Answer.{memo_most}
use Rattle.draft.specs.Reader.{reader}
use Rattle.draft.specs.Calls.{answer_number, answer_place, merge_call}
use Rattle.draft.specs.Packing.{TakenApart}

-- number × 2^32 + place
abbrev pub packed : ℕ × ℕ → ℕ
packed (n, p) = n * 4294967296 + p

-- a call's answer, and the lent bytes afterwards
abbrev pub packed_call : Result ℕ Refusal × List ℕ → ℕ × List ℕ
packed_call (a, s) = (packed (answer_number a, answer_place a), s)

pub record Unpacked : Type 0 where
  pub check : (s : List ℕ) → Bytes s → let v = verdict (check (avm memo_most) s) in TakenApart (packed v) v.0 v.1
  pub merge : (d e out : List ℕ) → Bytes d → Bytes e
      → let a = merge_call (reader (avm memo_most)) d e out in TakenApart (packed_call a).0 (answer_number a.0) (answer_place a.0)
