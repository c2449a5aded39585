-- The writer's state as six integers, followed by a step's number and place. Assumes nothing.
use Rattle.std.specs.Prelude.{ℕ, ◌%◌, List, [], ◌∷◌, get_or}
use Rattle.writer.specs.declared.Writer.{Writer}
use Rattle.writer.specs.declared.Step.{Step}
use Rattle.writer.specs.Steps.{Turn, written_number, written_place}

-- 0 type, 1 segments begun, 2 bytes written, 3 offset of the open list's count, 4 how many elements it has, 5 offset of the last one
abbrev pub writer_of : List ℕ → Writer
writer_of n =
    record {
      type_id = get_or n 0 0 % 4294967296;
      phase = get_or n 1 0 % 4294967296;
      at = get_or n 2 0;
      list = get_or n 3 0;
      count = get_or n 4 0 % 4294967296;
      last = get_or n 5 0;
    }

abbrev pub numbers_of : Writer → ℕ → ℕ → List ℕ
numbers_of w number place = w.type_id ∷ w.phase ∷ w.at ∷ w.list ∷ w.count ∷ w.last ∷ number ∷ place ∷ []

-- 6 number, 7 place
abbrev pub encoded_step : Step → List ℕ
encoded_step r = numbers_of r.next (written_number r.answer) (written_place r.answer)

-- the integers and the buffer after a step
pub record ExportedTurn : Type 0 where
  pub numbers : List ℕ
  pub buffer : List ℕ

abbrev pub exported_turn : List ℕ → List ℕ → ExportedTurn
exported_turn n b = record { numbers = n; buffer = b }

abbrev pub encoded_turn : Turn → ExportedTurn
encoded_turn t = exported_turn (encoded_step t.step) t.buffer
