-- What the functions that the methods call answer. Assumes nothing.
use Rattle.std.specs.Prelude.{ℕ, suc, ◌+◌, Bool, List, ◌++◌, length, Ok, Err}
use Rattle.wire.specs.declared.Refusal.{Refusal}
use Rattle.wire.specs.Numbers.{refusal, no_room, step_not_due}
use Rattle.transaction.specs.Plan.{plan_of}
use Rattle.plan.specs.declared.Due.{Due}
use Rattle.plan.specs.Due.{due, due_of, is_list}
use Rattle.writer.specs.declared.Writer.{Writer}
use Rattle.writer.specs.declared.Step.{Step}
use Rattle.writer.specs.Steps.{Turn, answered, grown, appended}
use Rattle.writer_buffer.specs.Stores.{room_for, overwrite}
use Rattle.writer_buffer.specs.code.Stores.{count_of}

abbrev pub refused_step : Writer → Refusal → Step
refused_step w e = record { next = w; answer = Err e }

abbrev pub not_due_step : Writer → Step
not_due_step w = refused_step w (refusal step_not_due 0)

abbrev pub no_room_step : Writer → Step
no_room_step w = refused_step w (refusal no_room 0)

abbrev pub stored_step : Writer → Step
stored_step w = record { next = w; answer = Ok w.at }

abbrev pub due_at : Writer → Due
due_at w = due_of (due w.phase (plan_of w.type_id))

-- ---- after the rules of a step are judged

-- the bytes ys from `from.at` on, followed by the next list's count
abbrev pub settled : Writer → List ℕ → List ℕ → Bool → Writer → Turn
settled w s ys opens from =
    answered (room_for (from.at + length (ys ++ count_of opens)) s) w s
    record {
      type_id = from.type_id;
      phase = from.phase;
      at = from.at + length ys + length
          (count_of opens);
      list = from.at + length ys;
      count = 0;
      last = 0;
    }
    (overwrite s from.at (ys ++ count_of opens))

-- the bytes ys of the segment that is due
abbrev pub segment_step : Writer → List ℕ → List ℕ → Bool → Turn
segment_step w s ys opens = settled w s ys opens record { type_id = w.type_id; phase = suc w.phase; at = w.at; list = 0; count = 0; last = 0 }

-- does a list follow the segment that is due?
abbrev pub opens_next : Writer → Bool
opens_next w = is_list (due_of (due (suc w.phase) (plan_of w.type_id)))

-- an element whose bytes are ys
abbrev pub element_step : Writer → List ℕ → List ℕ → Turn
element_step w s ys = answered (room_for (w.at + length ys) s) w s (grown w (length ys)) (appended w s ys)
