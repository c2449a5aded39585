-- What each step of the writer answers, and what it leaves in the buffer (document 01, "Writing"), for any family. No rule is stated here: what a
-- step would add is read by the format that is due. Assumes nothing.
use Rattle.wire.specs.declared.Refusal.{Refusal}
use Rattle.std.specs.Prelude.{ℕ, suc, ◌+◌, ◌-◌, Bool, true, ◌&&◌, List, [], ◌++◌, length, take, drop, ltb, leb, eqb, Ok, Err, Result}
use Rattle.wire.specs.Bytes.{digits, pick}
use Rattle.wire.specs.Numbers.{number_of, rule_of, empty_list, no_room, step_not_due}
use Rattle.transaction.specs.Signed.{most_bytes}
use Rattle.transaction.specs.Plan.{content_of, elements_of, Plan, shut, end, field, many}
use Rattle.transaction.specs.Family.{Family, head}
use Rattle.transaction.specs.declared.FieldName.{FieldName}
use Rattle.transaction.specs.declared.ListName.{ListName}
use Rattle.writer_rules.specs.Judged.{refused_by, judged}
use Rattle.writer_rules.specs.Given.{head_bytes, Given}
use Rattle.plan.specs.Due.{due, field_code, list_code}
use Rattle.writer_buffer.specs.Closing.{closing, closable}
use Rattle.writer.specs.declared.Writer.{Writer}
use Rattle.writer.specs.declared.Step.{Step}
use Rattle.writer_buffer.specs.Stores.{room_for, overwrite}

-- the writer that has written nothing
abbrev pub fresh : Writer
fresh = record { type_id = 0; phase = 0; at = 0; list = 0; count = 0; last = 0 }

-- a step's answer, and the buffer afterwards
pub record Turn : Type 0 where
  pub step : Step
  pub buffer : List ℕ

-- the answer of a step, and the buffer afterwards
abbrev pub after : Step → List ℕ → Turn
after r s = record { step = r; buffer = s }

abbrev pub turn : Writer → Result ℕ Refusal → List ℕ → Turn
turn w a s = record { step = record { next = w; answer = a }; buffer = s }

-- the number and the place that an answer reports: done is 0, with the bytes written so far
abbrev pub written_number : Result ℕ Refusal → ℕ
written_number (Ok n) = 0
written_number (Err e) = number_of e

abbrev pub written_place : Result ℕ Refusal → ℕ
written_place (Ok n) = n
written_place (Err e) = e.place

-- ---- verdicts: why a step is refused, if it is

-- a step that is refused changes neither state nor buffer
unfoldable pub answered : Result (Unit {0}) Refusal → Writer → List ℕ → Writer → List ℕ → Turn
answered (Ok tt) w s w' s' = turn w' (Ok w'.at) s'
answered (Err e) w s w' s' = turn w (Err e) s

-- 16 comes first; then 14, where the buffer is shorter than the bytes written
abbrev pub guarded_in : Bool → Writer → ℕ → Result (Unit {0}) Refusal → Result (Unit {0}) Refusal
guarded_in is_due w length v = pick is_due (pick (leb w.at length) v (refused_by no_room)) (refused_by step_not_due)

abbrev pub guarded : Bool → Writer → List ℕ → Result (Unit {0}) Refusal → Result (Unit {0}) Refusal
guarded is_due w s v = guarded_in is_due w (length s) v

-- ---- the buffer

-- the bytes of the open list's last element, empty if the list is
unfoldable pub prev : Writer → List ℕ → List ℕ
prev w s = pick (eqb w.count 0) [] (take (w.at - w.last) (drop w.last s))

-- the count and the last element of the open list lie inside the bytes written
abbrev pub sane : Writer → Bool
sane w = leb (w.list + 4) w.at && (leb w.last w.at && ltb w.count most_bytes)

-- the state after one more element, of n bytes
unfoldable pub grown : Writer → ℕ → Writer
grown w n = record { type_id = w.type_id; phase = w.phase; at = w.at + n; list = w.list; count = w.count + 1; last = w.at }

-- the buffer after one more element: it follows the others, and the list's count is overwritten with the new one
unfoldable pub appended : Writer → List ℕ → List ℕ → List ℕ
appended w s ys = overwrite (overwrite s w.at ys) w.list (digits 4 (w.count + 1))

-- ---- the rest of the plan

-- the step before a list writes its count as 0
abbrev pub opening : Plan → List ℕ
opening shut = []
opening end = []
opening (field f q) = []
opening (many l least q) = digits 4 0

-- the state in which q is due, after bytes that end at `at`
abbrev pub opened : ℕ → ℕ → ℕ → Plan → Writer
opened type_id phase at q = record { type_id = type_id; phase = phase; at = at + length (opening q); list = at; count = 0; last = 0 }

-- ---- the steps, by what is due

abbrev pub not_due : Writer → List ℕ → Turn
not_due w s = answered (refused_by step_not_due) w s w s

abbrev pub same_field : FieldName → FieldName → Bool
same_field f g = eqb (field_code f) (field_code g)

-- the elements of both lists are added by the same step
abbrev pub same_list : ListName → ListName → Bool
same_list l m = eqb (list_code l) (list_code m)

-- writes the field f, if it is due; a memo has at most `most` bytes
unfoldable pub put_field_at : ℕ → Plan → Writer → List ℕ → FieldName → Given → Turn
put_field_at most shut w s f g = not_due w s
put_field_at most end w s f g = not_due w s
put_field_at most (field h q) w s f g =
    answered (guarded (same_field f h) w s (judged (content_of most h) g (room_for (w.at + length (g.bytes ++ opening q)) s)))
    w s (opened w.type_id (suc w.phase) (w.at + length g.bytes) q) (overwrite s w.at (g.bytes ++ opening q))
put_field_at most (many l least q) w s f g = not_due w s

-- adds an element to the open list, if that takes elements of l
unfoldable pub put_element_at : Plan → Writer → List ℕ → ListName → Given → Turn
put_element_at shut w s l g = not_due w s
put_element_at end w s l g = not_due w s
put_element_at (field f q) w s l g = not_due w s
put_element_at (many m least q) w s l g =
    answered (guarded (same_list l m && sane w) w s (judged ((elements_of m).element (prev w s)) g (room_for (w.at + length g.bytes) s)))
    w s (grown w (length g.bytes)) (appended w s g.bytes)

-- closes the open list, which must have at least `least` elements
unfoldable pub close_at : Plan → Writer → List ℕ → Turn
close_at shut w s = not_due w s
close_at end w s = not_due w s
close_at (field f q) w s = not_due w s
close_at (many l least q) w s =
    answered (guarded true w s (pick (leb least w.count) (room_for (w.at + length (opening q)) s) (refused_by (rule_of empty_list))))
    w s (opened w.type_id (suc w.phase) w.at q) (overwrite s w.at (opening q))

module _ (F : Family) where
  -- writes the blank credentials
  unfoldable pub finish_at : Plan → Writer → List ℕ → Turn
  finish_at shut w s = not_due w s
  finish_at end w s =
      answered (closable F w.at s)
      w s (opened w.type_id (suc w.phase) (w.at + length (closing F w.at s)) shut) (overwrite s w.at (closing F w.at s))
  finish_at (field f q) w s = not_due w s
  finish_at (many l least q) w s = not_due w s

  -- ---- the steps

  -- the plan of the transaction type with this id
  abbrev pub plan_for : ℕ → Plan
  plan_for type_id = F.plan (F.type_of type_id)

  -- what is due by the plan of the writer's type
  abbrev pub due_for : Writer → Plan
  due_for w = due w.phase (plan_for w.type_id)

  unfoldable pub start : Writer → List ℕ → ℕ → ℕ → List ℕ → Turn
  start w s type_id network chain =
      let ys = head_bytes type_id network chain in
      let q = plan_for type_id in
      answered (guarded (eqb w.phase 0) w s (judged (head F) record { whole = true; bytes = ys } (room_for (length (ys ++ opening q)) s)))
      w s (opened type_id 1 (length ys) q) (overwrite s 0 (ys ++ opening q))

  unfoldable pub put_field : Writer → List ℕ → FieldName → Given → Turn
  put_field w s f g = put_field_at F.memo_most (due_for w) w s f g

  unfoldable pub put_element : Writer → List ℕ → ListName → Given → Turn
  put_element w s l g = put_element_at (due_for w) w s l g

  unfoldable pub close : Writer → List ℕ → Turn
  close w s = close_at (due_for w) w s

  unfoldable pub finish : Writer → List ℕ → Turn
  finish w s = finish_at (due_for w) w s
