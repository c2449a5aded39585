-- Runs of steps, each given the state and the buffer that the last one left; and the steps that write a reading. Assumes nothing.
use Rattle.std.specs.Prelude.{ℕ, ◌≤◌, ◌<◌, ◌^◌, ◌≡◌, true, List, [], ◌∷◌, ◌++◌, length, Ok}
use Rattle.wire.specs.Bytes.{Bytes}
use Rattle.transaction.specs.Signed.{most_bytes}
use Rattle.transaction.specs.Plan.{Plan, shut, end, field, many, content_of, elements_of}
use Rattle.transaction.specs.Form.{Value}
use Rattle.transaction.specs.Family.{Family, Unsigned}
use Rattle.transaction.specs.declared.FieldName.{FieldName}
use Rattle.transaction.specs.declared.ListName.{ListName}
use Rattle.writer_rules.specs.Given.{Given, given}
use Rattle.writer.specs.declared.Writer.{Writer}
use Rattle.writer.specs.Steps.{Turn, start, put_field, put_element, close, finish}

-- a step and what it is given
pub data Act : Type 0 where
  starts : ℕ → ℕ → List ℕ → Act
  puts_field : FieldName → Given → Act
  puts_element : ListName → Given → Act
  closes finishes : Act

-- what is not whole, or is longer than a transaction, need not be bytes: a count in it may be too large for its width
abbrev pub FairBytes : Given → Type 0
FairBytes g = g.whole ≡ true → length g.bytes ≤ most_bytes → Bytes g.bytes

-- what the code can be given: bytes, and integers and identifiers of their widths
abbrev pub Fair : Act → Type 0
Fair (starts type network chain) = (type < 256 ^ 4) × (network < 256 ^ 4) × (length chain ≡ 32) × Bytes chain
Fair (puts_field f g) = FairBytes g
Fair (puts_element l g) = FairBytes g
Fair closes = Unit {0}
Fair finishes = Unit {0}

abbrev pub AllFair : List Act → Type 0
AllFair [] = Unit {0}
AllFair (a ∷ l) = Fair a × AllFair l

module _ (F : Family) where
  abbrev pub act : Act → Writer → List ℕ → Turn
  act (starts type network chain) w s = start F w s type network chain
  act (puts_field f g) w s = put_field F w s f g
  act (puts_element l g) w s = put_element F w s l g
  act closes w s = close F w s
  act finishes w s = finish F w s

  unfoldable pub run : List Act → Writer → List ℕ → Writer × List ℕ
  run [] w s = (w, s)
  run (a ∷ l) w s = run l (act a w s).step.next (act a w s).buffer

  -- every step of the run is done
  unfoldable pub AllDone : List Act → Writer → List ℕ → Type 0
  AllDone [] w s = Unit {0}
  AllDone (a ∷ l) w s = ((act a w s).step.answer ≡ Ok (act a w s).step.next.at) × AllDone l (act a w s).step.next (act a w s).buffer

-- ---- the steps that write a value: each field, and each element of a list followed by the list's close

unfoldable pub element_acts : (l : ListName) → List ℕ → List (elements_of l).Element → List Act
element_acts l prev [] = []
element_acts l prev (a ∷ more) =
    puts_element l (given (((elements_of l).element prev).write a)) ∷ element_acts l (((elements_of l).element prev).write a) more

-- with memos of at most `most` bytes
unfoldable pub plan_acts : (most : ℕ) (p : Plan) → Value p → List Act
unfolding element_acts
plan_acts most shut v = []
plan_acts most end v = []
plan_acts most (field f q) v = puts_field f (given ((content_of most f).write v.0)) ∷ plan_acts most q v.1
plan_acts most (many l least q) v = element_acts l [] v.0 ++ (closes ∷ plan_acts most q v.1)

-- the plan stops at `end`, where finish is due, and not at `shut`, where no step is: finish can follow the steps that write a value
abbrev pub Ends : Plan → Type 0
Ends shut = ⊥
Ends end = Unit {0}
Ends (field f q) = Ends q
Ends (many l least q) = Ends q

module _ (F : Family) where
  unfoldable pub spelled : Unsigned F → List Act
  unfolding plan_acts
  spelled u = starts (F.type_id u.0.type) u.0.network u.0.chain ∷ plan_acts F.memo_most (F.plan u.0.type) u.1
