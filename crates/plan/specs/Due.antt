-- What is due by a plan at each phase, and whether it is a given field or list. Assumes nothing.
use Rattle.std.specs.Prelude.{ℕ, zero, suc, Bool, true, false, eqb}
use Rattle.transaction.specs.Plan.{Plan, shut, end, field, many}
use Rattle.transaction.specs.declared.FieldName.{FieldName}
use Rattle.transaction.specs.declared.FieldName.TheVariants as F
use Rattle.transaction.specs.declared.ListName.{ListName}
use Rattle.transaction.specs.declared.ListName.TheVariants as L
use Rattle.plan.specs.declared.Due.{Due}
use Rattle.plan.specs.declared.Due.TheVariants as D

abbrev pub tail : Plan → Plan
tail shut = shut
tail end = shut
tail (field f q) = q
tail (many l least q) = q

-- the plan without its first k segments
abbrev pub after : ℕ → Plan → Plan
after zero p = p
after (suc k) p = tail (after k p)

-- what is due at a phase: at 0, before the start, nothing; at k + 1, the plan without its first k segments
abbrev pub due : ℕ → Plan → Plan
due zero p = shut
due (suc k) p = after k p

abbrev pub field_code : FieldName → ℕ
field_code F.Memo = 0
field_code F.Name = 1
field_code F.Symbol = 2
field_code F.Denomination = 3
field_code F.Chain = 4

-- lists that are written by the same step have the same code
abbrev pub list_code : ListName → ℕ
list_code L.Output = 0
list_code L.Input = 1
list_code L.State = 2
list_code L.Operation = 3
list_code L.Imported = 1
list_code L.Exported = 0

-- ---- the first segment of what is due

-- the first segment of a plan: its name, and the least number of elements of a list
abbrev pub due_of : Plan → Due
due_of shut = D.Nothing
due_of end = D.Finish
due_of (field f q) = D.Field f
due_of (many l least q) = D.List l least

abbrev pub is_list : Due → Bool
is_list D.Nothing = false
is_list D.Finish = false
is_list (D.Field l) = false
is_list (D.List l n) = true

-- whether this field is due; whether this list, or another that is written by the same step, is due
abbrev pub is_field : FieldName → Due → Bool
is_field l D.Nothing = false
is_field l D.Finish = false
is_field l (D.Field m) = eqb (field_code l) (field_code m)
is_field l (D.List m n) = false

abbrev pub is_open : ListName → Due → Bool
is_open l D.Nothing = false
is_open l D.Finish = false
is_open l (D.Field m) = false
is_open l (D.List m n) = eqb (list_code l) (list_code m)

-- whether the finish is due
abbrev pub is_finish : Due → Bool
is_finish D.Nothing = false
is_finish D.Finish = true
is_finish (D.Field l) = false
is_finish (D.List l n) = false
