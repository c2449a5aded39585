-- What a plan describes: the value of its segments, their format, the credentials that they want, and their entries. Assumes nothing.
use Rattle.std.specs.Prelude.{ℕ, ◌+◌, leb}
use mathlib.Core.List.{List, [], ◌∷◌, ◌++◌}
use Rattle.std.proofs.Math.ListN.{length}
use Rattle.wire.specs.Numbers.{empty_list}
use Rattle.wire.specs.Format.{Format}
use Rattle.wire.specs.Fields.{integer}
use Rattle.wire.specs.Sequence.{and_then, guard, only}
use Rattle.wire.specs.Series.{count_prefixed}
use Rattle.transaction.specs.Credentials.{Want}
use Rattle.transaction.specs.Entries.{EntryAt, entries_from}
use Rattle.transaction.specs.Plan.{Plan, shut, end, field, many, Content, content_of, want_of, field_credential, field_signatures, elements_of}
use Rattle.transaction.specs.declared.FieldName.{FieldName}
use Rattle.transaction.specs.declared.ListName.{ListName}

-- a count of at least `least`, then that many elements
unfoldable pub at_least : {A : Type 0} → ℕ → (List ℕ → Format A) → Format (List A)
unfolding count_prefixed guard
at_least least E = count_prefixed (guard (integer 4) (λ n. leb least n) empty_list) E

abbrev pub list_of : (l : ListName) → ℕ → Format (List (elements_of l).Element)
list_of l least = at_least least (elements_of l).element

abbrev pub Value : Plan → Type 0
Value shut = Unit {0}
Value end = Unit {0}
Value (field f q) = Content f × Value q
Value (many l least q) = List (elements_of l).Element × Value q

-- the credentials that a field asks for, and those that an element of a list asks for
abbrev pub field_asks : (f : FieldName) → Content f → List Want
field_asks f v = want_of (field_credential f) (field_signatures f v)

abbrev pub element_asks : (l : ListName) → (elements_of l).Element → List Want
element_asks l v = want_of (elements_of l).credential ((elements_of l).signatures v)

unfoldable pub asked : {A : Type 0} → (A → List Want) → List A → List Want
asked f [] = []
asked f (a ∷ l) = f a ++ asked f l

-- the credentials wanted, in byte order
unfoldable pub wanted : (p : Plan) → Value p → List Want
unfolding asked
wanted shut v = []
wanted end v = []
wanted (field f q) v = field_asks f v.0 ++ wanted q v.1
wanted (many l least q) v = asked (element_asks l) v.0 ++ wanted q v.1

-- ---- with memos of at most `most` bytes

module _ (most : ℕ) where
  unfoldable pub form : (p : Plan) → Format (Value p)
  unfolding and_then only
  form shut = only tt
  form end = only tt
  form (field f q) = and_then (content_of most f) (λ v. form q)
  form (many l least q) = and_then (list_of l least) (λ v. form q)

  -- the entries of the segments from `at` on
  unfoldable pub plan_entries : (p : Plan) → Value p → ℕ → List EntryAt
  unfolding entries_from
  plan_entries shut v at = []
  plan_entries end v at = []
  plan_entries (field f q) v at = plan_entries q v.1 (at + length ((content_of most f).write v.0))
  plan_entries (many l least q) v at =
      entries_from (elements_of l).element (elements_of l).entries [] (at + 4) v.0
      ++ plan_entries q v.1 (at + length ((list_of l least).write v.0))
