-- The entries ahead of a cursor, in bytes whose transaction was read, and what the steps from one to the next return. Assumes nothing.
use Rattle.std.specs.Prelude.{◌≡◌, ℕ, ◌+◌, ◌-◌, ◌*◌, ◌<◌, List, [], ◌∷◌, ◌++◌, length}
use Rattle.wire.specs.Format.{Format, took, read}
use Rattle.wire.specs.Fields.{integer, blob}
use Rattle.wire.specs.Sequence.{and_then}
use Rattle.wire.specs.Series.{series_from, not_below}
use Rattle.element.specs.Outputs.{output}
use Rattle.element.specs.Operations.{Fx, fx_outputs}
use Rattle.transaction.specs.Slots.{signature_width}
use Rattle.transaction.specs.Credentials.{Want, each, pieces}
use Rattle.transaction.specs.Entries.{EntryAt, entry_kind, entries_from, state_output_entry, credential_entries}
use Rattle.transaction.specs.Plan.{content_of, elements_of, Plan, shut, end, field, many, plan_of}
use Rattle.transaction.specs.declared.ListName.{ListName}
use Rattle.plan.specs.declared.Due.TheVariants as D
use Rattle.plan.specs.Due.{due, due_of}
use Rattle.plan.specs.code.Rows.{last_phase}
use Rattle.entry_walk.specs.declared.Cursor.{Cursor}
use Rattle.entry_walk.specs.declared.Row.{Row}
use Rattle.entry_walk.specs.declared.Advance.{Advance}
use Rattle.entry_walk.specs.declared.Advance.TheVariants as T

-- an entry's row
abbrev pub located : EntryAt → Row
located e = record { kind = entry_kind e.fields; start = e.start; end = e.end }

-- the cursor before the first segment
abbrev pub start : Cursor
start = record { phase = 0; at = 42; left = 0; inner = 0 }

-- type, count, and that many signatures
abbrev pub credential_bytes : Format (ℕ × (ℕ × List ℕ))
credential_bytes = and_then (integer 4) (λ t. and_then (integer 4) (λ n. blob (signature_width * n)))

module _ (s : List ℕ) where
  -- a value stands at `at`, and Later holds of it and the offset just past it
  pub record Followed {A : Type 0} (F : Format A) (at : ℕ) (Later : A → ℕ → Type 0) : Type 0 where
    pub value : A
    pub next : ℕ
    pub stands : read F s at ≡ took value next
    pub after : Later value next

  -- c elements of a list stand from `at` on; es are their entries and those that Later has after them
  pub record Rest {A : Type 0} (E : List ℕ → Format A) (entry : ℕ → ℕ → A → List EntryAt) (Later : ℕ → List EntryAt → Type 0) (c at : ℕ)
      (es : List EntryAt) : Type 0 where
    pub prev : List ℕ
    pub values : List A
    pub next : ℕ
    pub later : List EntryAt
    pub stands : read (series_from E prev c) s at ≡ took values next
    pub after : Later next later
    pub entries : es ≡ entries_from E entry prev at values ++ later

  -- c credentials stand from `at` on; es are their entries
  pub record Credentials (c at : ℕ) (es : List EntryAt) : Type 0 where
    pub wants : List Want
    pub slots : List (List ℕ)
    pub next : ℕ
    pub stands : read (pieces (each wants)) s at ≡ took slots next
    pub count : c ≡ length wants
    pub entries : es ≡ credential_entries wants at

  module _ (most : ℕ) where
    -- the segments of a plan and the credentials stand from `at` on; es are their entries
    abbrev pub PlanAhead : Plan → ℕ → List EntryAt → Type 0
    PlanAhead shut at es = ⊥
    PlanAhead end at es = Followed (integer 4) at (λ c n. Credentials c n es)
    PlanAhead (field f p) at es = Followed (content_of most f) at (λ v n. PlanAhead p n es)
    PlanAhead (many l least p) at es = Followed (integer 4) at (λ c n. Rest (elements_of l).element (elements_of l).entries (PlanAhead p) c n es)

    -- c elements of a list, and what follows it
    abbrev pub ListAhead : ListName → ℕ → Plan → ℕ → List EntryAt → Type 0
    ListAhead l c p at es = Rest (elements_of l).element (elements_of l).entries (PlanAhead p) c at es

    -- `inner` outputs of an initial state, and what follows it; if `inner` is 0 this is the list alone
    abbrev pub StateAhead : ListName → ℕ → ℕ → Plan → ℕ → List EntryAt → Type 0
    StateAhead l inner c p at es = (fx : Fx) × Rest (not_below (output (fx_outputs fx))) state_output_entry (ListAhead l c p) inner at es

    -- the rest of the segment that was begun last, and what follows it
    abbrev pub AheadIn : Plan → Plan → Cursor → List EntryAt → Type 0
    AheadIn shut later c es = PlanAhead later c.at es
    AheadIn end later c es = Credentials c.left c.at es
    AheadIn (field f p) later c es = PlanAhead later c.at es
    AheadIn (many l least p) later c es = StateAhead l c.inner c.left later c.at es

    module _ (type_id : ℕ) where
      -- es are the entries ahead of a cursor, in a transaction of this type
      abbrev pub Ahead : Cursor → List EntryAt → Type 0
      Ahead c es = AheadIn (due c.phase (plan_of type_id)) (due (c.phase + 1) (plan_of type_id)) c es

      -- the first of es has row r, and the others are ahead of c
      pub record First (r : Row) (c : Cursor) (es : List EntryAt) : Type 0 where
        pub entry : EntryAt
        pub others : List EntryAt
        pub all : es ≡ entry ∷ others
        pub row : r ≡ located entry
        pub ahead : Ahead c others

      abbrev pub Advances : List EntryAt → Advance → Type 0
      Advances es (T.Found r c) = First r c es
      Advances es (T.Moved c) = Ahead c es
      Advances es T.Done = es ≡ []

-- one step: it finds the first entry ahead, or moves past something that is not an entry, or none is left
unfoldable pub AdvanceAhead : ℕ → List ℕ → Cursor → Advance → Type 0
AdvanceAhead type_id s c r = (most : ℕ) (es : List EntryAt) → Ahead s most type_id c es → Advances s most type_id es r

-- a step in the list of this name; below, a step in an initial state's outputs, and one in the credentials
unfoldable pub ElementAdvance : ListName → List ℕ → Cursor → Advance → Type 0
ElementAdvance l s c r =
    (type_id least most : ℕ) (es : List EntryAt) → due_of (due c.phase (plan_of type_id)) ≡ D.List l least
    → ListAhead s most l c.left (due (c.phase + 1) (plan_of type_id)) c.at es → Advances s most type_id es r

unfoldable pub StateOutputAdvance : List ℕ → Cursor → Advance → Type 0
unfolding AdvanceAhead
StateOutputAdvance s c r = (type_id least : ℕ) (l : ListName) → due_of (due c.phase (plan_of type_id)) ≡ D.List l least → AdvanceAhead type_id s c r

unfoldable pub CredentialAdvance : List ℕ → Cursor → Advance → Type 0
unfolding AdvanceAhead
CredentialAdvance s c r = (type_id : ℕ) → due_of (due c.phase (plan_of type_id)) ≡ D.Finish → AdvanceAhead type_id s c r

-- a step to the next segment
unfoldable pub LaterAdvance : ℕ → List ℕ → Cursor → Advance → Type 0
LaterAdvance type_id s c r = (most : ℕ) (es : List EntryAt) → PlanAhead s most (due (c.phase + 1) (plan_of type_id)) c.at es
    → Advances s most type_id es r

unfoldable pub CountedAdvance : ℕ → List ℕ → ℕ → Advance → Type 0
CountedAdvance phase s at r = (c n : ℕ) → read (integer 4) s at ≡ took c n → r ≡ T.Moved record { phase = phase; at = n; left = c; inner = 0 }

-- ---- a measure that every step decreases, so that the steps end on any bytes

-- what is still ahead, as one number: a list has fewer than 2^32 elements, an initial state fewer than 2^32 outputs
abbrev pub ahead : Cursor → ℕ
ahead c = (last_phase + 1 - c.phase) * 18446744073709551616 + c.left * 4294967296 + c.inner

abbrev pub Below : ℕ → Advance → Type 0
Below m (T.Found r c) = ahead c < m
Below m (T.Moved c) = ahead c < m
Below m T.Done = Unit {0}

abbrev pub Shorter : Cursor → Advance → Type 0
Shorter c r = Below (ahead c) r

-- after the step, the measure is below that of every cursor in the phase before
abbrev pub Entered : ℕ → Advance → Type 0
Entered phase r = Below ((last_phase + 1 - phase) * 18446744073709551616 + 18446744073709551616) r
