-- What the code computes from a plan and from a name. Assumes nothing.
use Rattle.wire.specs.declared.Refusal.{Refusal}
use Rattle.std.specs.Prelude.{◌≡◌, ℕ, List, Ok, Err, Option, Result, None, Some}
use Rattle.wire.specs.Format.{took, read}
use Rattle.wire.specs.Series.{series_from}
use Rattle.wire.specs.code.Answer.{Passes, Tells}
use Rattle.transaction.specs.Credentials.{CredentialType, credential_code}
use Rattle.transaction.specs.Plan.{Content, content_of, field_signatures, elements_of, Plan, shut, end, field, many}
use Rattle.transaction.specs.declared.FieldName.{FieldName}
use Rattle.transaction.specs.declared.ListName.{ListName}
use Rattle.transaction.specs.declared.ListName.TheVariants as L

-- in a later phase nothing is due. No row comes near it, so that a longer one leaves it as it is
abbrev pub last_phase : ℕ
last_phase = 32

-- something is due
abbrev pub Live : Plan → Type 0
Live shut = ⊥
Live end = Unit {0}
Live (field f q) = Unit {0}
Live (many l least q) = Unit {0}

-- ---- what the code computes from a name

-- the number of a credential's type, or 0 if none is asked for
abbrev pub credential_asked : Option CredentialType → ℕ
credential_asked None = 0
credential_asked (Some t) = credential_code t

-- the kind of an element's entry; for an initial state, the kind of its outputs
abbrev pub entry_of : ListName → ℕ
entry_of L.Output = 1
entry_of L.Input = 2
entry_of L.State = 6
entry_of L.Operation = 3
entry_of L.Imported = 4
entry_of L.Exported = 5

abbrev pub silent_of : Result ℕ Refusal → Result (ℕ × ℕ) Refusal
silent_of (Ok n) = Ok (0, n)
silent_of (Err e) = Err e

-- if a field was read at `at`, r is the offset just past it; r is the number of signatures that it asks for
abbrev pub FieldPast : FieldName → List ℕ → ℕ → ℕ → Type 0
FieldPast f s at r = (most : ℕ) (v : Content f) (n : ℕ) → read (content_of most f) s at ≡ took v n → r ≡ n

abbrev pub FieldSigns : FieldName → List ℕ → ℕ → ℕ → Type 0
FieldSigns f s at r = (most : ℕ) (v : Content f) (n : ℕ) → read (content_of most f) s at ≡ took v n → r ≡ field_signatures f v

-- if an element was read at `at`, r is the number of signatures that it asks for and the offset just past it
abbrev pub ElementTells : ListName → List ℕ → ℕ → Result (ℕ × ℕ) Refusal → Type 0
ElementTells l s at r = (prev : List ℕ) → Tells ((elements_of l).element prev) (elements_of l).signatures s at r

-- if c elements were read at `at`, r is the offset just past them
abbrev pub ElementsPast : ListName → ℕ → List ℕ → ℕ → Result ℕ Refusal → Type 0
ElementsPast l c s at r = (prev : List ℕ) → Passes (series_from (elements_of l).element prev c) s at r

-- the same of an element of any list that asks for a credential of type c
abbrev pub AskingTells : ℕ → List ℕ → ℕ → Result (ℕ × ℕ) Refusal → Type 0
AskingTells c s at r = (l : ListName) → c ≡ credential_asked (elements_of l).credential → (c ≡ 0 → ⊥) → ElementTells l s at r
