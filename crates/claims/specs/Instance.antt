-- The hypotheses of demand 3 can be met, with a conflict and without one: by the drafts of P13 and of P14, and one call over them. Assumes nothing.
use Rattle.std.specs.Prelude.{◌≡◌, List, [], ◌∷◌, ℕ, ◌<◌, length, replicate, None, Some}
use Rattle.transaction.specs.Avm.{avm}
use Rattle.transaction.specs.Answer.{memo_most}
use Rattle.draft.specs.Reader.{Reader, reader}
use Rattle.draft_theorems.specs.Groupings.{Drafts, Grouping, first_before, draft, call, Uses, Fits, result}
use Rattle.draft_theorems.specs.Demand.{Conflict, merge_of}
use Rattle.claims.specs.Cases.{A, edited, empty}

abbrev pub Avm : Reader
Avm = reader (avm memo_most)

-- P13: A with slot 0 emptied, and A with slot 1 emptied
abbrev pub halves : List (List ℕ)
halves = edited 262 empty A ∷ edited 327 empty A ∷ []

-- P14: A, and A whose last byte is 1
abbrev pub clashing : List (List ℕ)
clashing = A ∷ edited 391 (1 ∷ []) A ∷ []

-- one call over the two drafts, into a buffer of 400 bytes
abbrev pub one_call : Grouping
one_call = call first_before (replicate 400 9) (draft 0) (draft 1)

-- the hypotheses of demand 3 on a list and a grouping over it
pub record Supposed (ds : List (List ℕ)) (g : Grouping) : Type 0 where
  pub drafts : Drafts Avm ds
  pub fits : Fits ds g
  pub uses : (i : ℕ) → i < length ds → Uses g i

pub record Instances : Type 0 where
  pub halves-supposed : Supposed halves one_call
  pub halves-free : Conflict Avm halves → ⊥
  pub halves-merge : merge_of Avm halves ≡ A
  pub halves-result : result Avm halves one_call ≡ Some A
  pub clashing-supposed : Supposed clashing one_call
  pub clashing-conflict : Conflict Avm clashing
  pub clashing-result : result Avm clashing one_call ≡ None
