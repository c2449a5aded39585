-- Lists of drafts, and groupings of merge calls over them (document 01, "Drafts, slots, merging"). Assumes nothing.
use Rattle.wire.specs.declared.Refusal.{Refusal}
use Rattle.std.specs.Prelude.{◌≡◌, ◌⊎◌, cond, List, [], ℕ, ◌≤◌, ◌<◌, eqb, length, take, get_or, Option, Result, IsSome, None, Some}
use Rattle.draft.specs.Reader.{Reader, Draft, body}
use Rattle.draft.specs.Calls.{answer_number, answer_place, merge_call}

-- ---- drafts

-- draft i of a list, from 0
abbrev pub at : List (List ℕ) → ℕ → List ℕ
at ds i = get_or ds i []

-- one or more accepted drafts of the same unsigned transaction: their bytes before the credential count are equal
pub record Drafts (R : Reader) (ds : List (List ℕ)) : Type 0 where
  pub one-or-more : 0 < length ds
  pub drafts : (i : ℕ) → i < length ds → Draft R (at ds i)
  pub same-unsigned : (i j : ℕ) → i < length ds → j < length ds → body R (at ds i) ≡ body R (at ds j)

-- ---- groupings

-- which side's calls are made first, and whether the other side's are still made if one of them is refused
pub data Sides : Type 0 where
  -- the first side, then the second if the first has a result
  first_before : Sides
  -- the second side, then the first if the second has a result
  second_before : Sides
  -- each side, whether the other has a result or not
  both_anyway : Sides

-- one draft of the list, with no call; or one merge call over the results of two groupings, with what its output buffer held before.
-- A draft or result is a list here, and a call reads it as it was: an output buffer shares no byte with its own call's drafts, nor with a draft or
-- result that is still to be read, and until they are read nobody else writes them. `Fits` states that each output buffer has room for a draft
pub data Grouping : Type 0 where
  draft : ℕ → Grouping
  call : Sides → List ℕ → Grouping → Grouping → Grouping

-- the grouping uses draft i
abbrev pub Uses : Grouping → ℕ → Type 0
Uses (draft j) i = j ≡ i
Uses (call o out g h) i = Uses g i ⊎ Uses h i

-- the grouping is over this list, and each output buffer has room for a draft
abbrev pub Fits : List (List ℕ) → Grouping → Type 0
Fits ds (draft i) = i < length ds
Fits ds (call o out g h) = ((i : ℕ) × (i < length ds) × (length (at ds i) ≤ length out)) × Fits ds g × Fits ds h

-- ---- the calls

pub record Call : Type 0 where
  pub first : List ℕ
  pub second : List ℕ
  pub out : List ℕ

-- what merge's contract promises of a call: the answer, and the output buffer afterwards
abbrev pub answered : Reader → Call → Result ℕ Refusal × List ℕ
answered R c = merge_call R c.first c.second c.out

abbrev pub call_number : Reader → Call → ℕ
call_number R c = answer_number (answered R c).0

abbrev pub call_place : Reader → Call → ℕ
call_place R c = answer_place (answered R c).0

abbrev pub call_buffer : Reader → Call → List ℕ
call_buffer R c = (answered R c).1

-- the result of a call that answers 0 is the front of its output buffer, as many bytes as its place says; a refused call has none
abbrev pub result_of : Result ℕ Refusal × List ℕ → Option (List ℕ)
result_of (a, out) = cond (eqb (answer_number a) 0) (Some (take (answer_place a) out)) None

-- the call above two groupings, made if both have a result
abbrev pub above : Reader → Option (List ℕ) → Option (List ℕ) → List ℕ → Option (List ℕ)
above R None y out = None
above R (Some d) None out = None
above R (Some d) (Some e) out = result_of (merge_call R d e out)

unfoldable pub result : Reader → List (List ℕ) → Grouping → Option (List ℕ)
unfolding merge_call
result R ds (draft i) = Some (at ds i)
result R ds (call o out g h) = above R (result R ds g) (result R ds h) out

-- c is the call above g and h
abbrev pub Above : Reader → List (List ℕ) → List ℕ → Grouping → Grouping → Call → Type 0
Above R ds out g h c = (result R ds g ≡ Some c.first) × (result R ds h ≡ Some c.second) × (c.out ≡ out)

-- c is made: a call that is refused ends the grouping, and the calls above it are not made
abbrev pub Made : Reader → List (List ℕ) → Grouping → Call → Type 0
Made R ds (draft i) c = ⊥
Made R ds (call first_before out g h) c = Made R ds g c ⊎ (IsSome (result R ds g) × Made R ds h c) ⊎ Above R ds out g h c
Made R ds (call second_before out g h) c = (IsSome (result R ds h) × Made R ds g c) ⊎ Made R ds h c ⊎ Above R ds out g h c
Made R ds (call both_anyway out g h) c = Made R ds g c ⊎ Made R ds h c ⊎ Above R ds out g h c

-- a call that is made answers n
pub record Meets (R : Reader) (ds : List (List ℕ)) (g : Grouping) (n : ℕ) : Type 0 where
  pub asked : Call
  pub made : Made R ds g asked
  pub answers : call_number R asked ≡ n
