-- Neither the order of the drafts, nor the grouping, nor repetition matters: what follows from demand 3 for two lists, and for calls of merge.
-- Assumes nothing.
use Rattle.std.specs.Prelude.{◌≡◌, ◌⊎◌, ◌↔◌, List, [], ◌∷◌, ℕ, ◌≤◌, ◌<◌, length, IsSome, Some}
use Rattle.draft.specs.Reader.{Reader, Draft, body}
use Rattle.draft.specs.Calls.{merge_call}
use Rattle.draft_theorems.specs.Groupings.{at, Drafts, Grouping, Uses, Fits, Call, call_number, result_of, above, result, Made, Meets}
use Rattle.draft_theorems.specs.Demand.{Conflict}

-- each draft of ds is one of es
abbrev pub Within : List (List ℕ) → List (List ℕ) → Type 0
Within ds es = (i : ℕ) → i < length ds → (j : ℕ) × (j < length es) × (at es j ≡ at ds i)

-- both have a result, the same bytes; or both meet the conflict refusal
abbrev pub Alike : Reader → List (List ℕ) → Grouping → List (List ℕ) → Grouping → Type 0
Alike R ds g es h =
    ((m : List ℕ) × (result R ds g ≡ Some m) × (result R es h ≡ Some m))
    ⊎ (Meets R ds g 20 × Meets R es h 20)

-- calls of g, in the order in which they were made
abbrev pub AllMade : Reader → List (List ℕ) → Grouping → List Call → Type 0
AllMade R ds g [] = Unit {0}
AllMade R ds g (c ∷ cs) = Made R ds g c × AllMade R ds g cs

-- one of them answers n
abbrev pub Answers : Reader → List Call → ℕ → Type 0
Answers R [] n = ⊥
Answers R (c ∷ cs) n = (call_number R c ≡ n) ⊎ Answers R cs n

-- calls of g made in any order, even with those of its two sides interleaved, until one is refused or the result is there. If every call of g is
-- marked `both_anyway`, every call whose two drafts are there may be among them
pub record Evaluation (R : Reader) (ds : List (List ℕ)) (g : Grouping) (cs : List Call) : Type 0 where
  pub made : AllMade R ds g cs
  pub ended : ((n : ℕ) × (n ≡ 0 → ⊥) × Answers R cs n) ⊎ IsSome (result R ds g)

-- e is a draft of d's unsigned transaction
abbrev pub Of : Reader → List ℕ → List ℕ → Type 0
Of R d e = Draft R e × (body R e ≡ body R d)

pub record Orders (R : Reader) : Type 0 where
  -- any two groupings that use each draft, over lists that have the same drafts in whatever order and however often
  pub alike : (ds es : List (List ℕ)) → Drafts R ds → Within ds es → Within es ds
      → (g : Grouping) → Fits ds g → ((i : ℕ) → i < length ds → Uses g i)
      → (h : Grouping) → Fits es h → ((i : ℕ) → i < length es → Uses h i)
      → Alike R ds g es h
  -- in any evaluation the conflict refusal is met exactly when there is a conflict
  pub runs : (ds : List (List ℕ)) → Drafts R ds → (g : Grouping) → Fits ds g → ((i : ℕ) → i < length ds → Uses g i)
      → (cs : List Call) → Evaluation R ds g cs → Answers R cs 20 ↔ Conflict R ds
  -- one draft merged with itself
  pub idempotent : (d out : List ℕ) → Draft R d → length d ≤ length out → result_of (merge_call R d d out) ≡ Some d
  -- two drafts, either first, whatever the buffers hold
  pub commutative : (d e o₁ o₂ : List ℕ) → Draft R d → Of R d e → length d ≤ length o₁ → length d ≤ length o₂
      → result_of (merge_call R d e o₁) ≡ result_of (merge_call R e d o₂)
  -- three drafts
  pub associative : (d e f o₁ o₂ o₃ o₄ : List ℕ) → Draft R d → Of R d e → Of R d f
      → length d ≤ length o₁ → length d ≤ length o₂ → length d ≤ length o₃ → length d ≤ length o₄
      → above R (result_of (merge_call R d e o₁)) (Some f) o₂ ≡ above R (Some d) (result_of (merge_call R e f o₃)) o₄
