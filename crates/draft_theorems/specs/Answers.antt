-- Demand 1 of document 00, for merge and fill: whatever bytes and numbers they are handed, the answer has a number of the table, a refusal changes
-- no lent byte, and each refusal has its condition. For any reader. Assumes nothing.
use Rattle.wire.specs.declared.Refusal.{Refusal}
use Rattle.std.specs.Prelude.{◌≡◌, ◌⊎◌, true, false, List, [], ◌∷◌, ◌++◌, ℕ, ◌≤◌, ◌<◌, length, drop, Ok, Result}
use Rattle.wire.specs.Numbers.{no_room, no_entry, first_not_accepted, second_not_accepted, drafts_differ, conflict, not_a_signature}
use Rattle.wire.specs.Orders.{OneOf}
use Rattle.transaction.specs.Slots.{signature_width}
use Rattle.draft.specs.Reader.{Reader, Draft, body, slot_count}
use Rattle.draft.specs.Calls.{answer_number, answer_place, refuse, merged, merge_call, fill_call}
use Rattle.draft_theorems.specs.Demand.{FirstClash}

-- the numbers of the table that a call can answer
abbrev pub merge_numbers : List ℕ
merge_numbers = 0 ∷ 14 ∷ 17 ∷ 18 ∷ 19 ∷ 20 ∷ []

abbrev pub fill_numbers : List ℕ
fill_numbers = 0 ∷ 15 ∷ 17 ∷ 20 ∷ 21 ∷ []

-- what one call guarantees, by the lent bytes before it, and its answer with the lent bytes afterwards
pub record Owes (numbers before : List ℕ) (a : Result ℕ Refusal × List ℕ) : Type 0 where
  pub number : OneOf (answer_number a.0) numbers
  -- a refusal leaves every byte as it was
  pub refused : (answer_number a.0 ≡ 0 → ⊥) → a.1 ≡ before
  -- and reports place 0, except a conflict, which reports a slot
  pub place : OneOf (answer_number a.0) (0 ∷ 20 ∷ []) ⊎ (answer_place a.0 ≡ 0)

pub record CallsOwe (R : Reader) : Type 0 where
  pub merge : (d e out : List ℕ) → Owes merge_numbers out (merge_call R d e out)
  pub fill : (d : List ℕ) (k : ℕ) (s : List ℕ) → Owes fill_numbers d (fill_call R d k s)

-- ---- the condition of each answer, in the order of the tests: a condition decides only if none before it holds

pub record CallsDecide (R : Reader) : Type 0 where
  -- merge: "checks 17, 18, 19, 20, 14 in that order"
  pub first-refused : (d e out : List ℕ) → R.accepts d ≡ false → merge_call R d e out ≡ (refuse first_not_accepted 0, out)
  pub second-refused : (d e out : List ℕ) → R.accepts d ≡ true → R.accepts e ≡ false → merge_call R d e out ≡ (refuse second_not_accepted 0, out)
  pub differ : (d e out : List ℕ) → R.accepts d ≡ true → R.accepts e ≡ true → (body R d ≡ body R e → ⊥) → merge_call R d e out ≡ (refuse drafts_differ 0, out)
  pub conflict : (d e out : List ℕ) → Draft R d → Draft R e → body R d ≡ body R e
      → (k : ℕ) → FirstClash R d e k → merge_call R d e out ≡ (refuse conflict k, out)
  pub no_room : (d e out : List ℕ) → Draft R d → Draft R e → body R d ≡ body R e → ((k : ℕ) → FirstClash R d e k → ⊥)
      → length out < length d → merge_call R d e out ≡ (refuse no_room 0, out)
  pub done : (d e out : List ℕ) → Draft R d → Draft R e → body R d ≡ body R e → ((k : ℕ) → FirstClash R d e k → ⊥)
      → length d ≤ length out → merge_call R d e out ≡ (Ok (length d), merged R d e ++ drop (length d) out)
  -- fill: "17, 15, 21, then 20"; `refused` and `done` of specs/Filling state when it answers 20 and when it is done
  pub fill-refused : (d : List ℕ) (k : ℕ) (s : List ℕ) → R.accepts d ≡ false → fill_call R d k s ≡ (refuse first_not_accepted 0, d)
  pub no_slot : (d : List ℕ) (k : ℕ) (s : List ℕ) → R.accepts d ≡ true → slot_count R d ≤ k → fill_call R d k s ≡ (refuse no_entry 0, d)
  pub not-a-signature : (d : List ℕ) (k : ℕ) (s : List ℕ) → R.accepts d ≡ true → k < slot_count R d → (length s ≡ signature_width → ⊥)
      → fill_call R d k s ≡ (refuse not_a_signature 0, d)
