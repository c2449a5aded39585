-- What two slots hold, and what joining them gives (document 01, "Drafts, slots, merging"). A slot's content is a byte string; where the slots of
-- a transaction are is defined in transaction/specs. Assumes nothing.
use Rattle.std.specs.Prelude.{◌≡◌, Bool, true, false, not, cond, ◌&&◌, List, [], ◌∷◌, ℕ, suc, eqb, Option, None, Some}
use Rattle.transaction.specs.Slots.{blank, slot_at}

-- are two byte strings equal?
unfoldable pub same : List ℕ → List ℕ → Bool
same [] [] = true
same [] (y ∷ ys) = false
same (x ∷ xs) [] = false
same (x ∷ xs) (y ∷ ys) = eqb x y && same xs ys

-- a slot that is not empty is filled: it holds a signature
abbrev pub Filled : List ℕ → Type 0
Filled a = a ≡ blank → ⊥

-- two slots that hold different signatures
pub record Clash (a b : List ℕ) : Type 0 where
  pub first : Filled a
  pub second : Filled b
  pub differ : a ≡ b → ⊥

-- the same, as a test
unfoldable pub clashes : List ℕ → List ℕ → Bool
unfolding same
clashes a b = not (same a blank) && (not (same b blank) && not (same a b))

-- what the first slot holds, or, if it is empty, what the second holds
unfoldable pub join : List ℕ → List ℕ → List ℕ
unfolding same
join a b = cond (same a blank) b a

-- the number of the first of these slots in which d and e hold different signatures; the slots are numbered from k
unfoldable pub first_clash : ℕ → List ℕ → List ℕ → List ℕ → Option ℕ
unfolding clashes
first_clash k [] d e = None
first_clash k (p ∷ ps) d e = cond (clashes (slot_at d p) (slot_at e p)) (Some k) (first_clash (suc k) ps d e)
