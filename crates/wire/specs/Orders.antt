-- Lists in plain words: what holds of every element, and of every two adjacent elements. Assumes nothing.
use Rattle.std.specs.Prelude.{◌≡◌, ◌⊎◌, ℕ, ◌<◌, true, false, List, [], ◌∷◌}
use Rattle.wire.specs.Bytes.{below}

-- P holds of every element
abbrev pub All : {A : Type 0} (P : A → Type 0) → List A → Type 0
All P [] = Unit {0}
All P (a ∷ l) = P a × All P l

-- a is one of the elements
abbrev pub OneOf : {A : Type 0} (a : A) → List A → Type 0
OneOf a [] = ⊥
OneOf a (b ∷ l) = (a ≡ b) ⊎ OneOf a l

-- R holds of every element and the next one
abbrev pub Adjacent : {A : Type 0} (R : A → A → Type 0) → List A → Type 0
Adjacent R [] = Unit {0}
Adjacent R (a ∷ []) = Unit {0}
Adjacent R (a ∷ (b ∷ l)) = R a b × Adjacent R (b ∷ l)

-- byte strings, each strictly below the next
abbrev pub Increasing : List (List ℕ) → Type 0
Increasing = Adjacent (λ a b. below a b ≡ true)

-- byte strings, none below the one before it
abbrev pub Nondecreasing : List (List ℕ) → Type 0
Nondecreasing = Adjacent (λ a b. below b a ≡ false)

-- integers, each strictly less than the next
abbrev pub Ascending : List ℕ → Type 0
Ascending = Adjacent (λ m n. m < n)
