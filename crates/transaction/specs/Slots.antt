-- Slots: the 65 bytes of a transaction for each signature, and what is put into them. A slot is known by its offset. Assumes nothing.
use Rattle.std.specs.Prelude.{◌⊎◌, List, [], ◌∷◌, ◌++◌, ℕ, ◌+◌, ◌≤◌, ◌<◌, take, drop, replicate}

unfoldable pub signature_width : ℕ
signature_width = 65

-- an empty slot: zeros only
unfoldable pub blank : List ℕ
blank = replicate signature_width 0

-- the bytes of the slot at offset p
unfoldable pub slot_at : List ℕ → ℕ → List ℕ
slot_at d p = take signature_width (drop p d)

-- d with the slot at p replaced by s, and d with the slot at each p of a list replaced by f p
unfoldable pub put_slot : ℕ → List ℕ → List ℕ → List ℕ
put_slot p s d = take p d ++ s ++ drop (p + signature_width) d

unfoldable pub put_all : List ℕ → (ℕ → List ℕ) → List ℕ → List ℕ
put_all [] f d = d
put_all (p ∷ ps) f d = put_all ps f (put_slot p (f p) d)

-- the offset n is in no slot
abbrev pub Outside : List ℕ → ℕ → Type 0
Outside [] n = Unit {0}
Outside (p ∷ ps) n = ((n < p) ⊎ (p + signature_width ≤ n)) × Outside ps n

-- the slots follow each other from lo on, and end at n at the latest
abbrev pub Spaced : ℕ → List ℕ → ℕ → Type 0
Spaced lo [] n = lo ≤ n
Spaced lo (p ∷ ps) n = (lo ≤ p) × Spaced (p + signature_width) ps n
