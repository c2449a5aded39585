-- Lists of bytes, big-endian integers, and the order of byte strings. Assumes nothing.
use Rattle.std.specs.Prelude.{ℕ, zero, suc, ◌+◌, ◌-◌, ◌*◌, ◌/◌, ◌%◌, ◌^◌, ◌<◌, Bool, true, false, List, [], ◌∷◌, length, take, drop, ltb}

-- every element is a byte
abbrev pub Bytes : List ℕ → Type 0
Bytes [] = Unit {0}
Bytes (x ∷ xs) = (x < 256) × Bytes xs

-- the first value if the test is true, else the second
abbrev pub pick : {R : Type 0} → Bool → R → R → R
pick true a b = a
pick false a b = b

-- the bytes of s from a up to e
abbrev pub between : ℕ → ℕ → List ℕ → List ℕ
between a e s = take (e - a) (drop a s)

-- the integer that big-endian bytes encode
unfoldable pub value : List ℕ → ℕ
value [] = 0
value (x ∷ xs) = x * 256 ^ length xs + value xs

-- an integer as w big-endian bytes
unfoldable pub digits : ℕ → ℕ → List ℕ
digits zero v = []
digits (suc w) v = v / 256 ^ w ∷ digits w (v % 256 ^ w)

-- strictly below as byte strings: the first byte that differs decides; a string is above each of its proper prefixes
unfoldable pub below : List ℕ → List ℕ → Bool
below [] [] = false
below [] (y ∷ ys) = true
below (x ∷ xs) [] = false
below (x ∷ xs) (y ∷ ys) = pick (ltb x y) true (pick (ltb y x) false (below xs ys))
