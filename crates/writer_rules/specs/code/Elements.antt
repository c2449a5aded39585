-- Elements that a step builds from fields: the bytes before an element's list, the bytes of the list, and whether the list is in order.
-- Assumes nothing.
use Rattle.std.specs.Prelude.{ℕ, Bool, true, false, List, [], ◌∷◌, ◌++◌, ltb}
use Rattle.wire.specs.Bytes.{digits, pick, below}
use Rattle.wire.specs.Format.{Format}

-- an output's asset id, type, amount, locktime and threshold
unfoldable pub output_front : List ℕ → ℕ → ℕ → ℕ → List ℕ
output_front asset amount locktime threshold = asset ++ digits 4 7 ++ digits 8 amount ++ digits 8 locktime ++ digits 4 threshold

-- the front of an output, and the count of its addresses
unfoldable pub output_head : List ℕ → ℕ → ℕ → ℕ → ℕ → List ℕ
output_head asset amount locktime threshold count = output_front asset amount locktime threshold ++ digits 4 count

-- an input's key, asset id, type, amount and the count of its indices
unfoldable pub input_head : List ℕ → ℕ → List ℕ → ℕ → ℕ → List ℕ
input_head txid index asset amount count = txid ++ digits 4 index ++ asset ++ digits 4 5 ++ digits 8 amount ++ digits 4 count

-- integers of 4 bytes each, one after the other
unfoldable pub integers_bytes : List ℕ → List ℕ
integers_bytes [] = []
integers_bytes (n ∷ l) = digits 4 n ++ integers_bytes l

-- each integer is above the one before
unfoldable pub rising : List ℕ → Bool
rising [] = true
rising (m ∷ []) = true
rising (m ∷ (n ∷ l)) = pick (ltb m n) (rising (n ∷ l)) false

-- the bytes of each element are above those of the one before; those of the first are above `before`
module _ {A : Type 0} (F : Format A) where
  unfoldable pub each_above : List ℕ → List A → Bool
  each_above before [] = true
  each_above before (a ∷ l) = pick (below before (F.write a)) (each_above (F.write a) l) false
