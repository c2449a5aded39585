-- How many bytes, or elements, a good value has
use Rattle.std.specs.Prelude.{◌≡◌, ℕ, List, length}
use Rattle.wire.specs.Format.{Format}
use Rattle.wire.specs.Fields.{blob, integer}
use Rattle.wire.specs.Sequence.{items}
use Rattle.wire.specs.laws.Bytes.{length_digits}

pub blob-sized : (n : ℕ) (b : List ℕ) → (blob n).Good b → length b ≡ n
unfolding blob
blob-sized n b h = h.0

pub length-integer : (w v : ℕ) → length ((integer w).write v) ≡ w
unfolding integer
length-integer w v = length_digits w v

-- a good list has n elements
pub items-sized : {A S : Type 0} (P : S → Format A) (step : S → A → S) (st : S) (n : ℕ) (l : List A) → (items P step st n).Good l → length l ≡ n
unfolding items
items-sized P step st n l h = h.0
