-- Printable characters: from 0x20 to 0x7e. Assumes nothing.
use Rattle.std.specs.Prelude.{ℕ, suc, Bool, ◌&&◌, List, [], ◌∷◌, leb}
use Rattle.wire.specs.Bytes.{pick}

abbrev pub is_printable : ℕ → Bool
is_printable x = leb 32 x && leb x 126

-- the index of the first character that is not printable, or the length if all are
unfoldable pub unprintable : List ℕ → ℕ
unprintable [] = 0
unprintable (x ∷ xs) = pick (is_printable x) (suc (unprintable xs)) 0
