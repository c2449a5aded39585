-- Laws of byte strings and of big-endian integers
use Rattle.std.specs.Prelude.{◌≡◌, refl, ℕ, zero, suc, ◌+◌, ◌%◌, ◌^◌, ◌<◌, List, [], ◌∷◌, ◌++◌, length, take, drop}
use Rattle.std.proofs.Common.{sym, ap, ◌∙◌, pow-suc, mod-lt, div-lt_iff_lt-mul, div-add-mod', mul-pos, zero-lt-suc, arith, drop-drop}
use Rattle.std.proofs.Math.Nat.{pow-succ'}
use Rattle.std.proofs.Math.Seq.{drop-append_seam}
use Rattle.std.proofs.Math.Arith.{digits_lt, digits_div, digits_mod}
use Rattle.wire.specs.Bytes.{Bytes, value, digits}

pub bytes_take : (n : ℕ) (s : List ℕ) → Bytes s → Bytes (take n s)
bytes_take zero s h = tt
bytes_take (suc n) [] h = tt
bytes_take (suc n) (x ∷ xs) h = (h.0, bytes_take n xs h.1)

pub bytes_drop : (n : ℕ) (s : List ℕ) → Bytes s → Bytes (drop n s)
bytes_drop zero s h = h
bytes_drop (suc n) [] h = tt
bytes_drop (suc n) (x ∷ xs) h = bytes_drop n xs h.1

pub bytes-append : (a b : List ℕ) → Bytes a → Bytes b → Bytes (a ++ b)
bytes-append [] b h k = k
bytes-append (x ∷ xs) b h k = (h.0, bytes-append xs b h.1 k)

-- if w stands in s from `at` on, what follows w in s
pub drop-step : (s : List ℕ) (at : ℕ) (w t : List ℕ) → drop at s ≡ w ++ t → drop (at + length w) s ≡ t
drop-step s at w t e = sym (drop-drop (length w) at s) ∙ ap (drop (length w)) e ∙ drop-append_seam w t

pub pow-positive : (w : ℕ) → zero < 256 ^ w
pow-positive zero = omega arith
pow-positive (suc w) = rw pow-suc (mul-pos (pow-positive w) (zero-lt-suc 255))

pub value-lt : (s : List ℕ) → Bytes s → value s < 256 ^ length s
unfolding value
value-lt [] h = omega arith
value-lt (x ∷ xs) h = rw pow-succ' (digits_lt h.0 (value-lt xs h.1))

pub length_digits : (w v : ℕ) → length (digits w v) ≡ w
unfolding digits
length_digits zero v = refl
length_digits (suc w) v = ap suc (length_digits w (v % 256 ^ w))

pub bytes-digits : (w v : ℕ) → v < 256 ^ w → Bytes (digits w v)
unfolding digits
bytes-digits zero v h = tt
bytes-digits (suc w) v h =
    ((div-lt_iff_lt-mul (pow-positive w)).1 (rw pow-succ' at h), bytes-digits w (v % 256 ^ w) (mod-lt v (pow-positive w)))

pub value-digits : (w v : ℕ) → v < 256 ^ w → value (digits w v) ≡ v
unfolding digits value
value-digits zero v h = omega arith
value-digits (suc w) v h =
    rw (length_digits w (v % 256 ^ w), value-digits w (v % 256 ^ w) (mod-lt v (pow-positive w))) (div-add-mod' v (256 ^ w))

pub digits_value : (s : List ℕ) → Bytes s → digits (length s) (value s) ≡ s
unfolding digits value
digits_value [] h = refl
digits_value (x ∷ xs) h = rw (digits_div x (value-lt xs h.1), digits_mod x (value-lt xs h.1), digits_value xs h.1)
