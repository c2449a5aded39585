-- An answer packed into one integer of 64 bits, and unpacked again. Assumes nothing.
use Rattle.std.specs.Prelude.{◌≡◌, ℕ, ◌/◌, ◌%◌, ◌^◌, ◌<◌}

-- a fits 64 bits; divided by 2^32 it gives the caller the number n, with the place p as the remainder
pub record TakenApart (a n p : ℕ) : Type 0 where
  pub fits : a < 2 ^ 64
  pub number : a / 2 ^ 32 ≡ n
  pub place : a % 2 ^ 32 ≡ p
