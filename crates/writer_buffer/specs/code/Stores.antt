-- What a store answers, and what it leaves in the buffer. Assumes nothing.
use Rattle.wire.specs.declared.Refusal.{Refusal}
use Rattle.std.specs.Prelude.{ℕ, ◌+◌, ◌%◌, ◌^◌, Bool, List, [], length, leb, Ok, Err, Result}
use Rattle.wire.specs.Bytes.{digits, pick}
use Rattle.writer_buffer.specs.Stores.{overwrite}

-- the count of 0 that is written if a list is due next
abbrev pub count_of : Bool → List ℕ
count_of opens = pick opens (digits 4 0) []

-- s with n in the four bytes from `at` on, if s has them
unfoldable pub with_integer : List ℕ → ℕ → ℕ → List ℕ
with_integer s at n = pick (leb (at + 4) (length s)) (overwrite s at (digits 4 (n % 256 ^ 4))) s

-- the answer of a store, and the buffer afterwards: the offset n just past it, and t; or why it is refused, and s unchanged
unfoldable pub stored : Result (Unit {0}) Refusal → ℕ → List ℕ → List ℕ → Result ℕ Refusal × List ℕ
stored (Ok tt) n s t = (Ok n, t)
stored (Err e) n s t = (Err e, s)

-- the same for ys, written from `at` on
abbrev pub written : Result (Unit {0}) Refusal → List ℕ → ℕ → List ℕ → Result ℕ Refusal × List ℕ
written v s at ys = stored v (at + length ys) s (overwrite s at ys)
