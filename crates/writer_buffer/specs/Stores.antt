-- Room in the buffer, and bytes put into it. Assumes nothing.
use Rattle.wire.specs.declared.Refusal.{Refusal}
use Rattle.std.specs.Prelude.{ℕ, List, ◌++◌, length, take, drop, leb, Ok, Result}
use Rattle.wire.specs.Bytes.{pick}
use Rattle.wire.specs.Numbers.{no_room}
use Rattle.transaction.specs.Signed.{most_bytes}
use Rattle.writer_rules.specs.Judged.{refused_by}

-- n bytes in all exceed neither the buffer's length nor 65,536
abbrev pub room_in : ℕ → ℕ → Result (Unit {0}) Refusal
room_in n length = pick (leb n length) (pick (leb n most_bytes) (Ok tt) (refused_by no_room)) (refused_by no_room)

unfoldable pub room_for : ℕ → List ℕ → Result (Unit {0}) Refusal
room_for n s = room_in n (length s)

-- s with as many bytes from `at` on overwritten by ys
unfoldable pub overwrite : List ℕ → ℕ → List ℕ → List ℕ
overwrite s at ys = take at s ++ (ys ++ drop (length ys) (drop at s))
