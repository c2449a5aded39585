-- What is proved of a family's format: the first half of demand 2, as one statement. Assumes nothing.
use Rattle.std.specs.Prelude.{◌≡◌, ◌↔◌, true, List, ℕ, ◌≤◌, length, take}
use Rattle.wire.specs.Bytes.{Bytes}
use Rattle.wire.specs.Format.{took, refused, read}
use Rattle.wire.specs.declared.Refusal.{Refusal}
use Rattle.wire.specs.Numbers.{number_of}
use Rattle.transaction.specs.Signed.{most_bytes}
use Rattle.transaction.specs.Family.{Family, Unsigned, unsigned, Signed, signed, check, accepted}

-- s is the written bytes of the good transaction v, at most 65,536 of them
pub record Writing (F : Family) (s : List ℕ) (v : Signed F) : Type 0 where
  pub good : (signed F).Good v
  pub written : (signed F).write v ≡ s
  pub short : length s ≤ most_bytes

pub record Codec (F : Family) : Type 0 where
  -- bytes are accepted exactly if they are the written bytes of a good transaction, at most 65,536 of them
  pub accepted-exactly : (s : List ℕ) → Bytes s → (accepted F s ≡ true) ↔ ((v : Signed F) × Writing F s v)
  -- what is read is written as the same bytes, and the place reported is their number
  pub write-after-read : (s : List ℕ) (v : Signed F) (n : ℕ) → Bytes s → check F s ≡ took v n → Writing F s v × (n ≡ length s)
  -- what is written is read
  pub read-after-write : (s : List ℕ) (v : Signed F) → Writing F s v → check F s ≡ took v (length s)
  -- no bytes are the written bytes of two transactions
  pub one-reading : (s : List ℕ) (u v : Signed F) → Writing F s u → Writing F s v → u ≡ v
  -- a refusal's number is one of the table, from 1 to 13
  pub refused-by : (s : List ℕ) (e : Refusal) → check F s ≡ refused e → (1 ≤ number_of e) × (number_of e ≤ 13)
  -- a refusal's place is inside the bytes, or at their end
  pub refused-at : (s : List ℕ) (e : Refusal) → Bytes s → check F s ≡ refused e → e.place ≤ length s
  -- the unsigned part is read in the same way from any bytes with the same first n
  pub unsigned-local : (s t : List ℕ) (u : Unsigned F) (n : ℕ) → Bytes s → read (unsigned F) s 0 ≡ took u n → take n t ≡ take n s
      → read (unsigned F) t 0 ≡ took u n
