-- What the readers of this crate return, as the two continuations of a format's parser. Most return the offset just past the value (`ended`, of
-- wire). Assumes nothing.
use Rattle.wire.specs.declared.Refusal.{Refusal}
use Rattle.std.specs.Prelude.{ℕ, zero, suc, Bool, true, List, ltb, Ok, Err, Result, Option, Some, None}
use Rattle.wire.specs.Bytes.{pick, between, below}
use Rattle.wire.specs.Numbers.{by, out_of_order}
use Rattle.wire.specs.code.Answer.{whole_at}
use Rattle.wire.specs.code.Order.{key_below}
use Rattle.element.specs.declared.inputs.Key.{Key}
use Rattle.element.specs.Inputs.{key}
use Rattle.element.specs.Operations.{OperationType, OperationOwners}

abbrev pub Terms : Type 0
Terms = List ℕ × (ℕ × List ℕ)

abbrev pub Action : Type 0
Action = (k : OperationType) × (Terms × OperationOwners k)

-- ---- orders as the code checks them: the first element has none before it

-- the answer for what is read at `at`, refused if that is below the bytes from `prev` up to `at`
abbrev pub in_order : List ℕ → ℕ → ℕ → Result ℕ Refusal → Result ℕ Refusal
in_order s prev at (Err e) = Err e
in_order s prev at (Ok n) = pick (below (between at n s) (between prev at s)) (Err (by out_of_order at)) (Ok n)

abbrev pub and_next : Result ℕ Refusal → (ℕ → Result ℕ Refusal) → Result ℕ Refusal
and_next (Err e) go = Err e
and_next (Ok n) go = go n

-- n elements from `at` on, each as `f` reads it and not below the one before, which is from `prev` up to `at`
abbrev pub ordered : (ℕ → Result ℕ Refusal) → List ℕ → ℕ → ℕ → ℕ → Result ℕ Refusal
ordered f s prev at zero = Ok at
ordered f s prev at (suc n) = and_next (in_order s prev at (f at)) (λ m. ordered f s at m n)

abbrev pub integer_follows : Option ℕ → ℕ → Bool
integer_follows None n = true
integer_follows (Some p) n = ltb p n

abbrev pub key_follows : Option Key → Key → Bool
key_follows None k = true
key_follows (Some p) k = key_below p.id p.index k.id k.index

-- a key's index and the offset just past the key
abbrev pub keyed : List ℕ → ℕ → Result (ℕ × ℕ) Refusal
keyed s at = key.parse s at Err (λ v n. Ok (v.1, n))

-- the key at an offset, with this index
abbrev pub key_of : List ℕ → ℕ → ℕ → Key
key_of s at index = record { id = whole_at 32 s at; index = index }
