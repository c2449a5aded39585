-- What the readers of fields return, as the two continuations of a format's parser. Assumes nothing.
use Rattle.wire.specs.declared.Refusal.{Refusal}
use Rattle.std.specs.Prelude.{◌≡◌, ℕ, List, replicate, Ok, Err, Result}
use Rattle.wire.specs.Format.{Format, read, took}
use Rattle.wire.specs.Fields.{blob}

-- where a value ends: the offset just past it
abbrev pub ended : {A : Type 0} → Format A → List ℕ → ℕ → Result ℕ Refusal
ended F s at = F.parse s at Err (λ v n. Ok n)

-- an integer and the offset just past it
abbrev pub valued : Format ℕ → List ℕ → ℕ → Result (ℕ × ℕ) Refusal
valued F s at = F.parse s at Err (λ v n. Ok (v, n))

-- the k bytes from `at` on, or k zeros if they are not all there
abbrev pub whole_at : ℕ → List ℕ → ℕ → List ℕ
whole_at k s at = (blob k).parse s at (λ e. replicate k 0) (λ b n. b)

-- ---- skipping over a value by its lengths: these promise something only of bytes that the format has read

-- if a value was read at `at`, the answer is the offset just past it
abbrev pub Passes : {A : Type 0} → Format A → List ℕ → ℕ → Result ℕ Refusal → Type 0
Passes {A} F s at r = (v : A) (n : ℕ) → read F s at ≡ took v n → r ≡ Ok n

-- if a value v was read at `at`, the answer is f v and the offset just past the value
abbrev pub Tells : {A : Type 0} → Format A → (A → ℕ) → List ℕ → ℕ → Result (ℕ × ℕ) Refusal → Type 0
Tells {A} F f s at r = (v : A) (n : ℕ) → read F s at ≡ took v n → r ≡ Ok (f v, n)
