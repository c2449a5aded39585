-- Laws for functions that find fields by their offsets: what `x.ok()?` found, for an answer x of wire's. Assumes nothing.
use Rattle.std.specs.Prelude.{Result, Some, Option}
use Rattle.std.specs.Result.{result_ok}
use Prim.Native.Nat.{ℕ, ◌^◌, ◌<◌}
use mathlib.Core.Path.{◌≡◌}
use mathlib.Core.List.{List}
use Rattle.wire.specs.declared.Refusal.{Refusal}
use Rattle.wire.specs.Fields.{integer}
use Rattle.wire.specs.code.Answer.{valued}
use Rattle.wire.proofs.Bytes.{Slice}
use Rattle.wire.proofs.Trying.{ok-some}
use Rattle.wire.proofs.Reading as L

-- an integer of k bytes fits them
pub some-small : (k : ℕ) (s : List ℕ) (at : ℕ) → Slice s → (x : Result (ℕ × ℕ) Refusal) (o : Option (ℕ × ℕ)) (v n : ℕ) → x ≡ valued (integer k) s at
    → o ≡ result_ok x → o ≡ Some (v, n) → v < 256 ^ k
some-small k s at b x o v n p q r = L.value-small k s at x v n p (ok-some x o q (v, n) r) b
