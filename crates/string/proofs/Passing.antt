-- A string that was read is its length and that many bytes. Assumes nothing.
use Rattle.std.specs.Prelude.{Ok, Err, Result}
use mathlib.Core.Path.{◌≡◌, refl}
use Prim.Native.Nat.{ℕ}
use mathlib.Core.List.{List}
use lib.ListN.{length}
use Rattle.wire.specs.declared.Refusal.{Refusal}
use Rattle.wire.specs.Format.{Format, Parsed, refused}
use Rattle.wire.specs.Fields.{blob, integer}
use Rattle.wire.specs.Sequence.{and_then}
use Rattle.wire.specs.code.Answer.{ended, Passes}
use Rattle.wire.proofs.Bytes.{Slice}
use Rattle.wire.proofs.Passing.{Yields, next, passes, parse-next, parse-refused, leads-parse, leads-covered, Covers}
use Rattle.string.specs.Strings.{string, memo, text}

-- a length of w bytes, and that many bytes
abbrev pub by_length : ℕ → Format (ℕ × List ℕ)
by_length w = and_then (integer w) blob

abbrev measured : List ℕ → ℕ × List ℕ
measured b = (length b, b)

string-covers : (most : ℕ) → Covers (memo most) (by_length 4) measured
unfolding string and_then
string-covers most b g = ((g.0.0, g.1), refl)

text-covers : (most : ℕ) → Covers (text most) (by_length 2) measured
unfolding text and_then
text-covers most b g = ((g.0.0.0, g.1.0), refl)

module _ (s : List ℕ) (at : ℕ) (b : Slice s) (z : Result ℕ Refusal) where
  pub string-passed : z ≡ ended (by_length 4) s at → (most : ℕ) → Passes (memo most) s at z
  string-passed h most =
      passes (memo most) s at z
      (leads-covered (memo most) (by_length 4) measured (string-covers most) s at b next z (leads-parse (by_length 4) s at next z Err h))

  pub text-passed : z ≡ ended (by_length 2) s at → (most : ℕ) → Passes (text most) s at z
  text-passed h most =
      passes (text most) s at z
      (leads-covered (text most) (by_length 2) measured (text-covers most) s at b next z (leads-parse (by_length 2) s at next z Err h))

-- after a call of `string_past`, whose answer is x
module _ {B R : Type 0} (most : ℕ) (s : List ℕ) (at : ℕ) (k : List ℕ → ℕ → Parsed B) (go : B → ℕ → R) (z : R) (x : Result ℕ Refusal) where
  pub string-next : (m : ℕ) → x ≡ Ok m → ((most : ℕ) → Passes (memo most) s at x) → ((v : List ℕ) → Yields (k v m) go z)
      → Yields ((memo most).parse s at refused k) go z
  string-next m q p = parse-next (memo most) s at k go z x (p most) m q

  pub string-refused : (e : Refusal) → x ≡ Err e → ((most : ℕ) → Passes (memo most) s at x) → Yields ((memo most).parse s at refused k) go z
  string-refused e q p = parse-refused (memo most) s at k go z x (p most) e q
