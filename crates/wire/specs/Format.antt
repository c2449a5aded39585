-- A format: how a value is parsed at an offset of a byte string, how it is written, and the laws that tie the two. Formats are made of smaller ones
-- by combinators (Fields, Sequence, Series), and so are their laws.
--
-- Readers take continuations: `F.parse s at stop go` is `go v next` if a value v stands in s from `at` up to `next`, and `stop e` if it is refused
-- by e. So the parse of the next field is nested in that of the field before, just as the code is a chain of let .. else.
-- Assumes nothing.
use Rattle.std.specs.Prelude.{◌≡◌, ℕ, ◌+◌, ◌≤◌, List, ◌++◌, length, drop}
use Rattle.wire.specs.declared.Refusal.{Refusal}
use Rattle.wire.specs.Bytes.{Bytes}
use Rattle.wire.specs.Numbers.{rule_of, Ruled, cut_short, number_of}

-- the result of a parse: a value and the offset just past it, or the refusal
pub data Parsed (A : Type 0) : Type 0 where
  took : A → ℕ → Parsed A
  refused : Refusal → Parsed A

abbrev pub on_result : {A R : Type 0} → Parsed A → (Refusal → R) → (A → ℕ → R) → R
on_result (took a n) stop go = go a n
on_result (refused e) stop go = stop e

-- w stands in s from `at` up to `next`
pub record Stands (s : List ℕ) (at : ℕ) (w : List ℕ) (next : ℕ) : Type 0 where
  pub ends : next ≡ at + length w
  pub there : drop at s ≡ w ++ drop next s

pub record Format (A : Type 0) : Type 1 where
  -- the parser, with its two continuations
  pub parse : {R : Type 0} → List ℕ → ℕ → (Refusal → R) → (A → ℕ → R) → R
  pub write : A → List ℕ
  -- the values of the format
  pub Good : A → Type 0
  -- the parser does the same for all continuations: it passes them its own result
  pub same : {R : Type 0} (s : List ℕ) (at : ℕ) (stop : Refusal → R) (go : A → ℕ → R) → parse s at stop go ≡ on_result (parse s at refused took) stop go
  -- what is read is a value of the format, and its written bytes stand where it was read
  pub sound : (s : List ℕ) (at : ℕ) (v : A) (next : ℕ) → Bytes s → parse s at refused took ≡ took v next → Good v × Stands s at (write v) next
  -- a value of the format is read wherever its written bytes stand
  pub complete : {R : Type 0} (s : List ℕ) (at : ℕ) (v : A) (t : List ℕ) (stop : Refusal → R) (go : A → ℕ → R) → Good v → drop at s ≡ write v ++ t
      → parse s at stop go ≡ go v (at + length (write v))
  -- a value of the format is written as bytes
  pub bytes : (v : A) → Good v → Bytes (write v)
  -- a refusal other than 2 (cut short) stays when bytes are appended
  pub stable : (s t : List ℕ) (at : ℕ) (e : Refusal) → Bytes s → (e.rule ≡ rule_of cut_short → ⊥) → parse s at refused took ≡ refused e
      → parse (s ++ t) at refused took ≡ refused e
  -- a refusal's rule is a reading rule
  pub ruled : (s : List ℕ) (at : ℕ) (e : Refusal) → parse s at refused took ≡ refused e → Ruled e.rule
  -- a refusal's place is inside the bytes, or at their end
  pub placed : (s : List ℕ) (at : ℕ) (e : Refusal) → Bytes s → at ≤ length s → parse s at refused took ≡ refused e → e.place ≤ length s

-- the result of the parser by itself
abbrev pub read : {A : Type 0} → Format A → List ℕ → ℕ → Parsed A
read F s at = F.parse s at refused took

-- the rule's number and the place that a check reports; of a value that was read, 0 and the offset just past it
abbrev pub verdict : {A : Type 0} → Parsed A → ℕ × ℕ
verdict (took v n) = (0, n)
verdict (refused e) = (number_of e, e.place)
