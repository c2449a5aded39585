-- Laws for the readers of this crate: what each answer says of the parse that its function ensures. Assumes nothing.
use Rattle.std.specs.Prelude.{Ok, Err, Result}
use Prim.Native.Nat.{ℕ, ◌+◌}
use mathlib.Core.Path.{◌≡◌, sym, ◌∙◌}
use mathlib.Core.Bool.{Bool, true, false, not}
use borrow.Author.Tests.{le-leb, not-true, not-false}
use mathlib.Core.List.{List, []}
use native.Mathlib.Omega.{arith}
use lib.ListN.{length}
use lib.Dec.{leb}
use Rattle.wire.specs.declared.Refusal.{Refusal}
use Rattle.wire.specs.Bytes.{pick}
use Rattle.wire.specs.Numbers.{by, unknown_type}
use Rattle.wire.specs.Format.{Format, took, read}
use Rattle.wire.proofs.Format.{parse-alike}
use Rattle.wire.specs.Fields.{integer}
use Rattle.wire.specs.Sequence.{tag, items}
use Rattle.wire.specs.laws.Sequence.{find-is, listed-code}
use Rattle.wire.specs.Parsers.{list_parse}
use Rattle.wire.specs.laws.Sizes.{items-sized}
use Rattle.wire.specs.code.Answer.{ended, valued}
use Rattle.wire.proofs.Bytes.{Slice, slice-bytes}
use Rattle.wire.proofs.Reading as W
use Rattle.element.proofs.Reading.{on-whole, on-refused}
use Rattle.transaction.specs.Credentials.{signatures, pieces}
use Rattle.transaction.specs.Plan.{type_id, type_of, type_of-id, types, is_type}
use Rattle.transaction.specs.declared.TransactionType.{TransactionType}
use Rattle.wire.proofs.Trying.{passed-on, same-parts}

-- ---- the type

abbrev type_tag : Format TransactionType
type_tag = tag type_id type_of type_of-id (integer 4) types unknown_type

type-parse : {R : Type 0} (s : List ℕ) (at : ℕ) (stop : Refusal → R) (go : TransactionType → ℕ → R)
    → type_tag.parse s at stop go ≡ (integer 4).parse s at stop (λ n m. pick (is_type n) (go (type_of n) m) (stop (by unknown_type at)))
unfolding tag
type-parse s at stop go =
    parse-alike (integer 4) s at stop _ _ (λ n m. find-is type_id type_of type_of-id types n (λ k. go k m) (stop (by unknown_type at)))

module _ {R : Type 0} (s : List ℕ) (at : ℕ) (z : R) (stop : Refusal → R) (go : TransactionType → ℕ → R) (x : Result (ℕ × ℕ) Refusal)
    (p : x ≡ valued (integer 4) s at) where
  pub on-type : (v n : ℕ) → x ≡ Ok (v, n) → (b : Bool) → b ≡ is_type v → not b ≡ false → z ≡ go (type_of v) n → z ≡ type_tag.parse s at stop go
  on-type v n q b i h e = W.on_value 4 s at z stop _ x v n p q (rw (sym i ∙ not-false b h) e) ∙ sym (type-parse s at stop go)

  pub on-type-unknown : (v n : ℕ) → x ≡ Ok (v, n) → (b : Bool) → b ≡ is_type v → not b ≡ true → z ≡ stop (by unknown_type at)
      → z ≡ type_tag.parse s at stop go
  on-type-unknown v n q b i h e = W.on_value 4 s at z stop _ x v n p q (rw (sym i ∙ not-true b h) e) ∙ sym (type-parse s at stop go)

  pub on-type-refused : (e : Refusal) → x ≡ Err e → z ≡ stop e → z ≡ type_tag.parse s at stop go
  on-type-refused e q r = W.on-integer-refused 4 s at z stop _ x e p q r ∙ sym (type-parse s at stop go)

pub head-made : (v n : ℕ) (b : Bool) → b ≡ is_type v → not b ≡ false → ◌≡◌ {A = Result (ℕ × ℕ) Refusal} (Ok (v, n)) (Ok (type_id (type_of v), n))
head-made v n b i h = rw (listed-code type_id type_of type_of-id types v (sym i ∙ not-false b h))

pub ruleset heading =
    (W.on_value, W.on-integer-refused, W.if-eq, W.if-ne, on-type, on-type-unknown, on-type-refused, W.on-part, W.on-part-refused, head-made, passed-on)

-- ---- lists

-- c elements, read as a list of length c
pub on-sized : {A R : Type 0} (E : List ℕ → Format A) (step : List ℕ → A → List ℕ) (st : List ℕ) (c : ℕ) (s : List ℕ) (at : ℕ) (z : R) (stop : Refusal → R)
    (go : List A → ℕ → R) (x : Result ℕ Refusal) (n : ℕ)
    → x ≡ ended (items E step st c) s at → x ≡ Ok n → Slice s → ((l : List A) → c ≡ length l → z ≡ go l n) → z ≡ (items E step st c).parse s at stop go
on-sized E step st c s at z stop go x n p q b e =
    let (l, t) = W.next-took (items E step st c) s at x n p q in
    e l (sym (items-sized E step st c l ((items E step st c).sound s at l n (slice-bytes s b) t).0)) ∙ sym (W.parse-took (items E step st c) s at stop go l n t)

-- no element
pub on_none : {A R : Type 0} (E : List ℕ → Format A) (step : List ℕ → A → List ℕ) (st : List ℕ) (c : ℕ) (s : List ℕ) (at : ℕ) (z : R) (stop : Refusal → R)
    (go : List A → ℕ → R) → c ≡ 0 → z ≡ go [] at → z ≡ (items E step st c).parse s at stop go
unfolding items list_parse
on_none E step st c s at z stop go h e = rw h e

-- a list that may have any length
pub on-any : {R : Type 0} (c : ℕ) (z a b : R) → z ≡ a → z ≡ pick (leb 0 c) a b
on-any c z a b e = rw (le-leb 0 c (omega arith)) e

pub list-made : (c d n : ℕ) → c ≡ d → ◌≡◌ {A = Result (ℕ × ℕ) Refusal} (Ok (c, n)) (Ok (d, n))
list-made c d n e = rw e

pub ruleset listing = (
  W.on_value,
  W.on-integer-refused,
  W.if-le,
  W.if-not-le,
  on_none,
  on-any,
  on-sized,
  W.on-list-refused,
  W.ends,
  W.stops,
  list-made,
  W.integer-made,
  passed-on,
)

-- ---- a value that was read ends after as many bytes as the format writes for it

pub written_next : {A : Type 0} (F : Format A) (s : List ℕ) (at : ℕ) (v : A) (n : ℕ) → Slice s → read F s at ≡ took v n → n ≡ at + length (F.write v)
written_next F s at v n b t = (F.sound s at v n (slice-bytes s b) t).1.ends

-- ---- a reader that returns a number computed from the value

module _ {A R : Type 0} (F : Format A) (f : A → ℕ) (s : List ℕ) (at : ℕ) (z : R) (stop : Refusal → R) (go : A → ℕ → R) (x : Result (ℕ × ℕ) Refusal)
    (p : x ≡ F.parse s at Err (λ v n. Ok (f v, n))) where
  pub on-answered : (c n : ℕ) → x ≡ Ok (c, n) → ((v : A) → c ≡ f v → read F s at ≡ took v n → z ≡ go v n) → z ≡ F.parse s at stop go
  on-answered c n q e =
      on-whole F Err (λ v n. Ok (f v, n)) s at z stop go x p (Ok (c, n)) n q (λ d i. cc) (λ v m i. (same-parts i).1) (λ v i t. e v (sym (same-parts i).0) t)

  pub on-answered-refused : (e : Refusal) → x ≡ Err e → z ≡ stop e → z ≡ F.parse s at stop go
  on-answered-refused e q r = on-refused F Err (λ v n. Ok (f v, n)) s at z stop go x p e q (λ v m i. cc) (λ d i. cc) r

-- ---- signatures, and a credential

module _ {R : Type 0} (c : ℕ) (s : List ℕ) (at : ℕ) (z : R) (stop : Refusal → R) (go : List (List ℕ) → ℕ → R) (x : Result ℕ Refusal)
    (p : x ≡ ended (pieces (signatures c [])) s at) where
  pub on-signatures : (n : ℕ) → x ≡ Ok n → ((l : List (List ℕ)) → z ≡ go l n) → z ≡ (pieces (signatures c [])).parse s at stop go
  on-signatures n q e = W.ends (pieces (signatures c [])) R s at z stop go x n p q e

  pub on-signatures-refused : (e : Refusal) → x ≡ Err e → z ≡ stop e → z ≡ (pieces (signatures c [])).parse s at stop go
  on-signatures-refused e q r = W.stops (pieces (signatures c [])) R s at z stop go x e p q r

pub ruleset piecewise = (W.on_value, W.on-integer-refused, W.if-eq, W.if-ne, on-signatures, on-signatures-refused, W.part-made, passed-on)
