-- Reading a field back gives the same verdict as tests on what was given. Assumes nothing.
use Rattle.std.specs.Prelude.{Ok, Result}
use Prim.Native.Nat.{ℕ, suc, ◌+◌, ◌*◌, ◌%◌, ◌^◌, ◌≤◌, ◌<◌}
use mathlib.Core.Path.{◌≡◌, refl, sym, ap, ap₂, ◌∙◌}
use mathlib.Core.Bool.{Bool}
use mathlib.Core.List.{List, [], ◌∷◌, ◌++◌, append-nil}
use native.Mathlib.Omega.{arith}
use native.Mathlib.Nat.{mod-eq_of_lt, mul_assoc, add-mul, add_assoc}
use lib.Pow.{pow-add}
use lib.ListN.{length, drop, length-append}
use lib.Seq.{drop_at}
use lib.Dec.{ltb, leb, eqb}
use borrow.Author.Tests.{eq-eqb, lt-ltb, le-leb}
use Rattle.wire.specs.Bytes.{pick, Bytes, value, digits}
use Rattle.wire.specs.laws.Bytes.{drop-step, bytes-append, length_digits, bytes-digits, value-digits, digits_value}
use Rattle.wire.specs.Numbers.{rule_of, unknown_type, bad_length, not_printable, bad_denomination, bytes_after_end}
use Rattle.wire.specs.Fields.{integer, blob, constant}
use Rattle.wire.specs.Sequence.{and_then, guard, guard_at, named, tag}
use Rattle.wire.specs.Parsers.{find}
use Rattle.wire.specs.laws.Sequence.{find-is}
use Rattle.wire.specs.declared.Refusal.{Refusal}
use Rattle.string.specs.Strings.{string, text, printable, denomination}
use Rattle.string.specs.Characters.{unprintable}
use Rattle.transaction.specs.Family.{head}
use Rattle.transaction.specs.Plan.{type_id, type_of, type_of-id, types}
use Rattle.transaction.specs.Avm.{avm}
use Rattle.writer_rules.specs.Judged.{refused_by, judged}
use Rattle.writer_rules.specs.Given.{head_bytes, given}
use Rattle.writer_rules.specs.code.Texts.{type_rules, text_rules, denomination_rules}
use Rattle.writer_rules.proofs.Judging.{integer-back, blob-back}

-- ---- a field read back at an offset

module _ {X : Type 0} (s : List ℕ) (p : ℕ) (stop : Refusal → X) where
  integer-at : (w n : ℕ) (t : List ℕ) (go : ℕ → ℕ → X) → drop p s ≡ digits (suc w) n ++ t → (integer (suc w)).parse s p stop go ≡ go n (p + suc w)
  unfolding integer
  integer-at w n t go e = integer-back w n X s p t stop go e ∙ ap (λ (k : ℕ). go n (p + k)) (length_digits (suc w) n)

  bytes-at : (n : ℕ) (b : List ℕ) (go : List ℕ → ℕ → X) → length b ≡ n → drop p s ≡ b → (blob n).parse s p stop go ≡ go b (p + n)
  unfolding blob
  bytes-at n b go l e = blob-back n b l X s p [] stop go (e ∙ sym (append-nil b)) ∙ ap (λ (k : ℕ). go b (p + k)) l

module _ {X : Type 0} (w n : ℕ) (b : List ℕ) (stop : Refusal → X) where
  -- an integer at the front is read, and then all bytes after it
  integer-front : (go : ℕ → ℕ → X) → (integer (suc w)).parse (digits (suc w) n ++ b) 0 stop go ≡ go n (0 + suc w)
  integer-front go = integer-at (digits (suc w) n ++ b) 0 stop w n b go refl

  bytes_after : (go : List ℕ → ℕ → X) → (blob (length b)).parse (digits (suc w) n ++ b) (0 + suc w) stop go ≡ go b (length (digits (suc w) n ++ b))
  bytes_after go =
      let d = length_digits (suc w) n in
      let there : 0 + suc w + length b ≡ length (digits (suc w) n ++ b) = omega (arith, length-append (digits (suc w) n) b) in
      bytes-at (digits (suc w) n ++ b) (0 + suc w) stop (length b) b go refl (drop_at (digits (suc w) n) b (0 + suc w) (omega arith)) ∙ ap (go b) there

-- at the end of the bytes nothing is left over
all_read : (ys : List ℕ) → pick (eqb (length ys) (length ys)) (Ok tt) (refused_by bytes_after_end) ≡ (Ok tt)
all_read ys = rw (eq-eqb (length ys) (length ys) refl)

-- ---- strings

pub string-write : (w most : ℕ) (b : List ℕ) → (string w most).write b ≡ digits w (length b) ++ b
unfolding string named and_then guard integer blob
string-write w most b = refl

pub text-write : (most : ℕ) (b : List ℕ) → (text most).write b ≡ digits 2 (length b) ++ b
unfolding text named and_then guard printable guard_at integer blob
text-write most b = refl

pub string-judged : (most : ℕ) (b : List ℕ)
    → judged (string 4 most) (given (digits 4 (length b) ++ b)) (Ok tt) ≡ pick (leb (length b) most) (Ok tt) (refused_by (rule_of bad_length))
unfolding judged string named and_then guard
string-judged most b =
    integer-front 3 (length b) b _ _
    ∙ ap (λ (x : Result (Unit {0}) Refusal). pick (leb (length b) most) x (refused_by (rule_of bad_length))) (bytes_after 3 (length b) b _ _
    ∙ all_read (digits 4 (length b) ++ b))

pub text-judged : (most : ℕ) (b : List ℕ) → judged (text most) (given (digits 2 (length b) ++ b)) (Ok tt) ≡ text_rules most b
unfolding judged text named and_then guard printable guard_at
text-judged most b =
    integer-front 1 (length b) b _ _
    ∙ ap (λ (x : Result (Unit {0}) Refusal). pick (ltb 0 (length b)) (pick (leb (length b) most) x (refused_by (rule_of bad_length))) (refused_by
    (rule_of bad_length)))
    (bytes_after 1 (length b) b _ _
    ∙ ap (λ (x : Result (Unit {0}) Refusal). pick (eqb (unprintable b) (length b)) x (refused_by (rule_of not_printable))) (all_read (digits 2
    (length b) ++ b)))

-- ---- integers and identifiers

pub denomination-write : (n : ℕ) → denomination.write n ≡ digits 1 n ++ []
unfolding denomination guard integer
denomination-write n = sym (append-nil (digits 1 n))

pub denomination-judged : (n : ℕ) → judged denomination (given (digits 1 n ++ [])) (Ok tt) ≡ denomination_rules n
unfolding judged denomination guard
denomination-judged n =
    integer-front 0 n [] _ _
    ∙ ap (λ (t : Bool). pick (leb n 32) (pick t (Ok tt) (refused_by bytes_after_end)) (refused_by (rule_of bad_denomination)))
    (eq-eqb (0 + 1) (length (digits 1 n ++ [])) (omega (arith, length-append (digits 1 n) [], length_digits 1 n)))

pub id-judged : (c : List ℕ) → length c ≡ 32 → judged (blob 32) (given c) (Ok tt) ≡ (Ok tt)
unfolding judged
id-judged c e = bytes-at c 0 _ 32 c _ e refl ∙ rw (eq-eqb (0 + 32) (length c) (omega arith))

-- ---- a text's tests, given the offset of its first unprintable character

module _ (most : ℕ) (b : List ℕ) (x : ℕ) (p : x ≡ unprintable b) (some : 1 ≤ length b) (few : length b ≤ most) where
  pub text-fine : x ≡ length b → (Ok tt) ≡ text_rules most b
  text-fine e = rw (lt-ltb 0 (length b) (omega arith), le-leb (length b) most few, eq-eqb (unprintable b) (length b) (sym p ∙ e))

-- ---- the head

module _ (most type_number network : ℕ) (chain : List ℕ) (long : length chain ≡ 32) where
  abbrev headed : List ℕ
  headed = head_bytes type_number network chain

  pub head-judged : judged (head (avm most)) (given headed) (Ok tt) ≡ type_rules type_number
  unfolding judged head named and_then constant guard tag digits
  head-judged =
      let e₂ : drop (0 + 2) headed ≡ digits 4 type_number ++ (digits 4 network ++ chain) = drop_at (digits 2 0)
      (digits 4 type_number ++ (digits 4 network ++ chain)) (0 + 2) (length_digits 2 0) in
      let e₆ : drop (0 + 2 + 4) headed ≡ digits 4 network ++ chain = drop-step headed (0 + 2) (digits 4 type_number) (digits 4 network ++ chain) e₂ in
      let e₁₀ : drop (0 + 2 + 4 + 4) headed ≡ chain = drop-step headed (0 + 2 + 4) (digits 4 network) chain e₆ in
      let whole : length headed ≡ 0 + 2 + 4 + 4 + 32 =
      omega (
        arith,
        length-append (digits 2 0) (digits 4 type_number ++ (digits 4 network ++ chain)),
        length-append (digits 4 type_number)
            (digits 4 network ++ chain),
        length-append (digits 4 network) chain,
        length_digits 2 0,
        length_digits 4 type_number,
        length_digits 4 network,
      ) in
      integer-at headed 0 _ 1 0 (digits 4 type_number ++ (digits 4 network ++ chain)) _ refl
      ∙ integer-at headed (0 + 2) _ 3 type_number (digits 4 network ++ chain) _ e₂
      ∙ ap (λ (x : Result (Unit {0}) Refusal). find type_id types type_number (λ k. x) (refused_by (rule_of unknown_type)))
      (integer-at headed (0 + 2 + 4) _ 3 network chain _ e₆ ∙ bytes-at headed (0 + 2 + 4 + 4) _ 32 chain _ long e₁₀
      ∙ rw (eq-eqb (0 + 2 + 4 + 4 + 32) (length headed) (sym whole)))
      ∙ find-is type_id type_of type_of-id types type_number (λ k. (Ok tt)) (refused_by (rule_of unknown_type))

-- ---- codec, type and network as one integer of ten bytes

value-append : (s t : List ℕ) → value (s ++ t) ≡ value s * 256 ^ length t + value t
unfolding value
value-append [] t = omega arith
value-append (x ∷ s) t =
    rw (value-append s t, length-append s t, pow-add 256 (length s) (length t)) (split x (256 ^ length s) (256 ^ length t) (value s) (value t))
  where
    split : (x a b v u : ℕ) → x * (a * b) + (v * b + u) ≡ (x * a + v) * b + u
    split x a b v u = rw (← mul_assoc x a b, add-mul (x * a) v b) (sym (add_assoc (x * a * b) (v * b) u))

pub front-is : (type_number network : ℕ) → type_number < 256 ^ 4 → network < 256 ^ 4
    → digits 10 ((type_number * 4294967296 + network) % 256 ^ 10) ≡ digits 2 0 ++ (digits 4 type_number ++ digits 4 network)
front-is type_number network fk fn =
    let d : List ℕ = digits 4 type_number ++ digits 4 network in
    let four : value d ≡ type_number * 4294967296 + network =
    value-append (digits 4 type_number) (digits 4 network) ∙ rw (value-digits 4 type_number fk, value-digits 4 network fn, length_digits 4 network) in
    let long : length d ≡ 8 = omega (arith, length-append (digits 4 type_number) (digits 4 network), length_digits 4 type_number, length_digits 4 network) in
    let same : value (digits 2 0 ++ d) ≡ type_number * 4294967296 + network = value-append (digits 2 0) d
    ∙ rw (value-digits 2 0 (omega arith), long, four) (omega arith) in
    let ten : length (digits 2 0 ++ d) ≡ 10 = omega (arith, length-append (digits 2 0) d, length_digits 2 0) in
    let bs : Bytes (digits 2 0 ++ d) =
    bytes-append (digits 2 0) d (bytes-digits 2 0 (omega arith))
    (bytes-append (digits 4 type_number) (digits 4 network) (bytes-digits 4 type_number fk) (bytes-digits 4 network fn)) in
    ap (digits 10) (mod-eq_of_lt (omega arith)) ∙ ap₂ digits (sym ten) (sym same) ∙ digits_value (digits 2 0 ++ d) bs
