-- The rules that strings are refused by. Assumes nothing.
use Prim.Native.Nat.{ℕ, ◌+◌}
use lib.ListN.{length}
use lib.Dec.{eqb}
use Rattle.wire.specs.declared.Rule.{Rule}
use Rattle.wire.specs.Numbers.{rule_of, cut_short, bad_length, not_printable, bad_denomination}
use Rattle.wire.specs.Fields.{integer, blob}
use Rattle.wire.specs.Sequence.{and_then, guard}
use Rattle.wire.proofs.Refusing.{RefusesBy, blob-refuses, integer-refuses, then-refuses, guard-refuses, guard_at-refuses, mapped-refuses}
use Rattle.string.specs.Strings.{length_fits, not_empty, text_length, denomination_fits, length_to, string}
use Rattle.string.specs.Characters.{unprintable}
use Rattle.string.specs.laws.Characters.{unprintable-within}
use Rattle.string.specs.Strings.{printable, text, denomination}

module _ (P : Rule → Type 0) (short : P (rule_of cut_short)) where
  pub string-refuses : (w most : ℕ) → P (rule_of bad_length) → RefusesBy (string w most) P
  unfolding string
  string-refuses w most h =
      mapped-refuses P (and_then (length_to w most) blob) (λ v. v.1)
      (then-refuses P (length_to w most) blob
      (guard-refuses P (integer w) (λ n. length_fits most n) bad_length (integer-refuses P w short) h) (λ n. blob-refuses P n short))

  printable-refuses : (n : ℕ) → P (rule_of not_printable) → RefusesBy (printable n) P
  unfolding printable
  printable-refuses n h =
      guard_at-refuses P (blob n) (λ b. eqb (unprintable b) (length b)) not_printable (blob-refuses P n short) h
      (λ at b. at + unprintable b) (λ at b k. unprintable-within n at b)

  pub text-refuses : (most : ℕ) → P (rule_of bad_length) → P (rule_of not_printable) → RefusesBy (text most) P
  unfolding text
  text-refuses most h k =
      mapped-refuses P (and_then (text_length most) printable) (λ v. v.1)
      (then-refuses P (text_length most) printable
      (guard-refuses P (guard (integer 2) (λ n. not_empty n) bad_length) (λ n. length_fits most n) bad_length
      (guard-refuses P (integer 2) (λ n. not_empty n) bad_length (integer-refuses P 2 short) h) h)
      (λ n. printable-refuses n k))

  pub denomination-refuses : P (rule_of bad_denomination) → RefusesBy denomination P
  unfolding denomination
  denomination-refuses h = guard-refuses P (integer 1) (λ n. denomination_fits n) bad_denomination (integer-refuses P 1 short) h
