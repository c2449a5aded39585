-- Strings: a length, then that many bytes. The length is checked when it is read, the characters when the whole string is there. Assumes nothing.
use Rattle.std.specs.Prelude.{refl, ℕ, ◌+◌, Bool, List, length, leb, ltb, eqb}
use Rattle.std.proofs.Common.{ap}
use Rattle.wire.specs.Numbers.{bad_length, not_printable, bad_denomination}
use Rattle.wire.specs.Format.{Format}
use Rattle.wire.specs.Fields.{integer, blob}
use Rattle.wire.specs.laws.Sizes.{blob-sized}
use Rattle.wire.specs.Sequence.{and_then, guard, guard_at, named}
use Rattle.string.specs.Characters.{unprintable}
use Rattle.string.specs.laws.Characters.{unprintable-within}

-- the length is at most `most`
abbrev pub length_fits : ℕ → ℕ → Bool
length_fits most n = leb n most

abbrev pub length_to : ℕ → ℕ → Format ℕ
length_to w most = guard (integer w) (λ n. length_fits most n) bad_length

unfoldable pub string : ℕ → ℕ → Format (List ℕ)
unfolding named and_then guard
string w most =
    named (and_then (length_to w most) blob) (λ v. v.1) (λ b. (length b, b))
    (λ v h. ap (λ (n : ℕ). (n, v.1)) (blob-sized v.0 v.1 h.1)) (λ b. refl)

-- a memo of at most `most` bytes; 256 in the base
abbrev pub memo : ℕ → Format (List ℕ)
memo most = string 4 most

abbrev pub payload : Format (List ℕ)
payload = string 4 1024

-- ---- text: 1 to `most` characters, each from 0x20 to 0x7e

unfoldable pub printable : ℕ → Format (List ℕ)
unfolding guard_at
printable n = guard_at (blob n) (λ b. eqb (unprintable b) (length b)) not_printable (λ at b. at + unprintable b) (λ at b h. unprintable-within n at b)

abbrev pub not_empty : ℕ → Bool
not_empty n = ltb 0 n

abbrev pub text_length : ℕ → Format ℕ
text_length most = guard (guard (integer 2) (λ n. not_empty n) bad_length) (λ n. length_fits most n) bad_length

unfoldable pub text : ℕ → Format (List ℕ)
unfolding named and_then guard guard_at printable
text most =
    named (and_then (text_length most) printable) (λ v. v.1) (λ b. (length b, b))
    (λ v h. ap (λ (n : ℕ). (n, v.1)) (blob-sized v.0 v.1 h.1.0)) (λ b. refl)

abbrev pub name : Format (List ℕ)
name = text 128

abbrev pub symbol : Format (List ℕ)
symbol = text 4

abbrev pub denomination_fits : ℕ → Bool
denomination_fits n = leb n 32

unfoldable pub denomination : Format ℕ
unfolding guard
denomination = guard (integer 1) (λ n. denomination_fits n) bad_denomination
