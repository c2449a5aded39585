-- The rules of field formats, as tests on what a step is given. proofs/FieldLaws proves that they agree with the formats (`string-judged` and the
-- laws beside it). Assumes nothing.
use Rattle.wire.specs.declared.Refusal.{Refusal}
use Rattle.std.specs.Prelude.{ℕ, List, length, ltb, leb, eqb, Ok, Result}
use Rattle.wire.specs.Bytes.{pick}
use Rattle.wire.specs.Numbers.{rule_of, unknown_type, bad_length, empty_list, not_printable, bad_denomination}
use Rattle.string.specs.Characters.{unprintable}
use Rattle.transaction.specs.Plan.{is_type}
use Rattle.writer_rules.specs.Judged.{refused_by}

abbrev pub type_rules : ℕ → Result (Unit {0}) Refusal
type_rules type_id = pick (is_type type_id) (Ok tt) (refused_by (rule_of unknown_type))

abbrev pub list_rules : ℕ → ℕ → Result (Unit {0}) Refusal
list_rules count least = pick (leb least count) (Ok tt) (refused_by (rule_of empty_list))

-- a memo has at most `most` bytes; this one has n
abbrev pub memo_rules : ℕ → ℕ → Result (Unit {0}) Refusal
memo_rules most n = pick (leb n most) (Ok tt) (refused_by (rule_of bad_length))

abbrev pub text_rules : ℕ → List ℕ → Result (Unit {0}) Refusal
text_rules most b =
    pick (ltb 0 (length b))
    (pick (leb (length b) most) (pick (eqb (unprintable b) (length b)) (Ok tt) (refused_by (rule_of not_printable))) (refused_by (rule_of bad_length)))
    (refused_by (rule_of bad_length))

abbrev pub denomination_rules : ℕ → Result (Unit {0}) Refusal
denomination_rules n = pick (leb n 32) (Ok tt) (refused_by (rule_of bad_denomination))
