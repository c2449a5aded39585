-- The rules that the desk refuses by, and their numbers (document 01, "Numbers the desk answers with"). A rule that refuses a transaction while its
-- fields are read is a `ReadingRule`; a format can refuse by no other. Assumes nothing.
use Rattle.std.specs.Prelude.{◌≡◌, ℕ, List}
use Rattle.wire.specs.declared.Rule.{Rule}
use Rattle.wire.specs.declared.Rule.TheVariants as R
use Rattle.wire.specs.declared.Refusal.{Refusal}

-- the number of each rule in the table
abbrev pub rule_number : Rule → ℕ
rule_number R.TooLong = 1
rule_number R.CutShort = 2
rule_number R.WrongCodec = 3
rule_number R.UnknownType = 4
rule_number R.ZeroAmount = 5
rule_number R.OutOfOrder = 6
rule_number R.BadThreshold = 7
rule_number R.BadLength = 8
rule_number R.NotPrintable = 9
rule_number R.BadDenomination = 10
rule_number R.EmptyList = 11
rule_number R.WrongCount = 12
rule_number R.BytesAfterEnd = 13
rule_number R.NoRoom = 14
rule_number R.NoEntry = 15
rule_number R.StepNotDue = 16
rule_number R.FirstNotAccepted = 17
rule_number R.SecondNotAccepted = 18
rule_number R.DraftsDiffer = 19
rule_number R.Conflict = 20
rule_number R.NotASignature = 21

abbrev pub refusal : Rule → ℕ → Refusal
refusal r p = record { rule = r; place = p }

abbrev pub number_of : Refusal → ℕ
number_of e = rule_number e.rule

-- ---- rules on a field

pub data ReadingRule : Type 0 where
  cut_short wrong_codec unknown_type zero_amount out_of_order bad_threshold bad_length not_printable bad_denomination empty_list wrong_count : ReadingRule

abbrev pub rule_of : ReadingRule → Rule
rule_of cut_short = R.CutShort
rule_of wrong_codec = R.WrongCodec
rule_of unknown_type = R.UnknownType
rule_of zero_amount = R.ZeroAmount
rule_of out_of_order = R.OutOfOrder
rule_of bad_threshold = R.BadThreshold
rule_of bad_length = R.BadLength
rule_of not_printable = R.NotPrintable
rule_of bad_denomination = R.BadDenomination
rule_of empty_list = R.EmptyList
rule_of wrong_count = R.WrongCount

-- the rule is a reading rule
abbrev pub Ruled : Rule → Type 0
Ruled x = (r : ReadingRule) × (x ≡ rule_of r)

abbrev pub by : ReadingRule → ℕ → Refusal
by r p = refusal (rule_of r) p

-- the refusal of a field that is cut short: of its w bytes from `at` on, not all are there
abbrev pub cut_at : ℕ → List ℕ → ℕ → Refusal
cut_at w s at = by cut_short at

-- ---- rules on the whole, before and after all fields

abbrev pub too_long : Rule
too_long = R.TooLong

abbrev pub bytes_after_end : Rule
bytes_after_end = R.BytesAfterEnd

-- ---- rules on a request: its room, its entry number, its step, its drafts

abbrev pub no_room : Rule
no_room = R.NoRoom

abbrev pub no_entry : Rule
no_entry = R.NoEntry

abbrev pub step_not_due : Rule
step_not_due = R.StepNotDue

abbrev pub first_not_accepted : Rule
first_not_accepted = R.FirstNotAccepted

abbrev pub second_not_accepted : Rule
second_not_accepted = R.SecondNotAccepted

abbrev pub drafts_differ : Rule
drafts_differ = R.DraftsDiffer

abbrev pub conflict : Rule
conflict = R.Conflict

abbrev pub not_a_signature : Rule
not_a_signature = R.NotASignature
