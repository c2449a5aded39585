-- The numbers of rules are those of the table
use Prim.Native.Nat.{◌≤◌}
use native.Mathlib.Omega.{arith}
use Rattle.wire.specs.declared.Rule.{Rule}
use Rattle.wire.specs.declared.Rule.TheVariants as R
use Rattle.wire.specs.Numbers.{rule_number, ReadingRule, rule_of, Ruled, cut_short, wrong_codec, unknown_type, zero_amount, out_of_order, bad_threshold}
use Rattle.wire.specs.Numbers.{bad_length, not_printable, bad_denomination, empty_list, wrong_count}

-- every rule has a number of the table
pub number-range : (x : Rule) → (1 ≤ rule_number x) × (rule_number x ≤ 21)
number-range R.TooLong = (omega arith, omega arith)
number-range R.CutShort = (omega arith, omega arith)
number-range R.WrongCodec = (omega arith, omega arith)
number-range R.UnknownType = (omega arith, omega arith)
number-range R.ZeroAmount = (omega arith, omega arith)
number-range R.OutOfOrder = (omega arith, omega arith)
number-range R.BadThreshold = (omega arith, omega arith)
number-range R.BadLength = (omega arith, omega arith)
number-range R.NotPrintable = (omega arith, omega arith)
number-range R.BadDenomination = (omega arith, omega arith)
number-range R.EmptyList = (omega arith, omega arith)
number-range R.WrongCount = (omega arith, omega arith)
number-range R.BytesAfterEnd = (omega arith, omega arith)
number-range R.NoRoom = (omega arith, omega arith)
number-range R.NoEntry = (omega arith, omega arith)
number-range R.StepNotDue = (omega arith, omega arith)
number-range R.FirstNotAccepted = (omega arith, omega arith)
number-range R.SecondNotAccepted = (omega arith, omega arith)
number-range R.DraftsDiffer = (omega arith, omega arith)
number-range R.Conflict = (omega arith, omega arith)
number-range R.NotASignature = (omega arith, omega arith)

pub ruled-range : (x : Rule) → Ruled x → (2 ≤ rule_number x) × (rule_number x ≤ 12)
ruled-range x (r, e) = rw e (range r)
  where
    range : (r : ReadingRule) → (2 ≤ rule_number (rule_of r)) × (rule_number (rule_of r) ≤ 12)
    range cut_short = (omega arith, omega arith)
    range wrong_codec = (omega arith, omega arith)
    range unknown_type = (omega arith, omega arith)
    range zero_amount = (omega arith, omega arith)
    range out_of_order = (omega arith, omega arith)
    range bad_threshold = (omega arith, omega arith)
    range bad_length = (omega arith, omega arith)
    range not_printable = (omega arith, omega arith)
    range bad_denomination = (omega arith, omega arith)
    range empty_list = (omega arith, omega arith)
    range wrong_count = (omega arith, omega arith)
