-- Why a step is refused, by the bytes that it would add. No rule is stated here: the bytes are read by the format that is due. Assumes nothing.
use Rattle.wire.specs.declared.Refusal.{Refusal}
use Rattle.std.specs.Prelude.{length, eqb, Err, Result}
use Rattle.wire.specs.Bytes.{pick}
use Rattle.wire.specs.declared.Rule.{Rule}
use Rattle.wire.specs.Numbers.{refusal, rule_of, cut_short, bytes_after_end}
use Rattle.wire.specs.Format.{Format}
use Rattle.writer_rules.specs.Given.{Given}

-- refused by a rule, at place 0: what the step would add is not in the buffer yet
abbrev pub refused_by : Rule → Result (Unit {0}) Refusal
refused_by x = Err (refusal x 0)

-- the rules are those of the format, and no byte may be left over; what passes gets the verdict v
unfoldable pub judged : {A : Type 0} → Format A → Given → Result (Unit {0}) Refusal → Result (Unit {0}) Refusal
judged F g v =
    pick g.whole
    (F.parse g.bytes 0 (λ e. refused_by e.rule) λ a m. pick (eqb m (length g.bytes)) v (refused_by bytes_after_end))
    (refused_by (rule_of cut_short))
