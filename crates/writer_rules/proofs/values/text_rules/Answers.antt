-- `writer_rules::values::text_rules` meets its contract. Assumes nothing.
use native.Mathlib.Omega.{arith}
use Rattle.std.proofs.lemmas.Bool.Decides.{nat_tests}
use Rattle.writer_rules.proofs.FieldLaws.{text-fine}
use Rattle.writer_rules.proofs.values.text_rules.Goals as goal

pub returns : goal.returns
returns c =
    text-fine c.args.most c.args.bytes.now _ c.first_unprintable.ensures (grind (arith, nat_tests)) c.if-most-bytes.false
    c.if-first_unprintable-bytes.false
