use native.Mathlib.Omega.{arith}
use Rattle.wire.proofs.Reading.{array-short, array-there}
use Rattle.wire.proofs.array_at.Goals as goal

pub returns-in_default : goal.returns-in_default
returns-in_default g c = array-short _ _ _ (omega (arith, c.in_default.ensures.lookup))

pub returns-in-None : goal.returns-in-None
returns-in-None g c = array-short _ _ _ (omega (arith, c.in-Some.ensures.lookup, c.in-None.ensures.cases))

pub returns-in-Some-first_chunk : goal.returns-in-Some-first_chunk
returns-in-Some-first_chunk g c =
    let rest = c.in-Some.ensures.lookup.0 in
    let field = c.in-Some-first_chunk.ensures.cases in
    array-there _ _ _ _ _ rest.2 (omega (arith, rest, field.enough)) field.same
