-- `string::first_unprintable` meets its contract. Assumes nothing.
use Rattle.std.proofs.Common.{rules, tests}
use Rattle.std.proofs.lemmas.Iterator.{YieldsList-from_slice}
use Rattle.std.proofs.lemmas.Iterator.Search.{position_from_yields_List}
use Rattle.string.proofs.Reading.{is_unprintable, unprintable-found}
use Rattle.string.proofs.first_unprintable.Goals as goal

pub returns : goal.returns
returns c =
    let found =
    position_from_yields_List is_unprintable _ _ _ c.position.ensures.ran (YieldsList-from_slice c.args.s.now cc)
    (λ x b q k. search (rules, tests)) in
    rw c.unwrap_or.ensures (unprintable-found c.args.s.now c.position.result found)
