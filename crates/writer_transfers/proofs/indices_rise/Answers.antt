-- `writer_transfers::indices_rise` meets its contract. Assumes nothing.
use Rattle.std.proofs.Common.{rules, of_calls}
use Rattle.std.proofs.lemmas.Fn.{always_returns_same}
use lib.Dec.{ltb}
use Rattle.writer_transfers.proofs.Inputs.{sorted-rising}
use Rattle.writer_transfers.proofs.indices_rise.Goals as goal

pub returns : goal.returns
returns c =
    let key = always_returns_same _ _ _ (λ a r f k. search (rules, of_calls)) in
    sorted-rising c.args.indices.now c.is_sorted_by.result (c.is_sorted_by.ensures.cases ltb key)
