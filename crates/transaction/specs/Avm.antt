-- The AVM's family: types 0 to 4, and the plan of each (document 01, "Layout"). Assumes nothing.
use Rattle.std.specs.Prelude.{ℕ}
use Rattle.transaction.specs.Plan.{type_id, type_of, type_of-id, types, plan}
use Rattle.transaction.specs.Family.{Family}
use Rattle.transaction.specs.declared.TransactionType.{TransactionType}

-- the family with memos of at most `most` bytes
abbrev pub avm : ℕ → Family
avm most =
    record { TransactionType = TransactionType; type_id = type_id; type_of = type_of; type_of-id = type_of-id; types = types; plan = plan; memo_most = most }
