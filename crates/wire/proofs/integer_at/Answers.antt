-- `wire::integer_at` meets its contract. Assumes nothing.
use Rattle.std.proofs.Common.{rules}
use Rattle.wire.proofs.Reading.{leaf, room-there, room_fits}
use Rattle.wire.proofs.integer_at.Goals as goal

pub value_at-requires : goal.value_at-requires
value_at-requires c = search (rules, room-there)

pub overflow_add-result : goal.overflow_add-result
overflow_add-result c = search (rules, room_fits)

pub returns-then-are_there : goal.returns-then-are_there
returns-then-are_there c = search leaf

pub returns : goal.returns
returns c = search leaf
