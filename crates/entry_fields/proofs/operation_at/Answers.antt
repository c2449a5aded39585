-- `entry_fields::operation_at` meets its contract. Assumes nothing.
use Rattle.std.proofs.Common.{rules}
use Rattle.wire.proofs.Reading.{product-fits}
use Rattle.entry_fields.proofs.Passing.{some-small}
use Rattle.entry_fields.proofs.operation_at.Goals as goal

pub overflow_mul-outputs_count : goal.overflow_mul-outputs_count
overflow_mul-outputs_count c = search (rules, product-fits, some-small, c.in_ok-outputs_count.was)
