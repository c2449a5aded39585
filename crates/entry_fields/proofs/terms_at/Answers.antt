-- `entry_fields::terms_at` meets its contract. Assumes nothing.
use Rattle.std.proofs.Common.{rules}
use Rattle.wire.proofs.Reading.{product-fits}
use Rattle.entry_fields.proofs.Passing.{some-small}
use Rattle.entry_fields.proofs.terms_at.Goals as goal

pub overflow_mul-indices_count : goal.overflow_mul-indices_count
overflow_mul-indices_count c = search (rules, product-fits, some-small, c.in_ok-indices_count.was)
