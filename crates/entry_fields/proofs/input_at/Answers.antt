-- `entry_fields::input_at` meets its contract. Assumes nothing.
use Rattle.wire.proofs.Reading.{some-value, some-part}
use Rattle.entry_fields.proofs.input_at.Goals as goal

pub returns : goal.returns
returns c = search (
  some-value,
  some-part,
  c.in_ok-index_at.was,
  c.in_ok-index.was,
  c.in_ok-type_at.was,
  c.in_ok-amount_at.was,
  c.in_ok-amount.was,
  c.in_ok-indices_count.was,
) depth 12
