-- `entry_walk::steps::credential_past` meets its contract. Assumes nothing.
use Rattle.wire.specs.Sequence.{and_then}
use Rattle.wire.proofs.Trying.{passed-on}
use Rattle.wire.proofs.Reading.{on_value, on-integer-refused, value-small}
use Rattle.transaction.specs.Slots.{signature_width}
use Rattle.transaction.proofs.CredentialLaws.{signatures-fit}
use Rattle.entry_walk.proofs.steps.credential_past.Goals as goal

pub returns-in_err-count_at : goal.returns-in_err-count_at
unfolding and_then signature_width
returns-in_err-count_at c = search (on-integer-refused, passed-on, c.in_err-count_at.was)

pub returns-in_err-signatures : goal.returns-in_err-signatures
unfolding and_then signature_width
returns-in_err-signatures c = search (on_value, on-integer-refused, passed-on, c.in_ok-count_at.was, c.in_err-signatures.was)

pub overflow_mul-signatures : goal.overflow_mul-signatures
unfolding and_then signature_width
overflow_mul-signatures c = search (signatures-fit, value-small, c.in_ok-signatures.was)

pub returns : goal.returns
unfolding and_then signature_width
returns c = search (on_value, c.in_ok-count_at.was, c.in_ok-signatures.was)
