use Rattle.wire.proofs.Trying.{passed-on}
use Rattle.wire.proofs.Reading.{for_on, for_end, unordered-again}
use Rattle.element.specs.Operations.{operation}
use Rattle.element.proofs.Reading.{on-operation, on-operation-refused}
use Rattle.element.proofs.operations.operations_from.Goals as goal

pub returns-in_err-at : goal.returns-in_err-at
returns-in_err-at c = search (for_on, on-operation-refused, passed-on, c.in_err-at.was) depth 6

pub loop-preserved : goal.loop-preserved
loop-preserved c = search (for_on, on-operation, unordered-again operation, c.in_ok-at.was) depth 6

pub returns : goal.returns
returns c = search for_end
