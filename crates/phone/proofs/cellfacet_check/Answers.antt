-- `phone::cellfacet_check` meets its contract.
-- Assumes nothing.
use Rattle.phone.proofs.Packing.{refused-small, packing}
use Rattle.phone.proofs.cellfacet_check.Goals as goal

pub word-requires : goal.word-requires
word-requires c = search refused-small

pub returns-in-Ok : goal.returns-in-Ok
returns-in-Ok c = search packing

pub returns-in-Err : goal.returns-in-Err
returns-in-Err c = search packing
