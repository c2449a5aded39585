-- `phone::cellfacet_merge` meets its contract. Assumes nothing.
use Rattle.wire.proofs.Bytes.{slice-bytes}
use Rattle.phone.proofs.Packing.{called-small, merged-packing}
use Rattle.phone.proofs.cellfacet_merge.Goals as goal

pub word-requires : goal.word-requires
word-requires c = search (called-small, slice-bytes)

pub returns-in-Ok : goal.returns-in-Ok
returns-in-Ok c = search merged-packing

pub returns-in-Err : goal.returns-in-Err
returns-in-Err c = search merged-packing
