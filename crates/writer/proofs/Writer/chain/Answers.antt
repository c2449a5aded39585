-- `writer::Writer::chain` meets its contract. Assumes nothing.
use Rattle.writer.proofs.Laws.{readied}
use Rattle.writer.proofs.Naming.{field-unready, field-small}
use Rattle.writer.proofs.Methods.{chain-is}
use Rattle.writer.proofs.Writer.chain.Goals as goal

pub returns-in-Err : goal.returns-in-Err
returns-in-Err c = search field-unready

pub put_segment-requires : goal.put_segment-requires
put_segment-requires c = search (field-small, readied) depth 8

pub returns : goal.returns
returns c = search (chain-is, readied) depth 8
