-- `writer_buffer::blank::put_zeros` meets its contract. Assumes nothing.
use Rattle.std.proofs.Common.{rules}
use Rattle.writer_buffer.proofs.Stores.{zeros-back}
use Rattle.writer_buffer.proofs.blank.put_zeros.Goals as goal

pub returns : goal.returns
returns c = zeros-back c.args.buf.now _ c.args.at c.args.count c.requires (c.fill.ensures.after (λ y e. search rules))
