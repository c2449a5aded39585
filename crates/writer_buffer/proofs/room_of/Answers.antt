-- `writer_buffer::room_of` meets its contract. Assumes nothing.
use mathlib.Core.Path.{◌∙◌}
use native.Mathlib.Omega.{arith}
use Rattle.writer_buffer.proofs.Stores.{too_many}
use Rattle.writer_buffer.proofs.Numbering.{length-all, room-all}
use Rattle.writer_buffer.proofs.room_of.Goals as goal

pub returns-then-max-gt-MOST_BYTES : goal.returns-then-max-gt-MOST_BYTES
returns-then-max-gt-MOST_BYTES c = let a = c.args in
    c.refuse_step.ensures ∙ too_many _ a.limit (omega (arith, length-all a.first.now a.second.now a.numbers.now))

pub returns : goal.returns
returns c = let a = c.args in
    room-all a.first.now a.second.now a.numbers.now a.at a.limit _ c.room_for.ensures
