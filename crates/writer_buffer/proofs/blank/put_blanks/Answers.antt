-- `writer_buffer::blank::put_blanks` meets its contract. Assumes nothing.
use mathlib.Core.Path.{refl}
use native.Mathlib.Omega.{arith}
use lib.ListN.{length-take}
use Rattle.writer_buffer.proofs.Loops.{writing_begins, writing-front, writing-none, writing-end, writing-room, writing-on}
use Rattle.writer_buffer.proofs.blank.put_blanks.Goals as goal

pub loop-init : goal.loop-init
loop-init c = writing_begins c.requires _ (omega arith)

pub slice_bounds-next_wanted-end : goal.slice_bounds-next_wanted-end
slice_bounds-next_wanted-end c = writing-front c.loop.invariant

pub slice_bounds-next_wanted-end-in-loop : goal.slice_bounds-next_wanted-end-in-loop
slice_bounds-next_wanted-end-in-loop c = simp length-take (omega (arith, writing-front c.loop.invariant))

pub returns-in_default : goal.returns-in_default
returns-in_default c = writing-end c.loop.invariant _ c.next_wanted.ensures (omega arith) c.in_default.is

pub put_blank-at-requires : goal.put_blank-at-requires
put_blank-at-requires c = writing-room c.loop.invariant _ c.next_wanted.ensures _ c.in-Some.is _ refl

pub loop-preserved : goal.loop-preserved
loop-preserved c =
    writing-on c.loop.invariant _ c.next_wanted.ensures _ c.in-Some.is _ (omega arith) _ _
    c.put_blank-at.ensures.buf_after c.put_blank-at.ensures.value

pub returns : goal.returns
returns c = writing-none c.loop.invariant (omega arith)
