use Rattle.wire.proofs.Trying.{passed-on}
use Rattle.element.proofs.Reading.{ordered-end, ordered-on, ordered-below, ordered-refused}
use Rattle.element.proofs.outputs.outputs_by.Goals as goal

pub loop-preserved : goal.loop-preserved
loop-preserved g c f h =
    search (ordered-on f, c.loop.invariant f h, h c.loop.at c.read.result c.read.ensures, c.in_ok-next.was)

pub returns-in_err-next : goal.returns-in_err-next
returns-in_err-next g c f h =
    search (ordered-refused f, passed-on, c.loop.invariant f h, h c.loop.at c.read.result c.read.ensures, c.in_err-next.was)

pub returns-then-next_below : goal.returns-then-next_below
returns-then-next_below g c f h =
    search (ordered-below f, c.loop.invariant f h, h c.loop.at c.read.result c.read.ensures, c.in_ok-next.was)

pub returns : goal.returns
returns g c f h = search (ordered-end f, c.loop.invariant f h)
