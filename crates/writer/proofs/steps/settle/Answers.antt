-- `writer::steps::settle` meets its contract. Assumes nothing.
use native.Mathlib.Omega.{arith}
use lib.ListN.{length-take}
use Rattle.writer.proofs.Settling.{counts-few, settle-refused, settle-place, settle-done}
use Rattle.writer.proofs.steps.settle.Goals as goal

pub slice_bounds-store-end : goal.slice_bounds-store-end
slice_bounds-store-end c = let f = counts-few c.args.opens _ c.from-counts.ensures in
    simp length-take (omega (arith, f))

pub overflow_mul-counts : goal.overflow_mul-counts
overflow_mul-counts c = omega (arith, counts-few c.args.opens _ c.from-counts.ensures)

pub overflow_sub-end : goal.overflow_sub-end
overflow_sub-end c = let a = c.args in
    omega (
      arith,
      settle-place a.writer a.buf.now a.first.now a.second.now a.opens a.from _ c.from-counts.ensures _ _
          c.store.ensures _ c.in-Ok.is,
    )

pub returns-in-Err : goal.returns-in-Err
returns-in-Err c = search settle-refused

pub returns-in-Ok : goal.returns-in-Ok
returns-in-Ok c = search settle-done
