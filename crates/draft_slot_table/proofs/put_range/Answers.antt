use native.Mathlib.Omega.{arith}
use Rattle.draft_slot_table.proofs.Scanning.{running}
use Rattle.draft_slot_table.proofs.put_range.Goals as goal

pub put_row-requires : goal.put_row-requires
put_row-requires c = record { row_at_in_bounds = omega arith; credential_bound = omega arith; at_bound = omega arith }

pub loop-i-preserved : goal.loop-i-preserved
loop-i-preserved c = search running

pub returns : goal.returns
returns c = search running
