use native.Mathlib.Omega.{arith}
use Rattle.draft_slots.proofs.Scanning.{range-fits, range-starts}
use Rattle.draft_slot_table.proofs.Scanning.{slotting}
use Rattle.draft_slot_table.proofs.Scanning.{same_length, left_after, credential-ends, rows_fit, row-numbers}
use Rattle.draft_slot_table.proofs.put_slots.Goals as goal

pub returns-in_default : goal.returns-in_default
returns-in_default c = search slotting

pub put_range-requires : goal.put_range-requires
put_range-requires c = record {
  s_len_bound = omega arith;
  rows_in_bounds = search rows_fit;
  credential_le_first = search range-starts;
  range_in_bounds = search range-fits;
}

pub overflow_mul-rows_at : goal.overflow_mul-rows_at
overflow_mul-rows_at c = search row-numbers

pub overflow_add-rows_at : goal.overflow_add-rows_at
overflow_add-rows_at c =
    let more = left_after c.loop-credential.credential _ _ _ _ c.loop-credential-test.true _ c.range_at.ensures _ c.in-Some.is in omega arith

pub loop-credential-preserved : goal.loop-credential-preserved
loop-credential-preserved c =
    let more = left_after c.loop-credential.credential _ _ _ _ c.loop-credential-test.true _ c.range_at.ensures _ c.in-Some.is in
    let same = same_length _ _ _ _ c.put_range.ensures in
    (search slotting, omega arith, search credential-ends)

pub returns : goal.returns
returns c = search slotting
