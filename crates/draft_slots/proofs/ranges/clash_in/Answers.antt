use Rattle.draft_slots.proofs.Scanning.{clashing-range}
use Rattle.draft_slots.proofs.ranges.clash_in.Goals as goal

pub returns-then-clash : goal.returns-then-clash
returns-then-clash c = search clashing-range

pub loop-i-preserved : goal.loop-i-preserved
loop-i-preserved c = search clashing-range

pub returns : goal.returns
returns c = search clashing-range
