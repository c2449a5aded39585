use Rattle.draft_slots.proofs.Scanning.{slot-offset, slot-start, place_is, placing-scan}
use Rattle.draft_slots.proofs.ranges.place_of.Goals as goal

pub returns-in_err-range : goal.returns-in_err-range
returns-in_err-range c = search (place_is, placing-scan, c.in_err-range.was)

pub overflow_mul-result : goal.overflow_mul-result
overflow_mul-result c = search (slot-offset, c.in_ok-range.was)

pub overflow_add-result : goal.overflow_add-result
overflow_add-result c = search (slot-start, c.in_ok-range.was)

pub returns-then-index-count : goal.returns-then-index-count
returns-then-index-count c = search (place_is, placing-scan, c.in_ok-range.was)

pub loop-preserved : goal.loop-preserved
loop-preserved c = search (placing-scan, c.in_ok-range.was)

pub returns : goal.returns
returns c = search (place_is, placing-scan)
