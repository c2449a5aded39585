use Rattle.draft_slots.proofs.Scanning.{range-fits, range-starts, range-ends, slots-counted, clashing-scan}
use Rattle.draft_slots.proofs.ranges.first_clash.Goals as goal

pub returns-in_err-range : goal.returns-in_err-range
returns-in_err-range c = search (clashing-scan, c.in_err-range.was)

pub clash_in-requires : goal.clash_in-requires
clash_in-requires c = search (range-fits, range-starts, c.in_ok-range.was)

pub returns-in-Some : goal.returns-in-Some
returns-in-Some c = search (clashing-scan, c.in_ok-range.was)

pub overflow_add-slots_before : goal.overflow_add-slots_before
overflow_add-slots_before c = search (slots-counted, c.in_ok-range.was)

pub loop-preserved : goal.loop-preserved
loop-preserved c = (search (clashing-scan, c.in_ok-range.was), search (range-ends, c.in_ok-range.was))

pub returns : goal.returns
returns c = search clashing-scan
