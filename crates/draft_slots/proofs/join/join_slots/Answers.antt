use Rattle.draft_slots.proofs.Scanning.{range-fits, joining-scan}
use Rattle.draft_slots.proofs.join.join_slots.Goals as goal

pub returns-in_default : goal.returns-in_default
returns-in_default c = search joining-scan

pub join_range-requires : goal.join_range-requires
join_range-requires c = search range-fits

pub loop-preserved : goal.loop-preserved
loop-preserved c = search joining-scan

pub returns : goal.returns
returns c = search joining-scan
