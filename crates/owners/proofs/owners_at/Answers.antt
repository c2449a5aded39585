-- `owners::owners_at` meets its contract.
-- Assumes nothing.
use Rattle.wire.proofs.Reading.{reading}
use Rattle.owners.proofs.Reading.{if-fits, if-unfit}
use Rattle.owners.specs.Owners.{owners}
use Rattle.owners.proofs.owners_at.Goals as goal

pub returns-in_err-threshold_at : goal.returns-in_err-threshold_at
unfolding owners
returns-in_err-threshold_at c = search (reading, c.in_err-threshold_at.was) depth 12

pub returns-in_err-threshold : goal.returns-in_err-threshold
unfolding owners
returns-in_err-threshold c = search (reading, c.in_ok-threshold_at.was, c.in_err-threshold.was) depth 12

pub returns-in_err-count : goal.returns-in_err-count
unfolding owners
returns-in_err-count c = search (reading, c.in_ok-threshold_at.was, c.in_ok-threshold.was, c.in_err-count.was) depth 12

pub returns-then-not-threshold_fits : goal.returns-then-not-threshold_fits
unfolding owners
returns-then-not-threshold_fits c = search (reading, if-unfit, c.in_ok-threshold_at.was, c.in_ok-threshold.was, c.in_ok-count.was) depth 12

pub returns : goal.returns
unfolding owners
returns c = search (reading, if-fits, c.in_ok-threshold_at.was, c.in_ok-threshold.was, c.in_ok-count.was) depth 12
