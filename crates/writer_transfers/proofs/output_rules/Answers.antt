-- `writer_transfers::output_rules` meets its contract. Assumes nothing.
use Rattle.writer_transfers.proofs.Outputs.{of_output}
use Rattle.writer_transfers.proofs.output_rules.Goals as goal
use Rattle.writer_transfers.proofs.output_rules.Goals.{then-not-addresses_rise-via-then-not-addresses_rise}
use Rattle.writer_transfers.proofs.output_rules.Goals.{then-not-addresses_rise-via-else-not-addresses_rise+then-is_below}

pub returns-then-addresses-ne0 : goal.returns-then-addresses-ne0
returns-then-addresses-ne0 c = search of_output depth 12

pub returns-then-amount-eq0 : goal.returns-then-amount-eq0
returns-then-amount-eq0 c = search of_output depth 12

pub returns-then-not-threshold_fits : goal.returns-then-not-threshold_fits
returns-then-not-threshold_fits c = search of_output depth 12

pub returns-then-not-addresses_rise-clause-value : goal.returns-then-not-addresses_rise-clause-value
returns-then-not-addresses_rise-clause-value c = elim c.then-not-addresses_rise.branch [
  | then-not-addresses_rise-via-then-not-addresses_rise w ↦ search of_output depth 12
  | then-not-addresses_rise-via-else-not-addresses_rise+then-is_below w ↦ search of_output depth 12
]

pub returns-clause-value : goal.returns-clause-value
returns-clause-value c = search of_output depth 12
