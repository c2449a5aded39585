-- `writer_transfers::input_rules` meets its contract. Assumes nothing.
use Rattle.writer_transfers.proofs.Inputs.{of-input}
use Rattle.writer_transfers.proofs.input_rules.Goals as goal

pub returns-then-not-is_below : goal.returns-then-not-is_below
returns-then-not-is_below c = search of-input depth 12

pub returns-then-amount-eq0 : goal.returns-then-amount-eq0
returns-then-amount-eq0 c = search of-input depth 12

pub returns-then-not-indices_rise : goal.returns-then-not-indices_rise
returns-then-not-indices_rise c = search of-input depth 12

pub returns : goal.returns
returns c = search of-input depth 12
