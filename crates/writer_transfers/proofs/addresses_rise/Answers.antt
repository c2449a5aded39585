-- `writer_transfers::addresses_rise` meets its contract. Assumes nothing.
use mathlib.Core.Path.{◌∙◌}
use Rattle.writer_transfers.proofs.Outputs.{addresses-rise}
use Rattle.writer_transfers.proofs.addresses_rise.Goals as goal

pub returns : goal.returns
returns c = c.is_ok.ensures.value ∙ addresses-rise c.args.addresses.now _ c.addresses_from.ensures
