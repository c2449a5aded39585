-- `upload::put_at` meets its contract. Assumes nothing.
use Rattle.upload.proofs.Laying.{copied-piece}
use Rattle.upload.proofs.put_at.Goals as goal

pub returns : goal.returns
returns c = search copied-piece
