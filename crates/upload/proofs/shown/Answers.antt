-- `upload::shown` meets its contract. Assumes nothing.
use Rattle.upload.proofs.Laying.{showing}
use Rattle.upload.proofs.shown.Goals as goal

pub returns-in_err-refusal : goal.returns-in_err-refusal
returns-in_err-refusal c = search (showing, c.in_err-refusal.was)

pub returns-in-CutShort : goal.returns-in-CutShort
returns-in-CutShort c = search (showing, c.in_ok-refusal.was)

pub returns-in_default : goal.returns-in_default
returns-in_default c = search (showing, c.in_ok-refusal.was)
