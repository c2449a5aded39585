-- `writer_buffer::blank::blank_end` meets its contract. Assumes nothing.
use Rattle.std.specs.Prelude.{Err}
use Prim.Native.Nat.{◌+◌, ◌<◌}
use mathlib.Core.Path.{ap, ◌∙◌}
use native.Mathlib.Omega.{arith}
use Rattle.transaction.specs.Slots.{signature_width}
use Rattle.writer_buffer.specs.code.Closing.{credential_width}
use Rattle.writer_buffer.proofs.Blanks.{fitted-full, fitted-room}
use Rattle.writer_buffer.proofs.blank.blank_end.Goals as goal
use Rattle.writer_buffer.proofs.blank.blank_end.Goals.{then-limit-at-via-then-limit-at}
use Rattle.writer_buffer.proofs.blank.blank_end.Goals.{then-limit-at-via-else-limit-at+then-limit-at-lt-HEAD_WIDTH}
use Rattle.writer_buffer.proofs.blank.blank_end.Goals.{then-limit-at-via-else-limit-at+else-limit-at-lt-HEAD_WIDTH+then-limit-at-2}

pub returns-then-limit-at : goal.returns-then-limit-at
unfolding signature_width
returns-then-limit-at c =
    let a = c.args in
    let full : a.limit < a.at + credential_width a.count = elim c.then-limit-at.branch [
      | then-limit-at-via-then-limit-at w ↦ omega arith
      | then-limit-at-via-else-limit-at+then-limit-at-lt-HEAD_WIDTH w ↦ omega arith
      | then-limit-at-via-else-limit-at+else-limit-at-lt-HEAD_WIDTH+then-limit-at-2 w ↦ omega arith
    ] in
    ap Err c.refuse.ensures ∙ fitted-full a.at (credential_width a.count) a.limit full

pub returns : goal.returns
unfolding signature_width
returns c = let a = c.args in
    fitted-room a.at (credential_width a.count) a.limit _ (omega arith) (omega arith)
