-- `writer_buffer::put_integers` meets its contract. The invariant: writing the integers that are left completes the writing of all of them.
-- Assumes nothing.
use Prim.Native.Nat.{◌+◌, ◌*◌}
use mathlib.Core.Path.{◌≡◌}
use lib.ListN.{length, drop}
use Rattle.writer_rules.specs.code.Elements.{integers_bytes}
use Rattle.writer_buffer.specs.Stores.{overwrite}
use Rattle.writer_buffer.proofs.put_integers.Given as goal

abbrev pub invariant-loop-number : goal.invariant-loop-number
invariant-loop-number l = (length l.buf ≡ length l.initial.buf) × (l.at ≡ l.start + 4 * l.number-index)
    × (overwrite l.buf l.at (integers_bytes (drop l.number-index l.numbers)) ≡ overwrite l.initial.buf l.start (integers_bytes l.numbers))
