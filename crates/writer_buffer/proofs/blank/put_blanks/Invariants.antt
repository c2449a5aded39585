-- `writer_buffer::blank::put_blanks` meets its contract. The invariant: writing the credentials that are left completes the writing of all. Assumes nothing.
use Prim.Native.Nat.{◌-◌}
use Rattle.writer_buffer.proofs.Loops.{Writing}
use Rattle.writer_buffer.proofs.blank.put_blanks.Given as goal

abbrev pub invariant-loop : goal.invariant-loop
invariant-loop l = Writing l.initial.buf l.end l.type_id l.initial.cursor l.owed l.start l.buf l.cursor (l.owed - l.counter) l.at
