-- `writer_buffer::blank::append` meets its contract. Assumes nothing.
use Rattle.std.specs.Prelude.{Err, Result}
use Prim.Native.Nat.{ℕ}
use mathlib.Core.Path.{◌≡◌, ap, ◌∙◌}
use mathlib.Core.List.{List}
use native.Mathlib.Omega.{arith}
use lib.ListN.{length-take}
use Rattle.wire.specs.declared.Refusal.{Refusal}
use Rattle.writer_buffer.proofs.Ending.{close-short, close-refused, close-after, close-ahead, close-whole}
use Rattle.writer_buffer.proofs.blank.append.Goals as goal

-- the refusal f that a call made is d, the one in the definition
made : (s : List ℕ) (f d : Refusal) → f ≡ d → (y : Result ℕ Refusal × List ℕ) → (Err d, s) ≡ y → (Err f, s) ≡ y
made s f d e y h = ap (λ (r : Refusal). (Err r, s)) e ∙ h

pub returns-then-buf-at : goal.returns-then-buf-at
returns-then-buf-at c = let a = c.args in
    made a.buf.now _ _ c.refuse.ensures _ (close-short a.most a.buf.now a.at (omega arith))

pub slice_bounds-unsigned_at-end-2 : goal.slice_bounds-unsigned_at-end-2
slice_bounds-unsigned_at-end-2 c = simp length-take (omega arith)

pub returns-then-layout-at : goal.returns-then-layout-at
returns-then-layout-at c = let a = c.args in
    made a.buf.now _ _ c.refuse-then-layout-at.ensures _
    (close-after a.most a.buf.now a.at (omega arith) _ c.unsigned_at.ensures _
    c.in-Ok.is c.slice_known-1.given c.if-layout-at.true)

pub close_layout-requires : goal.close_layout-requires
close_layout-requires c = let a = c.args in
    close-ahead a.most a.buf.now a.at (omega arith) _ c.unsigned_at.ensures _
    c.in-Ok.is c.slice_known-1.given

pub returns-in-Err : goal.returns-in-Err
returns-in-Err c = let a = c.args in
    made a.buf.now _ _ c.without_place.ensures _
    (close-refused a.most a.buf.now a.at (omega arith) _ c.unsigned_at.ensures _ c.in-Err.is)

pub returns-else-layout-at : goal.returns-else-layout-at
returns-else-layout-at c = let a = c.args in
    close-whole a.most a.buf.now a.at (omega arith) _ c.unsigned_at.ensures _
    c.in-Ok.is c.slice_known-1.given (omega arith) _ _ c.close_layout.ensures
