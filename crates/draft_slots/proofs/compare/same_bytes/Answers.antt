use mathlib.Core.Logic.{inl, inr}
use mathlib.Core.Path.{sym, ap, ◌∙◌}
use native.Mathlib.Omega.{arith}
use lib.ListN.{length}
use Rattle.draft_slots.proofs.Blocks.{differ-length, block_same, block-differs, rest_alike, rest-on, same_rest}
use Rattle.draft_slots.proofs.compare.same_bytes.Goals as goal

pub returns-then-a-b : goal.returns-then-a-b
returns-then-a-b c = search differ-length

pub loop-x-init : goal.loop-x-init
loop-x-init c = (cc, cc, cc, cc, cc, cc)

pub same_block-requires : goal.same_block-requires
same_block-requires c = omega (arith, c.in-Some.ensures.steps)

pub returns-then-not-same_block : goal.returns-then-not-same_block
returns-then-not-same_block c =
    let (i, k, m, n, p, q) = c.loop-x.invariant in
    let s = c.in-Some.ensures.steps in
    block-differs _ _ _ _ _ _ _ _ i k s.0.1.0 s.1.1.0 (omega (arith, s)) c.same_block.ensures c.if-not-same_block.true

pub loop-x-preserved : goal.loop-x-preserved
loop-x-preserved c =
    let (i, k, m, n, p, q) = c.loop-x.invariant in
    let s = c.in-Some.ensures.steps in
    let (j, l) = block_same _ _ _ _ _ _ _ _ i k s.0.1.0 s.1.1.0 (omega (arith, s)) c.same_block.ensures c.if-not-same_block.false in
    (j, l, s.0.0 ∙ m, s.1.0 ∙ n, rest-on _ _ _ s.0.1.0 (s.0.1.1 ∙ m) ∙ p, rest-on _ _ _ s.1.1.0 (s.1.1.1 ∙ n) ∙ q)

pub same_block-requires-2 : goal.same_block-requires-2
same_block-requires-2 c =
    omega (
      arith,
      ap length (c.remainder-a_rest.ensures ∙ c.chunks_exact-a_blocks.ensures.remainder),
      ap length (c.remainder-b_rest.ensures ∙ c.chunks_exact-b_blocks.ensures.remainder),
      rest_alike c.args.a.now c.args.b.now c.if-a-b.false,
    )

pub returns : goal.returns
returns c =
    let (i, k, m, n, p, q) = c.loop-x.invariant in
    same_rest _ _ _ _ _ _ i k (p ∙ sym (c.remainder-a_rest.ensures ∙ c.chunks_exact-a_blocks.ensures.remainder))
    (q ∙ sym (c.remainder-b_rest.ensures ∙ c.chunks_exact-b_blocks.ensures.remainder))
    (elim c.in-None.ensures.steps [ inl w ↦ omega (arith, w, m) | inr w ↦ omega (arith, w, n, k) ]) c.same_block-2.ensures
