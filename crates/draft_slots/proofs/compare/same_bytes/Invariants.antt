-- `draft_slots::compare::same_bytes` meets its contract. The invariant: the strings are equal exactly if what is left of them is. Assumes nothing.
use mathlib.Core.Path.{◌≡◌}
use lib.ListN.{length}
use Rattle.draft_slots.specs.Joining.{same}
use Rattle.draft_slots.proofs.Blocks.{rest_of}
use Rattle.draft_slots.proofs.compare.same_bytes.Given as goal

abbrev pub invariant-loop-x : goal.invariant-loop-x
invariant-loop-x l = (same l.x-iterator.a.rest.now l.x-iterator.b.rest.now ≡ same l.a l.b) × (length l.x-iterator.a.rest.now ≡ length l.x-iterator.b.rest.now)
    × (l.x-iterator.a.size ≡ 64) × (l.x-iterator.b.size ≡ 64)
    × (rest_of l.x-iterator.a.rest.now ≡ rest_of l.a) × (rest_of l.x-iterator.b.rest.now ≡ rest_of l.b)
