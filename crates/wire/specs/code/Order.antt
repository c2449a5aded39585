-- How two byte strings compare, and two keys of an identifier and an index. Assumes nothing.
use Rattle.std.specs.Prelude.{ℕ, Bool, true, false, List, ltb}
use Rattle.wire.specs.Bytes.{pick, below}
use Rattle.std.specs.declared.cmp.Ordering.{Ordering}
use Rattle.std.specs.declared.cmp.Ordering.TheVariants.{Less, Equal, Greater}

unfoldable pub order : List ℕ → List ℕ → Ordering
order a b = pick (below a b) Less (pick (below b a) Greater Equal)

-- by identifier, then by index; this is the order of the bytes of both (`key_below_lem`, of proofs/Bytes)
unfoldable pub key_below : List ℕ → ℕ → List ℕ → ℕ → Bool
key_below a i b j = pick (below a b) true (pick (below b a) false (ltb i j))
