-- The fields: n bytes, and a big-endian integer. Either is refused by rule 2 (cut short) if it is not wholly there. Assumes nothing.
use Rattle.std.specs.Prelude.{refl, ℕ, ◌^◌, ◌<◌, List, eqb}
use Rattle.std.proofs.Common.{sym, eqb-true}
use Rattle.wire.specs.Bytes.{value, digits}
use Rattle.wire.specs.Numbers.{ReadingRule}
use Rattle.wire.specs.Format.{Format}
use Rattle.wire.specs.Parsers.{blob_parse, Sized}
use Rattle.wire.specs.Sequence.{«as», guard, named}
use Rattle.wire.specs.laws.Bytes.{value-digits}
use Rattle.wire.specs.laws.Blob.{blob-same, blob-sound, blob-complete, blob-stable, blob-ruled, blob-placed, value-fits, digits-sized, digits-of-value}

-- ---- n bytes

unfoldable pub blob : ℕ → Format (List ℕ)
blob n =
    record {
      parse = blob_parse n;
      write = λ b. b;
      Good = Sized n;
      same = blob-same n;
      sound = blob-sound n;
      complete = blob-complete n;
      bytes = λ v h. h.1;
      stable = blob-stable n;
      ruled = blob-ruled n;
      placed = blob-placed n;
    }

-- ---- a big-endian integer of w bytes

unfoldable pub integer : ℕ → Format ℕ
unfolding blob «as»
integer w =
    «as» (blob w) (λ v. v < 256 ^ w)
    record {
      to = value;
      from = digits w;
      fit = value-fits w;
      has = digits-sized w;
      from-to = digits-of-value w;
      to-from = value-digits w;
    }

-- ---- an integer of w bytes that must be v; any other is refused by x, at its start

unfoldable pub constant : ℕ → ℕ → ReadingRule → Format (Unit {0})
unfolding named guard
constant w v x =
    named (guard (integer w) (λ n. eqb n v) x) (λ n. tt) (λ u. v) (λ n h. sym (eqb-true n v h.1)) (λ u. refl)
