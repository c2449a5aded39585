-- A whole byte string as one value: at most `most` bytes, and nothing after the value. Assumes nothing.
use Rattle.std.specs.Prelude.{ℕ, List, length, leb, eqb}
use Rattle.wire.specs.declared.Refusal.{Refusal}
use Rattle.wire.specs.Bytes.{pick}
use Rattle.wire.specs.Numbers.{refusal, too_long, bytes_after_end}
use Rattle.wire.specs.Format.{Format}

module _ {A : Type 0} (F : Format A) (most : ℕ) where
  abbrev pub whole : {R : Type 0} → List ℕ → (Refusal → R) → (A → ℕ → R) → R
  whole s stop go =
      pick (leb (length s) most)
      (F.parse s 0 stop λ v n. pick (eqb n (length s)) (go v n) (stop (refusal bytes_after_end n)))
      (stop (refusal too_long 0))
