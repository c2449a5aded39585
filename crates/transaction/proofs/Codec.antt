-- The format of every family is a codec. Assumes nothing.
use mathlib.Core.Path.{◌≡◌, sym, ap, ◌∙◌, subst}
use Prim.Native.Nat.{ℕ, ◌≤◌}
use mathlib.Core.List.{List}
use lib.ListN.{length}
use Rattle.wire.specs.Bytes.{Bytes}
use Rattle.wire.specs.Format.{took, refused}
use Rattle.wire.proofs.Format.{local, write-inj}
use Rattle.wire.proofs.Whole.{whole-sound, whole-complete, whole-ruled, whole-placed}
use Rattle.transaction.specs.Signed.{most_bytes, taken}
use Rattle.transaction.specs.Signed as AnySigned
use Rattle.transaction.specs.Family.{Family, unsigned, Signed, signed, check}
use Rattle.transaction.specs.Codec.{Writing, Codec}
use Rattle.transaction.proofs.Signed.{taken-inv}

module _ (F : Family) where
  after_read : (s : List ℕ) (v : Signed F) (n : ℕ) → Bytes s → check F s ≡ took v n → Writing F s v × (n ≡ length s)
  unfolding AnySigned.check
  after_read s v n b e =
      let (g, w, m, h) = whole-sound (signed F) most_bytes s v n b e in
      (record { good = g; written = w; short = h }, m)

  after_write : (s : List ℕ) (v : Signed F) → Writing F s v → check F s ≡ took v (length s)
  unfolding AnySigned.check
  after_write s v w =
      subst (λ (d : List ℕ). length d ≤ most_bytes → check F d ≡ took v (length d)) w.written
      (λ h. whole-complete (signed F) most_bytes v refused took w.good h) w.short

  pub codec : Codec F
  unfolding AnySigned.check
  codec =
      record {
        accepted-exactly = λ s b. (
          (λ h. let (v, n, e) = taken-inv (check F s) h in (v, (after_read s v n b e).0)),
          λ (v, w). ap taken (after_write s v w),
        );
        write-after-read = after_read;
        read-after-write = after_write;
        one-reading = λ s u v a b. write-inj (signed F) u v a.good b.good (a.written ∙ sym b.written);
        refused-by = whole-ruled (signed F) most_bytes;
        refused-at = whole-placed (signed F) most_bytes;
        unsigned-local = local (unsigned F);
      }
