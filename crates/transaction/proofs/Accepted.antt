-- What is accepted, and what it is read as: from the codec of every family and the plain bytes. Assumes nothing.
use mathlib.Core.Path.{sym, ap, ◌∙◌}
use Prim.Native.Nat.{ℕ}
use mathlib.Core.List.{List}
use Rattle.transaction.specs.Family.{Signed}
use Rattle.transaction.specs.Avm.{avm}
use Rattle.transaction.specs.Codec.{Writing, Codec}
use Rattle.transaction.specs.Transaction.{Transaction}
use Rattle.transaction.specs.Accepted.{reading, value_of, Encodes, Transactions}
use Rattle.transaction.proofs.Codec.{codec}
use Rattle.transaction.proofs.Good.{reading-value, value-reading, transaction-good}
use Rattle.transaction.proofs.Writing.{transaction-bytes}

module _ (most : ℕ) where
  -- if the format writes s for a value, s encodes the transaction that the value is read as
  encodes : (s : List ℕ) (v : Signed (avm most)) → Writing (avm most) s v → Encodes most s (reading most v)
  encodes s v w =
      record {
        good = (transaction-good most v).0 w.good;
        written = sym (transaction-bytes most (reading most v)) ∙ rw (value-reading most v) w.written;
        short = w.short;
      }

  writing : (s : List ℕ) (t : Transaction) → Encodes most s t → Writing (avm most) s (value_of most t)
  writing s t e =
      record {
        good = (transaction-good most (value_of most t)).1 (rw (reading-value most t) e.good);
        written = transaction-bytes most t ∙ e.written;
        short = e.short;
      }

  pub transactions : Transactions most
  transactions =
      let c : Codec (avm most) = codec (avm most) in
      record {
        accepted-exactly = λ s b. (
          λ h. let (v, w) = (c.accepted-exactly s b).0 h in (reading most v, encodes s v w),
          λ (t, e). (c.accepted-exactly s b).1 (value_of most t, writing s t e),
        );
        one-reading = λ s t u a b.
            sym (reading-value most t) ∙ ap (reading most) (c.one-reading s (value_of most t) (value_of most u) (writing s t a) (writing s u b))
            ∙ reading-value most u;
        write-after-read = λ s v n b q. let (w, e) = c.write-after-read s v n b q in (encodes s v w, e);
        read-after-write = λ s t e. c.read-after-write s (value_of most t) (writing s t e);
        reading-value = reading-value most;
        value-reading = value-reading most;
      }
