-- The slots of a transaction are the signatures of its reading, for any family. Assumes nothing.
use mathlib.Core.Path.{◌≡◌, ap, subst⁻¹}
use mathlib.Core.List.{List, []}
use Prim.Native.Nat.{ℕ, ◌+◌}
use native.Mathlib.Nat.{le_refl}
use native.Mathlib.Omega.{arith}
use lib.ListN.{length}
use Rattle.transaction.specs.Slots.{Spaced}
use Rattle.transaction.proofs.Slots.{length-slot_at}
use Rattle.transaction.specs.Credentials.{each, layout, places, size}
use Rattle.transaction.specs.Signed.{end_of, Parts}
use Rattle.transaction.specs.Family.{Family, Signed, unsigned, wants, check}
use Rattle.transaction.proofs.CredentialLaws.{spaced-places}
use Rattle.transaction.proofs.Signed.{taken-inv, parts-took, read-body, slots-eq, unsigned-eq, length-eq, slot-eq, spaced-slots}
use Rattle.draft_slots.proofs.Putting.{spaced-at, spaced-before}
use Rattle.draft.specs.Reader.{reader, body, slot_count, slot}
use Rattle.draft_theorems.specs.Slots.{slot_start, SlotsAre, SlotsOfReading}
use Rattle.draft_theorems.proofs.Reading.{draft-of}
use Rattle.draft_theorems.proofs.Refilling.{slots-count}

module _ (F : Family) (d : List ℕ) (v : Signed F) (p : Parts (unsigned F) (wants F) d v.0 v.1) where
  count_at : (reader F).credentials_at d ≡ length ((unsigned F).write v.0)
  count_at = ap end_of (read-body (unsigned F) (wants F) d v.0 v.1 p)

  -- the slots come after the credentials' count, which has four bytes
  spaced-after : Spaced (length ((unsigned F).write v.0) + 4) ((reader F).slots d) (length d)
  unfolding layout places size
  spaced-after =
      let w : ℕ = length ((unsigned F).write v.0) in
      subst⁻¹ (λ (ps : List ℕ). Spaced (w + 4) ps (length d)) (slots-eq (unsigned F) (wants F) d v.0 v.1 p)
      (spaced-places (each (wants F v.0)) (w + 4) (w + 4) (length d) (le_refl (w + 4))
      (omega (arith, length-eq (unsigned F) (wants F) d v.0 v.1 p)))

  spaced : Spaced 0 ((reader F).slots d) (length d)
  spaced = spaced-slots (unsigned F) (wants F) d v.0 v.1 p

  slots-are : SlotsAre F d v
  unfolding body slot_count slot
  slots-are =
      let qs : List ℕ = (reader F).slots d in
      let count : length qs ≡ length v.1 = slots-count (unsigned F) (wants F) d v.0 v.1 p in
      record {
        count = count;
        holds = λ k b. slot-eq (unsigned F) (wants F) d v.0 v.1 p k (omega (arith, count)) [];
        wide = λ k b. length-slot_at d (slot_start F d k) (spaced-at 0 qs (length d) spaced k b).1;
        inside = λ k b. (spaced-at 0 qs (length d) spaced k b).1;
        after-count = λ k b. omega (arith, count_at, (spaced-at (length ((unsigned F).write v.0) + 4) qs (length d) spaced-after k b).0);
        apart = λ j k a b. spaced-before 0 qs (length d) spaced j k a b;
        unsigned-part = unsigned-eq (unsigned F) (wants F) d v.0 v.1 p;
      }

pub slots-of-reading : (F : Family) → SlotsOfReading F
slots-of-reading F =
    record {
      reading = λ d h. taken-inv (check F d) h.accepted;
      draft = λ d v n b e. draft-of (unsigned F) (wants F) d v.0 v.1 (parts-took (unsigned F) (wants F) d v n b e);
      slots = λ d v n b e. slots-are F d v (parts-took (unsigned F) (wants F) d v n b e);
    }
