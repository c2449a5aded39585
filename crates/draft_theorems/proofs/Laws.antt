-- What merging and filling need of a reader, and drafts of one unsigned transaction. Assumes nothing.
use mathlib.Core.Path.{◌≡◌, refl, sym, ap, ◌∙◌, subst⁻¹}
use mathlib.Core.Bool.{true}
use mathlib.Core.List.{List}
use Prim.Native.Nat.{ℕ, ◌+◌, ◌≤◌, ◌<◌}
use lib.ListN.{length, get_or}
use Rattle.wire.specs.Bytes.{Bytes}
use Rattle.transaction.specs.Slots.{signature_width, slot_at, put_all, Spaced}
use Rattle.transaction.proofs.Slots.{length-slot_at}
use Rattle.draft_slots.proofs.Putting.{spaced-at, Long, bytes-put_all, length-put_all, put_all-outside, put_all-slot}
use Rattle.draft.specs.Reader.{Reader, Draft, body, slot}
use Rattle.draft_theorems.specs.Demand.{Frame}

pub record Laws (R : Reader) : Type 0 where
  -- the slots lie one after the other inside the draft
  pub apart : (d : List ℕ) → Draft R d → Spaced 0 (R.slots d) (length d)
  -- two drafts of one unsigned transaction differ in their slots only
  pub alike : (d e : List ℕ) → Draft R d → Draft R e → body R d ≡ body R e → (R.slots e ≡ R.slots d) × Frame (R.slots d) d e
  -- bytes that differ from a draft in its slots only are a draft, of the same unsigned transaction and with the same slots
  pub refilled : (d e : List ℕ) → Draft R d → Bytes e → Frame (R.slots d) d e
      → (R.accepts e ≡ true) × (body R d ≡ body R e) × (R.slots e ≡ R.slots d)

-- x is a draft of d's unsigned transaction
pub record Like (R : Reader) (d x : List ℕ) : Type 0 where
  pub draft : Draft R x
  pub unsigned : body R d ≡ body R x
  pub slots : R.slots x ≡ R.slots d
  pub frame : Frame (R.slots d) d x

pub like-self : (R : Reader) (d : List ℕ) → Draft R d → Like R d d
like-self R d h = record { draft = h; unsigned = refl; slots = refl; frame = record { long = refl; outside = λ n o. refl } }

pub like-both : (R : Reader) (d x y : List ℕ) → Like R d x → Like R d y → Like R x y
like-both R d x y a b =
    record {
      draft = b.draft;
      unsigned = sym a.unsigned ∙ b.unsigned;
      slots = b.slots ∙ sym a.slots;
      frame = subst⁻¹ (λ (ps : List ℕ). Frame ps x y) a.slots
          (record { long = b.frame.long ∙ sym a.frame.long; outside = λ n o. b.frame.outside n o ∙ sym (a.frame.outside n o) });
    }

-- slot k of x, at the offset that it has in d
abbrev pub on : Reader → List ℕ → List ℕ → ℕ → List ℕ
on R d x k = slot_at x (get_or (R.slots d) k 0)

pub slot-on : (R : Reader) (d x : List ℕ) (k : ℕ) → R.slots x ≡ R.slots d → slot R x k ≡ on R d x k
unfolding slot
slot-on R d x k e = ap (λ (ps : List ℕ). slot_at x (get_or ps k 0)) e

module _ (R : Reader) (L : Laws R) where
  pub like-read : (d x : List ℕ) → Draft R d → Draft R x → body R d ≡ body R x → Like R d x
  like-read d x a b u = let h = L.alike d x a b u in record { draft = b; unsigned = u; slots = h.0; frame = h.1 }

  pub like-refilled : (d x : List ℕ) → Draft R d → Bytes x → Frame (R.slots d) d x → Like R d x
  like-refilled d x a b f =
      let h = L.refilled d x a b f in record { draft = record { bytes = b; accepted = h.0 }; unsigned = h.1; slots = h.2; frame = f }

  module _ (d : List ℕ) (hd : Draft R d) where
    pub length-on : (x : List ℕ) → Like R d x → (k : ℕ) → k < length (R.slots d) → length (on R d x k) ≡ signature_width
    length-on x l k b =
        length-slot_at x (get_or (R.slots d) k 0)
        (subst⁻¹ (λ (n : ℕ). get_or (R.slots d) k 0 + signature_width ≤ n) l.frame.long (spaced-at 0 (R.slots d) (length d) (L.apart d hd) k b).1)

    -- every slot of x replaced
    module _ (x : List ℕ) (lx : Like R d x) (f : ℕ → List ℕ) (long : Long f (R.slots d)) (bytes : (p : ℕ) → Bytes (f p)) where
      spaced-x : Spaced 0 (R.slots d) (length x)
      spaced-x = subst⁻¹ (λ (n : ℕ). Spaced 0 (R.slots d) n) lx.frame.long (L.apart d hd)

      pub like-put_all : Like R d (put_all (R.slots d) f x)
      like-put_all =
          like-refilled d (put_all (R.slots d) f x) hd (bytes-put_all f x (R.slots d) lx.draft.bytes bytes)
          (record {
            long = length-put_all f x 0 (R.slots d) spaced-x long ∙ lx.frame.long;
            outside = λ n o. put_all-outside f x 0 (R.slots d) spaced-x long n o ∙ lx.frame.outside n o;
          })

      pub put_all-on : (k : ℕ) → k < length (R.slots d) → on R d (put_all (R.slots d) f x) k ≡ f (get_or (R.slots d) k 0)
      put_all-on = put_all-slot f x 0 (R.slots d) spaced-x long
