-- What the check's answer tells a caller: the number, the place and the verdict. Assumes nothing.
use Rattle.std.specs.Prelude.{Result, Ok, Err}
use Prim.Native.Nat.{ℕ, ◌≤◌}
use mathlib.Core.Path.{◌≡◌, refl, sym, ap}
use mathlib.Core.Bool.{Bool, true, false}
use mathlib.Core.List.{List}
use native.Mathlib.Omega.{arith}
use lib.ListN.{length, length-append}
use lib.Dec.{leb}
use borrow.Author.Tests.{leb-true}
use Rattle.wire.specs.declared.Refusal.{Refusal}
use Rattle.wire.specs.Bytes.{Bytes}
use Rattle.wire.specs.Numbers.{number_of, refusal, too_long}
use Rattle.wire.specs.Format.{Parsed, took, refused, on_result, verdict}
use Rattle.wire.specs.laws.Format.{refused-placed}
use Rattle.transaction.specs.Signed as AnySigned
use Rattle.transaction.specs.Plan.{plan}
use Rattle.transaction.specs.Form.{form}
use Rattle.transaction.specs.Avm.{avm}
use Rattle.transaction.specs.Family.{head, Unsigned, unsigned, Signed, check}
use Rattle.transaction.specs.Answer.{layout, checked}
use Rattle.transaction.specs.declared.Layout.{Layout}
use Rattle.transaction.proofs.Codec.{codec}
use Rattle.wire.proofs.Trying.{same-parts}

module _ {A : Type 0} (w : A → Layout) where
  refused-inv : (o : Parsed A) (e : Refusal) → Err e ≡ on_result {R = Result (Layout × ℕ) Refusal} o Err (λ v n. Ok (w v, n)) → o ≡ refused e
  refused-inv (took v n) e q = let z : ◌≡◌ {A = ℕ} 0 1 = cc in absurd (omega arith)
  refused-inv (refused d) e q = let z : d ≡ e = cc in ap refused z

  accepted-inv : (o : Parsed A) (l : Layout) (k : ℕ) → Ok (l, k) ≡ on_result {R = Result (Layout × ℕ) Refusal} o Err (λ v n. Ok (w v, n))
      → (v : A) × (o ≡ took v k) × (l ≡ w v)
  accepted-inv (took v n) l k q = let (j, i) = same-parts q in (v, ap (took v) (sym i), j)
  accepted-inv (refused d) l k q = let z : ◌≡◌ {A = ℕ} 0 1 = cc in absurd (omega arith)

module _ (most : ℕ) where
  pub refused-check : (s : List ℕ) (e : Refusal) → Err e ≡ checked most s → check (avm most) s ≡ refused e
  refused-check s e = refused-inv (λ v. layout most v.0) (check (avm most) s) e

  -- the place is inside the bytes or at their end; for too many bytes it is 0
  pub checked-place : (s : List ℕ) (e : Refusal) → Bytes s → Err e ≡ checked most s → e.place ≤ AnySigned.most_bytes
  unfolding AnySigned.check
  checked-place s e bs q = fits (leb (length s) AnySigned.most_bytes) refl (refused-check s e q)
    where
      fits : (b : Bool) → leb (length s) AnySigned.most_bytes ≡ b → check (avm most) s ≡ refused e → e.place ≤ AnySigned.most_bytes
      fits true p r = omega (arith, leb-true (length s) AnySigned.most_bytes p, (codec (avm most)).refused-at s e bs r)
      fits false p r = refused-placed {A = Signed (avm most)} AnySigned.most_bytes (refusal too_long 0) e (omega arith) (rw p at r)

  -- the verdict of a check that refuses
  pub checked_refused : (s : List ℕ) (e : Refusal) → Err e ≡ checked most s → verdict (check (avm most) s) ≡ (number_of e, e.place)
  checked_refused s e q = ap verdict (refused-check s e q)

  -- what was read, where the lists are, and how many bytes there are
  pub checked-accepted : (s : List ℕ) (w : Layout) (n : ℕ) → Ok (w, n) ≡ checked most s
      → (v : Signed (avm most)) × (check (avm most) s ≡ took v n) × (w ≡ layout most v.0)
  checked-accepted s w n = accepted-inv (λ v. layout most v.0) (check (avm most) s) w n

  -- ---- the offset of the credentials' count

  pub layout-credentials : (u : Unsigned (avm most)) → (layout most u).credentials_at ≡ length ((unsigned (avm most)).write u)
  unfolding unsigned
  layout-credentials (h, v) = sym (length-append ((head (avm most)).write h) ((form most (plan h.type)).write v))
