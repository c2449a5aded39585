-- How signatures are read: one test finds whether all are there; if not, a loop finds the first that is cut short. Assumes nothing.
use Rattle.std.specs.Prelude.{Ok, Err, Result}
use Prim.Native.Nat.{ℕ, zero, suc, ◌+◌, ◌-◌, ◌*◌, ◌^◌, ◌≤◌, ◌<◌}
use mathlib.Core.Path.{◌≡◌, refl, ap, ◌∙◌}
use mathlib.Core.Bool.{Bool, true, false}
use mathlib.Core.List.{List, []}
use native.Mathlib.Omega.{arith}
use lib.ListN.{length, take, drop}
use lib.Dec.{leb}
use borrow.Author.Tests.{leb-true, leb-false}
use Rattle.wire.specs.declared.Refusal.{Refusal}
use Rattle.wire.specs.Bytes.{pick}
use Rattle.wire.specs.Numbers.{cut_at}
use Rattle.wire.specs.Format.{took, refused, read}
use Rattle.wire.specs.laws.Format.{pick_inv, took-refused}
use Rattle.wire.specs.Fields.{integer, blob}
use Rattle.wire.specs.Parsers.{blob_parse}
use Rattle.wire.specs.code.Answer.{ended, valued}
use Rattle.wire.proofs.Bytes.{Slice}
use Rattle.wire.proofs.Reading.{next-took, next-refused, blob-has, blob-ends, value-small}
use Rattle.transaction.specs.Slots.{signature_width}
use Rattle.transaction.specs.Credentials.{signatures, pieces}
use Rattle.credentials.specs.code.Cut.{first_cut}

-- ---- one after the other

module _ (s : List ℕ) (at : ℕ) where
  -- i of n signatures were read
  pub cut_on : (n i : ℕ) (z y : Refusal) → first_cut (n - i) s at ≡ y → i < n → z ≡ (blob 65).parse s at (λ e. e) (λ b m. first_cut (n - (i + 1)) s m)
      → z ≡ y
  unfolding pieces signatures signature_width
  cut_on n i z y h l e =
      let k : n - i ≡ suc (n - (i + 1)) = omega arith in
      let g = rw k at h in
      e ∙ g

  pub cut-end : (n i : ℕ) (z y : Refusal) → first_cut (n - i) s at ≡ y → n ≤ i → z ≡ cut_at 65 s at → z ≡ y
  unfolding pieces signatures signature_width
  cut-end n i z y h l e =
      let k : n - i ≡ 0 = omega arith in
      let g = rw k at h in
      e ∙ g

-- ---- all at once

-- the number of signatures wanted fits in 32 bits: it equals a count that was read
pub wanted-fit : (n w : ℕ) → n ≡ w → (x : Result (ℕ × ℕ) Refusal) (m : ℕ) → x ≡ Ok (n, m) → (s : List ℕ) (at : ℕ) → x ≡ valued (integer 4) s at → Slice s
    → w < 256 ^ 4
wanted-fit n w e x m q s at p b = rw (← e) (value-small 4 s at x n m p q b)

module _ (s : List ℕ) where
  all_there : (n at : ℕ) → 65 * n ≤ length s - at → Ok (at + 65 * n) ≡ ended (pieces (signatures n [])) s at
  unfolding pieces signatures signature_width
  all_there zero at h = let e : at + 65 * 0 ≡ at = omega arith in ap Ok e
  all_there (suc n) at h =
      let e : at + 65 * suc n ≡ at + 65 + 65 * n = omega arith in
      blob-has 65 s at _ Err (λ b m. ended (pieces (signatures n [])) s m) (omega arith) (ap Ok e ∙ all_there n (at + 65) (omega arith))

  not-all : (n at : ℕ) → length s - at < 65 * n → Err (first_cut n s at) ≡ ended (pieces (signatures n [])) s at
  unfolding pieces signatures signature_width blob blob_parse
  not-all zero at h = absurd (omega arith)
  not-all (suc n) at h = cases (leb 65 (length s - at)) refl (not-all n (at + 65))
    where
      cases : (b : Bool) → leb 65 (length s - at) ≡ b
          → (length s - (at + 65) < 65 * n → Err (first_cut n s (at + 65)) ≡ ended (pieces (signatures n [])) s (at + 65))
          → Err (pick b (first_cut n s (at + 65)) (cut_at 65 s at)) ≡ pick b (ended (pieces (signatures n [])) s (at + 65)) (Err (cut_at 65 s at))
      cases true t i = i (omega (arith, leb-true 65 (length s - at) t))
      cases false t i = refl

  blob-short : (k at : ℕ) (e : Refusal) → read (blob k) s at ≡ refused e → length s - at < k
  unfolding blob blob_parse
  blob-short k at e = cases (leb k (length s - at)) refl
    where
      cases : (b : Bool) → leb k (length s - at) ≡ b → pick b (took (take k (drop at s)) (at + k)) (refused (cut_at k s at)) ≡ refused e → length s - at < k
      cases true t q = took-refused (take k (drop at s)) (at + k) e q
      cases false t q = leb-false k (length s - at) t

  blob-room : (k at : ℕ) (v : List ℕ) (m : ℕ) → read (blob k) s at ≡ took v m → k ≤ length s - at
  unfolding blob blob_parse
  blob-room k at v m q = leb-true k (length s - at) (pick_inv (leb k (length s - at)) (cut_at k s at) _ v m q).0

  module _ (at n : ℕ) (x : Result ℕ Refusal) (p : x ≡ ended (blob (65 * n)) s at) where
    pub signatures-all : (m : ℕ) → x ≡ Ok m → Ok m ≡ ended (pieces (signatures n [])) s at
    signatures-all m q =
        let (v, t) = next-took (blob (65 * n)) s at x m p q in
        ap Ok (blob-ends (65 * n) s at v m t) ∙ all_there n at (blob-room (65 * n) at v m t)

    pub signatures-cut : (e : Refusal) → x ≡ Err e → (r : Refusal) → r ≡ first_cut n s at → Err r ≡ ended (pieces (signatures n [])) s at
    signatures-cut e q r i = ap Err i ∙ not-all n at (blob-short (65 * n) at e (next-refused (blob (65 * n)) s at x e p q))
