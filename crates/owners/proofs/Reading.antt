-- Laws for the readers of owners, in the form of those of wire's proofs/Reading. Assumes nothing.
use Rattle.std.specs.Prelude.{Ok, Err, Result}
use Prim.Native.Nat.{ℕ, zero, suc, ◌+◌, ◌-◌, ◌≤◌, ◌<◌}
use mathlib.Core.Path.{◌≡◌, refl, sym, ap, ◌∙◌}
use mathlib.Core.Bool.{Bool, true, false, not}
use mathlib.Core.List.{List, []}
use native.Mathlib.Omega.{arith}
use borrow.Author.Tests.{not-true, not-false}
use Rattle.wire.specs.declared.Refusal.{Refusal}
use Rattle.wire.specs.Bytes.{below, pick, between}
use Rattle.wire.proofs.Format.{parse-alike-read}
use Rattle.wire.specs.Numbers.{by, out_of_order}
use Rattle.wire.specs.Fields.{blob}
use Rattle.wire.specs.Sequence.{guard, items}
use Rattle.wire.specs.Series.{left, above, increasing, series_from}
use Rattle.wire.specs.Parsers.{list_parse}
use Rattle.wire.specs.code.Answer.{ended, whole_at}
use Rattle.wire.proofs.Bytes.{Slice, slice-bytes, found}
use Rattle.wire.proofs.Orders.{empty-below}
use Rattle.wire.proofs.Reading as W
use Rattle.owners.specs.Owners.{owners, threshold_fits}

-- ---- addresses: the one at `at`, and n more after it, each above the one before. Opaque, so that `search` reads s, at and n off it

unfoldable pub address_then : ℕ → List ℕ → ℕ → Result ℕ Refusal
address_then n s at = (blob 20).parse s at Err (λ a q. ended (series_from (above (blob 20)) a n) s q)

module _ (s : List ℕ) (b : Slice s) where
  -- a list that is not empty is its first address and c - 1 more
  pub address-first : (c at : ℕ) → (c ≡ 0 → ⊥) → address_then (c - 1) s at ≡ ended (increasing (blob 20) c) s at
  unfolding address_then guard blob
  address-first c at h =
      W.list_on (above (blob 20)) (left (above (blob 20))) s at Err (λ l k. Ok k) [] c (address_then (c - 1) s at)
      (ended (increasing (blob 20) c) s at) refl (some c h)
      (parse-alike-read (blob 20) s at Err _ _ (λ a m t. rw (empty-below a (omega (arith, ((blob 20).sound s at a m (slice-bytes s b) t).0.0)))))
    where
      some : (c : ℕ) → (c ≡ 0 → ⊥) → 0 < c
      some zero h = absurd (h refl)
      some (suc c) h = omega arith

  pub no_address : (c at : ℕ) → c ≡ 0 → Ok at ≡ ended (increasing (blob 20) c) s at
  no_address c at h = W.list-end (above (blob 20)) (left (above (blob 20))) s at Err (λ l k. Ok k) [] c (Ok at)
      (ended (increasing (blob 20) c) s at) refl (omega arith) refl

  -- the address at prev is number i, counted from 1, of c; x is the answer of passing it
  module _ (c i prev : ℕ) (y : Result ℕ Refusal) (o : address_then (c - i) s prev ≡ y) (x : Result ℕ Refusal) (p : x ≡ ended (blob 20) s prev) where
    pub address-gone : (e : Refusal) (z : Result ℕ Refusal) → x ≡ Err e → z ≡ Err e → z ≡ y
    unfolding address_then
    address-gone e z q g = W.on-part-refused 20 s prev z Err _ x e p q g ∙ o

    pub address-last : c ≤ i → x ≡ y
    unfolding address_then items list_parse
    address-last h = last (c - i) (omega arith) o
      where
        last : (n : ℕ) → n ≤ 0 → address_then n s prev ≡ y → x ≡ y
        last zero g k = p ∙ k
        last (suc n) g k = absurd (omega arith)

    module _ (h : i < c) (at : ℕ) (q : x ≡ Ok at) where
      -- the next address, compared with the one at prev
      address-next : (blob 20).parse s at Err
          (λ a m. pick (below (whole_at 20 s prev) a) (ended (series_from (above (blob 20)) a (c - (i + 1))) s m) (Err (by out_of_order at))) ≡ y
      unfolding address_then guard blob
      address-next =
          W.for_on (above (blob 20)) (left (above (blob 20))) s at Err (λ l k. Ok k) (whole_at 20 s prev) c i _ y
          (ap (λ (a : List ℕ). ended (series_from (above (blob 20)) a (c - i)) s at) (W.whole-next 20 s prev (whole_at 20 s prev) x at refl p q)
          ∙ W.on-part 20 s prev _ Err (λ a q. ended (series_from (above (blob 20)) a (c - i)) s q) x at p q refl ∙ o) h refl

      module _ (u : Result ℕ Refusal) (j : u ≡ ended (blob 20) s at) where
        pub address-cut : (e : Refusal) (z : Result ℕ Refusal) → u ≡ Err e → z ≡ Err e → z ≡ y
        address-cut e z k g = W.on-part-refused 20 s at z Err _ u e j k g ∙ address-next

        -- t is the answer of comparing the two
        module _ (m : ℕ) (k : u ≡ Ok m) (t : Bool) (v w : List ℕ) (d : t ≡ below v w) (ev : v ≡ whole_at 20 s prev) (ew : w ≡ whole_at 20 s at) where
          compared : pick t (ended (series_from (above (blob 20)) (between at m s) (c - (i + 1))) s m) (Err (by out_of_order at)) ≡ y
          compared = rw (d, ev, ew, W.whole-next 20 s at (whole_at 20 s at) u m refl j k) (W.on-part 20 s at _ Err _ u m j k refl ∙ address-next)

          pub address-again : t ≡ true → address_then (c - (i + 1)) s at ≡ y
          unfolding address_then
          address-again g =
              sym (W.on-part 20 s at _ Err (λ a q. ended (series_from (above (blob 20)) a (c - (i + 1))) s q) u m j k refl) ∙ rw g at compared

          pub address-not-above : t ≡ false → (f : Refusal) → f ≡ by out_of_order at → Err f ≡ y
          address-not-above g f h = ap Err h ∙ rw g at compared

-- ---- owners

-- t is the code's answer to the threshold's rule
module _ {R : Type 0} (threshold addresses : ℕ) (t : Bool) (z x y : R) (e : t ≡ threshold_fits threshold addresses) where
  pub if-fits : not t ≡ false → z ≡ x → z ≡ pick (threshold_fits threshold addresses) x y
  if-fits h i = rw (found e (not-false t h)) i

  pub if-unfit : not t ≡ true → z ≡ y → z ≡ pick (threshold_fits threshold addresses) x y
  if-unfit h i = rw (found e (not-true t h)) i

pub on-owners : W.Ends owners
on-owners = W.ends owners

pub on-owners-refused : W.Stops owners
on-owners-refused = W.stops owners
