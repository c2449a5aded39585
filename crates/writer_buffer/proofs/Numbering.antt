-- Integers of four bytes each, written one after the other. Assumes nothing.
use Rattle.std.specs.Prelude.{Result}
use Rattle.wire.specs.declared.Refusal.{Refusal}
use Prim.Native.Nat.{ℕ, ◌+◌, ◌*◌, ◌≤◌, ◌<◌}
use mathlib.Core.Path.{◌≡◌, refl, sym, ap, ◌∙◌}
use mathlib.Core.List.{List, ◌++◌}
use native.Mathlib.Omega.{arith}
use native.Mathlib.Numerals.{add-one}
use lib.ListN.{length, get_or, drop, drop_of_length-le, length-append}
use lib.Seq.{drop-cons}
use Rattle.wire.specs.Bytes.{digits}
use Rattle.wire.specs.laws.Bytes.{length_digits}
use Rattle.writer_rules.specs.code.Elements.{integers_bytes}
use Rattle.writer_rules.proofs.Integers.{Words, length-integers}
use Rattle.writer_buffer.specs.Stores.{room_in, overwrite}
use Rattle.writer_buffer.specs.code.Stores.{with_integer}
use Rattle.writer_buffer.proofs.Stores.{length-overwrite, same-room, overwrite-more, overwrite-none, integer-put}

-- ---- the loop's invariant: writing the integers that are left gives y

module _ (l : List ℕ) (i at : ℕ) (b y : List ℕ) (h : overwrite b at (integers_bytes (drop i l)) ≡ y) where
  pub integers-end : length l ≤ i → b ≡ y
  unfolding integers_bytes
  integers-end k = sym (ap (λ (z : List ℕ). overwrite b at (integers_bytes z)) (drop_of_length-le l {i = i} k) ∙ overwrite-none b at) ∙ h

  pub integers-on : Words l → i < length l → at + 4 ≤ length b → (u : List ℕ) → u ≡ with_integer b at (get_or l i 0)
      → overwrite u (at + 4) (integers_bytes (drop (i + 1) l)) ≡ y
  unfolding integers_bytes
  integers-on w k f u e =
      let n : ℕ = get_or l i 0 in
      let D : List ℕ = digits 4 n in
      let r : List ℕ = integers_bytes (drop (i + 1) l) in
      let d = length_digits 4 n in
      let front : integers_bytes (drop i l) ≡ D ++ r = ap integers_bytes (drop-cons l i 0 k)
      ∙ ap (λ (j : ℕ). D ++ integers_bytes (drop j l)) (sym (add-one i)) in
      ap (λ (z : List ℕ). overwrite z (at + 4) r) (e ∙ integer-put b at n f (omega (arith, w i)))
      ∙ overwrite-more b at D r (at + 4) (omega arith) (omega arith) ∙ ap (overwrite b at) (sym front) ∙ h

-- ---- two byte strings and integers, one after the other

module _ (first second l : List ℕ) where
  abbrev pub all : List ℕ
  all = (first ++ second) ++ integers_bytes l

  pub length-all : length all ≡ length first + length second + 4 * length l
  length-all = omega (arith, length-append (first ++ second) (integers_bytes l), length-append first second, length-integers l)

  module _ (at limit : ℕ) where
    pub room-all : (v : Result (Unit {0}) Refusal) → v ≡ room_in (at + (length first + length second + 4 * length l)) limit
        → v ≡ room_in (at + length all) limit
    room-all v h = same-room v (at + (length first + length second + 4 * length l)) (at + length all) limit h (omega (arith, length-all))

  module _ (s : List ℕ) (at : ℕ) (f : at + length all ≤ length s) where
    pub front_fits : at + length first ≤ length s
    front_fits = omega (arith, length-all)

    pub sum_fits : at + length first + length second + 4 * length l ≤ length s
    sum_fits = omega (arith, length-all)

    module _ (t : List ℕ) (ht : t ≡ overwrite s at first) where
      same_length : length t ≡ length s
      same_length = ap length ht ∙ length-overwrite s first at front_fits

      pub second_fits : at + length first + length second ≤ length t
      second_fits = omega (arith, same_length, sum_fits)

      module _ (u : List ℕ) (hu : u ≡ overwrite t (at + length first) second) where
        pub integers-fit : at + length first + length second + 4 * length l ≤ length u
        integers-fit = omega (arith, same_length, sum_fits, ap length hu, length-overwrite t second (at + length first) second_fits)

        pub all-stored : (w : List ℕ) → w ≡ overwrite u (at + length first + length second) (integers_bytes l) → w ≡ overwrite s at all
        all-stored w hw =
            let here = front_fits in
            let both : u ≡ overwrite s at (first ++ second) = hu ∙ ap (λ (z : List ℕ). overwrite z (at + length first) second) ht
            ∙ overwrite-more s at first second (at + length first) refl (omega arith) in
            hw ∙ ap (λ (z : List ℕ). overwrite z (at + length first + length second) (integers_bytes l)) both
            ∙ overwrite-more s at (first ++ second) (integers_bytes l) (at + length first + length second) (omega (arith, length-append first second))
            (omega arith)
