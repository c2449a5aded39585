-- A string given in two pieces, compared with a whole one. Assumes nothing.
use Prim.Native.Nat.{ℕ, ◌-◌, ◌/◌, ◌%◌, ◌^◌, ◌≤◌, ◌<◌}
use mathlib.Core.Path.{◌≡◌, refl, sym, ap, ap₂, ◌∙◌}
use mathlib.Core.Bool.{Bool, true, false}
use mathlib.Core.List.{List, [], ◌∷◌, ◌++◌, append_assoc}
use native.Mathlib.Omega.{arith}
use native.Mathlib.Nat.{mod-eq_of_lt, le-div_iff_mul-le, zero-lt-suc}
use lib.ListN.{length, take, drop, length-append, length-drop}
use lib.Seq.{take_at, take_all}
use lib.Dec.{ltb}
use borrow.Author.Tests.{lt-ltb, le-ltb}
use Rattle.std.proofs.Common.{Ordering, Less, Equal, Greater}
use Rattle.wire.specs.Bytes.{Bytes, pick, between, digits, below}
use Rattle.wire.specs.laws.Bytes.{bytes_drop, length_digits}
use Rattle.wire.specs.code.Order.{order, key_below}
use Rattle.wire.proofs.Bytes.{Slice, slice-bytes, or_else, order-key}
use Rattle.writer_rules.specs.code.Elements.{output_front, output_head}

-- whether a is below b, and t if neither is below the other
abbrev decided : List ℕ → List ℕ → Bool → Bool
decided a b t = pick (below a b) true (pick (below b a) false t)

-- the first piece decides; if it is equal, the second does
below-pieces : (a c p : List ℕ) → below (a ++ c) p ≡ decided a (take (length a) p) (below c (drop (length a) p))
unfolding below
below-pieces [] c p = refl
below-pieces (x ∷ a) c [] = refl
below-pieces (x ∷ a) c (y ∷ p) = cases (ltb x y) (ltb y x) (below-pieces a c p)
  where
    cases : (u v : Bool) → below (a ++ c) p ≡ decided a (take (length a) p) (below c (drop (length a) p))
        → pick u true (pick v false (below (a ++ c) p))
        ≡ pick (pick u true (pick v false (below a (take (length a) p)))) true
        (pick (pick v true (pick u false (below (take (length a) p) a))) false (below c (drop (length a) p)))
    cases true v e = refl
    cases false true e = refl
    cases false false e = e

-- if the second piece is below nothing, the first decides alone
first-decides : (a c p : List ℕ) → below c (drop (length a) p) ≡ false → below a (take (length a) p) ≡ below (a ++ c) p
first-decides a c p e =
    cases (below a (take (length a) p)) (below (take (length a) p) a) ∙ ap (decided a (take (length a) p)) (sym e) ∙ sym (below-pieces a c p)
  where
    cases : (u v : Bool) → u ≡ pick u true (pick v false false)
    cases true v = refl
    cases false true = refl
    cases false false = refl

-- the order of a and b, as the call answered it, decides
order-then : (a b : List ℕ) (x o : Ordering) → x ≡ order a b → x ≡ o → (t : Bool) → or_else o t ≡ decided a b t
unfolding key_below
order-then a b x o p q true = order-key a b x o p q (or_else o true) 0 1 refl
order-then a b x o p q false = order-key a b x o p q (or_else o false) 0 0 refl

module _ (a c p q : List ℕ) (x : Ordering) (e : x ≡ order a q) (f : q ≡ between 0 (length a) p) where
  pieces : (o : Ordering) → x ≡ o → or_else o (below c (drop (length a) p)) ≡ below (a ++ c) p
  pieces o h =
      let d : length a - 0 ≡ length a = omega arith in
      order-then a (take (length a) p) x o (e ∙ ap (order a) (f ∙ ap (λ n. take n p) d)) h (below c (drop (length a) p)) ∙ sym (below-pieces a c p)

  pub pieces-below : x ≡ Less → true ≡ below (a ++ c) p
  pieces-below = pieces Less

  pub pieces-above : x ≡ Greater → false ≡ below (a ++ c) p
  pieces-above = pieces Greater

  pub pieces-equal : (y : Bool) (r : List ℕ) → x ≡ Equal → y ≡ below c r → r ≡ between (length a) (length p) p → y ≡ below (a ++ c) p
  pieces-equal y r h i j = i ∙ ap (below c) (j ∙ take_all (length p - length a) (drop (length a) p) (rw length-drop (omega arith))) ∙ pieces Equal h

-- ---- an output

digit-below : (x : ℕ) (c p : List ℕ) → Bytes p → 256 ≤ x → below (x ∷ c) p ≡ false
unfolding below
digit-below x c [] b h = refl
digit-below x c (y ∷ p) b h = rw (le-ltb x y (omega arith), lt-ltb y x (omega arith))

-- the first digit of an integer too large for its width is above every byte
large-below : (n : ℕ) (c p : List ℕ) → Bytes p → 256 ^ 4 ≤ n → below (digits 4 n ++ c) p ≡ false
unfolding digits
large-below n c p b h = digit-below (n / 256 ^ 3) (digits 3 (n % 256 ^ 3) ++ c) p b ((le-div_iff_mul-le (zero-lt-suc _)).1 (omega arith))

length_front : (asset : List ℕ) (amount locktime threshold : ℕ) → length asset ≡ 32 → length (output_front asset amount locktime threshold) ≡ 56
unfolding output_front
length_front asset amount locktime threshold h = simp (length-append, length_digits) (omega arith)

module _ (prev asset : List ℕ) (amount locktime threshold count : ℕ) (addresses head : List ℕ) (y : Bool) where
  pub output-few : count ≤ 4294967295 → head ≡ output_head asset amount locktime threshold (count % 256 ^ 4) → y ≡ below (head ++ addresses) prev
      → y ≡ below (output_head asset amount locktime threshold count ++ addresses) prev
  output-few h e i = i ∙ ap (λ r. below (r ++ addresses) prev) (e ∙ ap (output_head asset amount locktime threshold) (mod-eq_of_lt (omega arith)))

  -- if there are more addresses than four bytes can count, the bytes before the count decide
  pub output-many : Slice prev → length asset ≡ 32 → (f p : List ℕ) → 4294967295 < count → head ≡ output_head asset amount locktime threshold (count % 256 ^ 4)
      → f ≡ between 0 56 head → p ≡ between 0 56 prev → y ≡ below f p → y ≡ below (output_head asset amount locktime threshold count ++ addresses) prev
  unfolding output_head
  output-many b l f p h e g k i =
      let front : List ℕ = output_front asset amount locktime threshold in
      let wide : length front ≡ 56 = length_front asset amount locktime threshold l in
      i ∙ ap₂ below (g ∙ ap (take 56) e ∙ take_at front (digits 4 (count % 256 ^ 4)) 56 wide) (k ∙ ap (λ n. take n prev) (sym wide))
      ∙ first-decides front (digits 4 count ++ addresses) prev
      (large-below count addresses (drop (length front) prev) (bytes_drop (length front) prev (slice-bytes prev b)) (omega arith))
      ∙ ap (λ r. below r prev) (sym (append_assoc front (digits 4 count) addresses))
