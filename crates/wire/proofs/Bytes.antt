-- Laws of byte strings: integers byte by byte, the order, byte ranges and copies. Assumes nothing.
use Prim.Native.Nat.{ℕ, zero, suc, ◌+◌, ◌-◌, ◌*◌, ◌/◌, ◌%◌, ◌^◌, ◌≤◌, ◌<◌, min}
use mathlib.Core.Path.{◌≡◌, refl, sym, ap, ◌∙◌}
use mathlib.Core.List.{List, [], ◌∷◌, ◌++◌, append-nil}
use mathlib.Core.Bool.{Bool, true, false}
use native.Mathlib.Decide.{dec_le}
use native.Mathlib.Omega.{arith}
use native.Mathlib.Numerals.{add-one}
use native.Mathlib.Nat.{pow-suc, pow-succ', pow-le-pow_right, lt_of_lt_of_le, mul_assoc, add-mul, add_assoc, zero-lt-suc, mod-lt, div-one}
use native.Mathlib.Nat.{div-div-eq-div-mul, div-lt_iff_lt-mul, div-add-mod'}
use lib.Arith.{mod-mul, digits_div, digits_mod}
use lib.ListN.{length, get_or, set, take, drop, drop_of_length-le, length-drop, length-append}
use lib.Seq.{drop-cons, take-length, take-nil, take_all, take-suc, append_snoc, set_at, get_or-drop, length-take-le}
use lib.Dec.{ltb}
use mir.Val.{Fits}
use mir.Syntax.{w8}
use borrow.Author.Tests.{lt-ltb, le-ltb, ltb-true, ltb-false}
use Rattle.std.proofs.Common.{Ordering, Less, Equal, Greater}
use Rattle.std.proofs.lemmas.Bool.Decides.{nat_tests}
use Rattle.std.specs.Cmp.Lexicographic.{slice_cmp}
use Rattle.std.specs.Ordering.{nat_cmp, is_lt, is_gt}
use Rattle.std.proofs.lemmas.Cmp.{same_from_slice_cmp}
use Rattle.wire.specs.Bytes.{Bytes, pick, between, value, digits, below}
use Rattle.wire.specs.laws.Bytes.{bytes_take, bytes_drop, value-lt, pow-positive}
use Rattle.wire.specs.code.Order.{order, key_below}

-- every element is a byte: what the rule for a slice of bytes gives
abbrev pub Slice : List ℕ → Type 0
Slice s = (j : ℕ) → Fits w8 (get_or s j 0)

pub slice-bytes : (s : List ℕ) → Slice s → Bytes s
slice-bytes [] h = tt
slice-bytes (x ∷ xs) h = (omega (arith, h 0), slice-bytes xs (λ i. h (suc i)))

-- a call ensures x ≡ y and the match on x found z, so y ≡ z
pub found : {A : Type 0} {x y z : A} → x ≡ y → x ≡ z → y ≡ z
found p q = sym p ∙ q

-- ---- an integer read byte by byte

value-snoc : (xs : List ℕ) (x : ℕ) → value (xs ++ (x ∷ [])) ≡ value xs * 256 + x
unfolding value
value-snoc [] x = omega arith
value-snoc (y ∷ ys) x = rw (length-append ys (x ∷ []), add-one, pow-suc, value-snoc ys x, add-mul, mul_assoc, add_assoc)

pub value-more : (s : List ℕ) (at i : ℕ) → at + i < length s → value (take (i + 1) (drop at s)) ≡ value (take i (drop at s)) * 256 + get_or s (at + i) 0
value-more s at i h =
    let k : i < length (drop at s) = rw length-drop (omega arith) in
    rw (add-one, take-suc (drop at s) i 0 k, value-snoc, get_or-drop)

-- the value of fewer than 8 bytes leaves room for one more byte
pub value_room : (s : List ℕ) (at : ℕ) → Slice s → (i : ℕ) → at + i < length s → i < 8 → value (take i (drop at s)) < 256 ^ 7
value_room s at hb i k h =
    let len : length (take i (drop at s)) ≡ i = length-take-le i (drop at s) (rw length-drop (omega arith)) in
    lt_of_lt_of_le (value-lt (take i (drop at s)) (bytes_take i (drop at s) (bytes_drop at s (slice-bytes s hb))))
    (rw len (pow-le-pow_right {n = 256} (zero-lt-suc 255) {i = i} {j = 7} (omega arith)))

-- ---- an integer written byte by byte, the lowest first

-- the lowest w + 1 bytes of v are its byte w and its lowest w bytes
digits_low : (w v : ℕ) → digits (suc w) (v % 256 ^ suc w) ≡ v / 256 ^ w % 256 ∷ digits w (v % 256 ^ w)
unfolding digits
digits_low w v =
    let r : v % 256 ^ w < 256 ^ w = mod-lt v (pow-positive w) in
    rw (pow-succ', mod-mul v (zero-lt-suc 255) (pow-positive w), digits_div (v / 256 ^ w % 256) r, digits_mod (v / 256 ^ w % 256) r)

-- storing b at index j puts it in front of ys
put_front : (s ys : List ℕ) (j b : ℕ) → suc j ≤ length s → set (take (suc j) s ++ ys) j b ≡ take j s ++ (b ∷ ys)
put_front s ys j b h = rw (take-suc s j 0 h, append_snoc) (set_at (take j s) (get_or s j 0) ys b j (length-take-le j s (omega arith)))

pub integer-none : (s : List ℕ) (v : ℕ)
    → (v ≡ v / 256 ^ (length s - length s)) × (s ≡ take (length s) s ++ digits (length s - length s) (v % 256 ^ (length s - length s)))
unfolding digits
integer-none s v =
    let e : length s - length s ≡ 0 = omega arith in
    (rw e (sym (div-one v)), rw (e, take-length) (sym (append-nil s)))

pub integer-left : (v n i : ℕ) → 0 < i → i ≤ n → v / 256 ^ (n - i) / 256 ≡ v / 256 ^ (n - (i - 1))
integer-left v n i h k =
    let f : n - (i - 1) ≡ suc (n - i) = omega arith in
    rw (f, pow-suc) (div-div-eq-div-mul v (256 ^ (n - i)) 256)

pub integer-more : (s : List ℕ) (v i : ℕ) → 0 < i → i ≤ length s
    → set (take i s ++ digits (length s - i) (v % 256 ^ (length s - i))) (i - 1) (v / 256 ^ (length s - i) % 256)
    ≡ take (i - 1) s ++ digits (length s - (i - 1)) (v % 256 ^ (length s - (i - 1)))
integer-more s v zero h k = absurd (omega arith)
integer-more s v (suc j) h k =
    let e : suc j - 1 ≡ j = omega arith in
    let f : length s - j ≡ suc (length s - suc j) = omega arith in
    rw (e, f, digits_low) (put_front s (digits (length s - suc j) (v % 256 ^ (length s - suc j))) j (v / 256 ^ (length s - suc j) % 256) k)

-- ---- the order of two strings

-- the library's order of byte strings is the one by `below`
module _ (a b : List ℕ) (r : Ordering) (h : r ≡ slice_cmp nat_cmp a b) where
  lt-below : is_lt r ≡ below a b
  unfolding below
  lt-below = same_from_slice_cmp nat_cmp is_lt below refl (λ _ _. refl) (λ _ _. refl) (λ x y xs ys o h. grind (arith, nat_tests)) a b r h

  gt-above : is_gt r ≡ below b a
  unfolding below
  gt-above =
      same_from_slice_cmp nat_cmp is_gt (λ a b. below b a) refl (λ _ _. refl) (λ _ _. refl) (λ x y xs ys o h. grind (arith, nat_tests)) a b r h

  pub slice-order : r ≡ order a b
  unfolding order
  slice-order = cases r lt-below gt-above
    where
      cases : (r : Ordering) → is_lt r ≡ below a b → is_gt r ≡ below b a → r ≡ pick (below a b) Less (pick (below b a) Greater Equal)
      cases Less e f = rw (← e)
      cases Equal e f = rw (← e, ← f)
      cases Greater e f = rw (← e, ← f)

-- a below b, from index i on; opaque, so that `search` reads a, b and i off it
unfoldable pub below_from : List ℕ → List ℕ → ℕ → Bool
below_from a b i = below (drop i a) (drop i b)

pub below_all : (a b : List ℕ) → below_from a b 0 ≡ below a b
unfolding below_from
below_all a b = refl

-- nothing is below the empty string
pub below-empty : (a : List ℕ) → below a [] ≡ false
unfolding below
below-empty [] = refl
below-empty (x ∷ xs) = refl

-- i is below m, which is at most the length of the shorter string
module _ (a b : List ℕ) (i : ℕ) (y : Bool) (w : below_from a b i ≡ y) (n m k : ℕ) (s : n ≡ min (length a) (length b)) (t : m ≡ min n k) where
  pub below-differ : i < m → (get_or a i 0 ≡ get_or b i 0 → ⊥) → ltb (get_or a i 0) (get_or b i 0) ≡ y
  unfolding below below_from
  below-differ h n =
      found (rw (drop-cons a i 0 (omega arith), drop-cons b i 0 (omega arith)) (cases (ltb (get_or a i 0) (get_or b i 0)) refl)) w
    where
      cases : (t : Bool) → ltb (get_or a i 0) (get_or b i 0) ≡ t
          → pick t true (pick (ltb (get_or b i 0) (get_or a i 0)) false (below (drop (suc i) a) (drop (suc i) b))) ≡ t
      cases true e = refl
      cases false e = rw (lt-ltb (get_or b i 0) (get_or a i 0) (other (ltb-false (get_or a i 0) (get_or b i 0) e)))
        where
          other : get_or b i 0 ≤ get_or a i 0 → get_or b i 0 < get_or a i 0
          other l = apart (get_or a i 0) (get_or b i 0) l n
            where
              apart : (x y : ℕ) → y ≤ x → (x ≡ y → ⊥) → y < x
              apart x y l n = elim (dec_le (suc y) x) [ yes m ↦ m | no m ↦ absurd (n (omega arith)) ]

  pub below_on : i < m → get_or a i 0 ≡ get_or b i 0 → below_from a b (i + 1) ≡ y
  unfolding below below_from
  below_on h e =
      let p : i < length a = omega arith in
      let q : i < length b = omega arith in
      found (rw (
        add-one,
        drop-cons a i 0,
        drop-cons b i 0,
        le-ltb (get_or a i 0) (get_or b i 0) (omega arith),
        le-ltb (get_or b i 0) (get_or a i 0) (omega arith),
      )) w

pub ruleset separating = (below-differ, below_on)

-- the strings compared, a and b, are p and q
pub below_parts : (a b p q : List ℕ) (t : Bool) → t ≡ below a b → a ≡ p → b ≡ q → t ≡ below p q
below_parts a b p q t h e f = rw (← e, ← f) h

pub order-lt : (a b : List ℕ) → is_lt (order a b) ≡ below a b
unfolding order
order-lt a b = cases (below a b) (below b a)
  where
    cases : (u v : Bool) → is_lt (pick u Less (pick v Greater Equal)) ≡ u
    cases true v = refl
    cases false true = refl
    cases false false = refl

-- the answer of a test on the order: t if both are equal
abbrev pub or_else : Ordering → Bool → Bool
or_else Less t = true
or_else Equal t = t
or_else Greater t = false

-- the code found the order x of a and b to be o; y is the test's answer
module _ (a b : List ℕ) (x o : Ordering) (p : x ≡ order a b) (q : x ≡ o) (y : Bool) where
  order-else : (t : Bool) → y ≡ or_else o t → y ≡ pick (below a b) true (pick (below b a) false t)
  unfolding order
  order-else t e = e ∙ ap (λ (r : Ordering). or_else r t) (found q p) ∙ cases (below a b) (below b a)
    where
      cases : (u v : Bool) → or_else (pick u Less (pick v Greater Equal)) t ≡ pick u true (pick v false t)
      cases true v = refl
      cases false true = refl
      cases false false = refl

  pub order-key : (i j : ℕ) → y ≡ or_else o (ltb i j) → y ≡ key_below a i b j
  unfolding key_below
  order-key i j e = order-else (ltb i j) e

-- of concatenations whose first strings have equal lengths, the second strings decide only if the first are equal
pub below-append : (a b c d : List ℕ) → length a ≡ length b → below (a ++ c) (b ++ d) ≡ pick (below a b) true (pick (below b a) false (below c d))
unfolding below
below-append [] [] c d h = refl
below-append [] (y ∷ b) c d h = absurd (omega arith)
below-append (x ∷ a) [] c d h = absurd (omega arith)
below-append (x ∷ a) (y ∷ b) c d h = cases (ltb x y) (ltb y x) (below-append a b c d (omega arith))
  where
    cases : (u v : Bool) → below (a ++ c) (b ++ d) ≡ pick (below a b) true (pick (below b a) false (below c d))
        → pick u true (pick v false (below (a ++ c) (b ++ d)))
        ≡ pick (pick u true (pick v false (below a b))) true (pick (pick v true (pick u false (below b a))) false (below c d))
    cases true v e = refl
    cases false true e = refl
    cases false false e = e

-- integers of one width are in the order of their big-endian bytes
pub below-digits : (k i j : ℕ) → i < 256 ^ k → j < 256 ^ k → below (digits k i) (digits k j) ≡ ltb i j
unfolding below digits
below-digits zero i j h g = sym (le-ltb i j (omega arith))
below-digits (suc k) i j h g =
    cases (ltb (i / b) (j / b)) refl (ltb (j / b) (i / b)) refl (below-digits k (i % b) (j % b) (mod-lt i (pow-positive k)) (mod-lt j (pow-positive k)))
  where
    b : ℕ
    b = 256 ^ k

    -- an integer with a lower quotient is lower
    lower : (m n : ℕ) → ltb (m / b) (n / b) ≡ true → m < n
    lower m n e =
        lt_of_lt_of_le ((div-lt_iff_lt-mul (pow-positive k)).0 (ltb-true (m / b) (n / b) e)) (omega (arith, div-add-mod' n b))

    cases : (u : Bool) → ltb (i / b) (j / b) ≡ u → (v : Bool) → ltb (j / b) (i / b) ≡ v → below (digits k (i % b)) (digits k (j % b)) ≡ ltb (i % b) (j % b)
        → pick u true (pick v false (below (digits k (i % b)) (digits k (j % b)))) ≡ ltb i j
    cases true p v q e = sym (lt-ltb i j (lower i j p))
    cases false p true q e = let l = lower j i q in sym (le-ltb i j (omega arith))
    cases false p false q e = e ∙ rest (ltb (i % b) (j % b)) refl
      where
        same : i / b * b ≡ j / b * b
        same = let u = ltb-false (i / b) (j / b) p in let v = ltb-false (j / b) (i / b) q in let w : i / b ≡ j / b = omega arith in ap (λ (n : ℕ). n * b) w

        rest : (t : Bool) → ltb (i % b) (j % b) ≡ t → t ≡ ltb i j
        rest true r = let l = ltb-true (i % b) (j % b) r in sym (lt-ltb i j (omega (arith, same, div-add-mod' i b, div-add-mod' j b)))
        rest false r = let l = ltb-false (i % b) (j % b) r in sym (le-ltb i j (omega (arith, same, div-add-mod' i b, div-add-mod' j b)))

-- the bytes of two keys are in the order of the keys: by identifier, then by index
pub key_below_lem : (a b : List ℕ) (i j : ℕ) → length a ≡ length b → i < 256 ^ 4 → j < 256 ^ 4 → below (a ++ digits 4 i) (b ++ digits 4 j) ≡ key_below a i b j
unfolding key_below
key_below_lem a b i j h g k = below-append a b (digits 4 i) (digits 4 j) h
    ∙ ap (λ (t : Bool). pick (below a b) true (pick (below b a) false t)) (below-digits 4 i j g k)

-- ---- byte ranges

-- the bytes from a up to e, if a is past the end of s, if e is before a, and if e is past the end of s
pub part_out : (a e : ℕ) (s : List ℕ) → length s < a → [] ≡ between a e s
part_out a e s h = let o : length s ≤ a = omega arith in rw (drop_of_length-le s, take-nil)

pub part_none : (a e : ℕ) (s : List ℕ) → e < a → [] ≡ between a e s
part_none a e s h = let o : e - a ≡ 0 = omega arith in rw o

pub part-over : (a e : ℕ) (s : List ℕ) → length s < e → take (length s - a) (drop a s) ≡ between a e s
part-over a e s h =
    take_all (length s - a) (drop a s) (rw length-drop (omega arith)) ∙ sym (take_all (e - a) (drop a s) (rw length-drop (omega arith)))

-- ---- copies of s into z

-- y is z after a copy of as much of s as fits, where not all of it does
pub copy_some : (s z y : List ℕ) → length z < length s → y ≡ take (length z) s → y ≡ take (length z) s ++ drop (length s) z
copy_some s z y h e =
    let o : length z ≤ length s = omega arith in
    e ∙ rw (drop_of_length-le z {i = length s} o, append-nil)
