-- Room in the buffer, and stores one after the other. Assumes nothing.
use Rattle.std.specs.Prelude.{Ok, Err, Result}
use Prim.Native.Nat.{ℕ, ◌+◌, ◌≤◌, ◌-◌, ◌%◌, ◌^◌, ◌<◌}
use mathlib.Core.Path.{◌≡◌, refl, sym, ap, ◌∙◌, ap₂}
use mathlib.Core.Bool.{Bool, true, false}
use mathlib.Core.List.{List, [], ◌++◌, append_assoc}
use native.Mathlib.Omega.{arith}
use native.Mathlib.Nat.{mod-eq_of_lt}
use lib.ListN.{length, take, drop, replicate, length-append, length-drop, length-replicate, take-append-drop}
use lib.Seq.{length-take-le, take_at, drop_at, drop-drop, take-append-le, take-take}
use lib.Dec.{leb}
use borrow.Author.Tests.{leb-true, le-leb, lt-leb}
use Rattle.wire.specs.Bytes.{pick, digits}
use Rattle.wire.specs.laws.Bytes.{length_digits}
use Rattle.wire.specs.Numbers.{no_room}
use Rattle.wire.specs.declared.Refusal.{Refusal}
use Rattle.transaction.specs.Signed.{most_bytes}
use Rattle.writer_rules.proofs.Verdicts.{pick-fine}
use Rattle.writer_rules.proofs.Lent.{lent, length-lent, lent-integer}
use Rattle.writer_rules.specs.Judged.{refused_by}
use Rattle.writer_buffer.specs.Stores.{room_in, room_for, overwrite}
use Rattle.writer_buffer.specs.code.Stores.{with_integer, stored}

-- ---- room

pub room-inv : (n : ℕ) (s : List ℕ) → room_for n s ≡ (Ok tt) → (n ≤ length s) × (n ≤ most_bytes)
unfolding room_for
room-inv n s e =
    let (a, e₁) = pick-fine (leb n (length s)) _ no_room e in
    let (b, _) = pick-fine (leb n most_bytes) (Ok tt) no_room e₁ in
    (leb-true n (length s) a, leb-true n most_bytes b)

module _ (n limit : ℕ) where
  pub no_room_lem : limit < n → refused_by no_room ≡ room_in n limit
  no_room_lem h = rw (lt-leb n limit h)

  pub too_many : most_bytes < n → refused_by no_room ≡ room_in n limit
  too_many h = go (leb n limit)
    where
      go : (t : Bool) → refused_by no_room ≡ pick t (pick (leb n most_bytes) (Ok tt) (refused_by no_room)) (refused_by no_room)
      go true = rw (lt-leb n most_bytes h)
      go false = refl

  pub enough : n ≤ limit → n ≤ most_bytes → (Ok tt) ≡ room_in n limit
  enough h k = rw (le-leb n limit h, le-leb n most_bytes k)

pub room-fine : (n : ℕ) (s : List ℕ) → n ≤ length s → n ≤ most_bytes → room_for n s ≡ (Ok tt)
unfolding room_for
room-fine n s h k = sym (enough n (length s) h k)

-- P holds of the verdict if it holds of `Allowed`, where there is room, and of refusal 14
pub by-room : (n : ℕ) (s : List ℕ) (P : Result (Unit {0}) Refusal → Type 0) → (room_for n s ≡ (Ok tt) → P (Ok tt)) → P (refused_by no_room) → P (room_for n s)
unfolding room_for
by-room n s P f r = go (leb n (length s)) (leb n most_bytes) f
  where
    go : (a c : Bool) → (pick a (pick c (Ok tt) (refused_by no_room)) (refused_by no_room) ≡ (Ok tt) → P (Ok tt))
        → P (pick a (pick c (Ok tt) (refused_by no_room)) (refused_by no_room))
    go true true f = f refl
    go true false f = r
    go false c f = r

pub same-room : (v : Result (Unit {0}) Refusal) (n m limit : ℕ) → v ≡ room_in n limit → n ≡ m → v ≡ room_in m limit
same-room v n m limit h e = rw (← e) h

-- ---- stores

module _ (s ys : List ℕ) (at : ℕ) where
  pub take-overwrite : at ≤ length s → take (at + length ys) (overwrite s at ys) ≡ take at s ++ ys
  unfolding overwrite
  take-overwrite h =
      ap (take (at + length ys)) (sym (append_assoc (take at s) ys (drop (length ys) (drop at s))))
      ∙ take_at (take at s ++ ys) (drop (length ys) (drop at s)) (at + length ys) (omega (arith, length-append (take at s) ys, length-take-le at s h))

  pub length-overwrite : at + length ys ≤ length s → length (overwrite s at ys) ≡ length s
  unfolding overwrite
  length-overwrite h =
      omega (
        arith,
        length-append (take at s) (ys ++ drop (length ys) (drop at s)),
        length-append ys (drop (length ys) (drop at s)),
        length-take-le at s (omega arith),
        length-drop (length ys) (drop at s),
        length-drop at s,
      )

-- a store in the middle replaces the bytes there
pub overwrite-middle : (p c d r : List ℕ) (at : ℕ) → length p ≡ at → length c ≡ length d → overwrite (p ++ (c ++ r)) at d ≡ p ++ (d ++ r)
unfolding overwrite
overwrite-middle p c d r at h l = rw (take_at p (c ++ r) at h, drop_at p (c ++ r) at h, drop_at c r (length d) l)

module _ (s : List ℕ) (at : ℕ) where
  pub overwrite-none : overwrite s at [] ≡ s
  unfolding overwrite
  overwrite-none = take-append-drop at s

  -- two stores, the second just past the first, are one store
  pub overwrite-more : (x y : List ℕ) (m : ℕ) → m ≡ at + length x → at ≤ length s → overwrite (overwrite s at x) m y ≡ overwrite s at (x ++ y)
  unfolding overwrite
  overwrite-more x y m e h =
      let d : List ℕ = drop (length x) (drop at s) in
      let p : List ℕ = take at s ++ x in
      let long : length p ≡ m = omega (arith, length-append (take at s) x, length-take-le at s h) in
      let first : overwrite s at x ≡ p ++ d = sym (append_assoc (take at s) x d) in
      let rest : drop (length y) d ≡ drop (length (x ++ y)) (drop at s) = drop-drop (length y) (length x) (drop at s)
      ∙ ap (λ (n : ℕ). drop n (drop at s)) (sym (length-append x y)) in
      ap (λ (t : List ℕ). take m t ++ (y ++ drop (length y) (drop m t))) first
      ∙ ap₂ (λ (a b : List ℕ). a ++ (y ++ drop (length y) b)) (take_at p d m long) (drop_at p d m long)
      ∙ ap (λ (t : List ℕ). p ++ (y ++ t)) rest
      ∙ append_assoc (take at s) x (y ++ drop (length (x ++ y)) (drop at s))
      ∙ ap (λ (t : List ℕ). take at s ++ t) (sym (append_assoc x y (drop (length (x ++ y)) (drop at s))))

  -- the bytes before a store do not change
  pub front-stays : (x : List ℕ) (n : ℕ) → n ≤ at → at ≤ length s → take n (overwrite s at x) ≡ take n s
  unfolding overwrite
  front-stays x n h k =
      take-append-le n (take at s) (x ++ drop (length x) (drop at s)) (omega (arith, length-take-le at s k)) ∙ take-take n at s h

-- ---- ranges of the buffer that were lent

-- the n bytes from `at` on were lent and are now y
module _ (s y : List ℕ) (at n : ℕ) where
  part-back : (ys : List ℕ) → y ≡ ys → length ys ≡ at + n - at → take at s ++ (y ++ drop (at + n - at) (drop at s)) ≡ overwrite s at ys
  unfolding overwrite
  part-back ys e l = ap₂ (λ (x : List ℕ) (k : ℕ). take at s ++ (x ++ drop k (drop at s))) e (sym l)

  pub zeros-back : at + n ≤ length s → y ≡ replicate (length (lent s at n)) 0
      → take at s ++ (y ++ drop (at + n - at) (drop at s)) ≡ overwrite s at (replicate n 0)
  zeros-back h e = part-back (replicate n 0) (e ∙ ap (λ (k : ℕ). replicate k 0) (length-lent s at n h)) (length-replicate n 0 ∙ omega arith)

-- y is a copy of b
pub bytes_back : (s y b : List ℕ) (at : ℕ) → at + length b ≤ length s → y ≡ b
    → take at s ++ (y ++ drop (at + length b - at) (drop at s)) ≡ overwrite s at b
bytes_back s y b at h e = part-back s y at (length b) b e (omega arith)

-- ---- an integer in the buffer

module _ (s : List ℕ) (at n : ℕ) where
  pub not_there : length s < at + 4 → s ≡ with_integer s at n
  unfolding with_integer
  not_there h = rw (lt-leb (at + 4) (length s) h)

  -- the four bytes were lent and are now y
  pub integer-there : at + 4 ≤ length s → (y : List ℕ) → y ≡ digits (length (lent s at 4)) (n % 256 ^ length (lent s at 4))
      → take at s ++ (y ++ drop (at + 4 - at) (drop at s)) ≡ with_integer s at n
  unfolding with_integer
  integer-there h y e =
      rw (le-leb (at + 4) (length s) h)
      (part-back s y at 4 (digits 4 (n % 256 ^ 4)) (lent-integer s at 4 h n y e) (length_digits 4 (n % 256 ^ 4) ∙ omega arith))

  -- if it fits into the buffer and into four bytes, it is stored
  pub integer-put : at + 4 ≤ length s → n < 256 ^ 4 → with_integer s at n ≡ overwrite s at (digits 4 n)
  unfolding with_integer
  integer-put h f = rw (le-leb (at + 4) (length s) h, mod-eq_of_lt f)

  pub length-integer : length (with_integer s at n) ≡ length s
  unfolding with_integer
  length-integer = go (leb (at + 4) (length s)) refl
    where
      go : (b : Bool) → leb (at + 4) (length s) ≡ b → length (pick b (overwrite s at (digits 4 (n % 256 ^ 4))) s) ≡ length s
      go true e = length-overwrite s (digits 4 (n % 256 ^ 4)) at (omega (arith, leb-true (at + 4) (length s) e, length_digits 4 (n % 256 ^ 4)))
      go false e = refl

-- ---- stores made completely or not at all

module _ (m : ℕ) (s : List ℕ) (x : Result (Unit {0}) Refusal) (p : x ≡ room_in m (length s)) where
  module _ (n : ℕ) (t : List ℕ) where
    pub room-refuses : (d : Refusal) → x ≡ Err d → (Err d, s) ≡ stored (room_for m s) n s t
    unfolding stored room_for
    room-refuses d q = rw (sym p ∙ q)

    pub all_done : x ≡ (Ok tt) → (i : ℕ) → i ≡ n → (u : List ℕ) → u ≡ t → (Ok i, u) ≡ stored (room_for m s) n s t
    unfolding stored room_for
    all_done q i h u k = rw (sym p ∙ q) (ap₂ (λ (a : ℕ) (b : List ℕ). (Ok a, b)) h k)

-- what follows from the answer of a store
module _ (n : ℕ) (s t : List ℕ) (x : Result ℕ Refusal) (u : List ℕ) where
  pub stored_refused : (v : Result (Unit {0}) Refusal) → (x, u) ≡ stored v n s t → (e : Refusal) → x ≡ Err e → (v ≡ Err e) × (u ≡ s)
  unfolding stored
  stored_refused (Ok tt) p e q = let i : x ≡ Ok n = ap (λ (z : Result ℕ Refusal × List ℕ). z.0) p in let z : ◌≡◌ {A = ℕ} 0 1 = cc in absurd (omega arith)
  stored_refused (Err d) p e q =
      let i : x ≡ Err d = ap (λ (z : Result ℕ Refusal × List ℕ). z.0) p in
      let j : d ≡ e = cc in
      (ap Err j, ap (λ (z : Result ℕ Refusal × List ℕ). z.1) p)

  pub stored_at : (v : Result (Unit {0}) Refusal) → (x, u) ≡ stored v n s t → (m : ℕ) → x ≡ Ok m → (v ≡ (Ok tt)) × (m ≡ n) × (u ≡ t)
  unfolding stored
  stored_at (Ok tt) p m q =
      let i : x ≡ Ok n = ap (λ (z : Result ℕ Refusal × List ℕ). z.0) p in
      let j : m ≡ n = cc in
      (refl, j, ap (λ (z : Result ℕ Refusal × List ℕ). z.1) p)
  stored_at (Err d) p m q = let i : x ≡ Err d = ap (λ (z : Result ℕ Refusal × List ℕ). z.0) p in let z : ◌≡◌ {A = ℕ} 0 1 = cc in absurd (omega arith)
