-- The step that follows from the answer of a store. Assumes nothing.
use Rattle.std.specs.Int.{from_bool}
use Rattle.std.specs.Prelude.{Ok, Err, Result}
use Prim.Native.Nat.{ℕ, ◌+◌, ◌-◌, ◌*◌, ◌≤◌, ◌<◌}
use mathlib.Core.Path.{◌≡◌, refl, ap, ap₂, ◌∙◌}
use mathlib.Core.Bool.{Bool, true, false}
use mathlib.Core.List.{List, [], ◌∷◌, ◌++◌, append-nil}
use native.Mathlib.Omega.{arith}
use native.Mathlib.Numerals.{add-one}
use lib.ListN.{length, take, length-append}
use lib.Dec.{leb, ltb}
use borrow.Author.Tests.{leb-true, ltb-true}
use Rattle.wire.specs.Bytes.{digits}
use Rattle.wire.specs.laws.Bytes.{length_digits}
use Rattle.wire.specs.declared.Refusal.{Refusal}
use Rattle.transaction.specs.Signed.{most_bytes}
use Rattle.transaction.specs.Plan.{plan_of}
use Rattle.writer_rules.specs.code.Elements.{integers_bytes}
use Rattle.writer_rules.proofs.Verdicts.{both_true}
use Rattle.plan.specs.Due.{due, due_of, is_list}
use Rattle.writer_buffer.specs.Stores.{room_for, overwrite}
use Rattle.writer_buffer.specs.code.Stores.{count_of, with_integer, stored}
use Rattle.writer_buffer.proofs.Stores.{room-inv, length-overwrite, integer-put, stored_refused, stored_at}
use Rattle.writer.specs.declared.Writer.{Writer}
use Rattle.writer.specs.declared.Step.{Step}
use Rattle.writer.specs.Steps.{answered, sane, grown, appended, after}
use Rattle.writer.specs.code.Answer.{refused_step, stored_step, settled, segment_step, opens_next, element_step}

-- ---- what a store answered

module _ (v : Result (Unit {0}) Refusal) (n : ℕ) (w : Writer) (s t : List ℕ) (x : Result ℕ Refusal) (u : List ℕ) (p : (x, u) ≡ stored v n s t) (w' : Writer)
    (r : Step) where
  pub store-refused : (t' : List ℕ) (e : Refusal) → x ≡ Err e → r ≡ refused_step w e → after r u ≡ answered v w s w' t'
  unfolding answered
  store-refused t' e q h = let (i, j) = stored_refused n s t x u v p e q in rw i (ap₂ after h j)

  -- f gives the writer's state, by the offset just past what was stored
  pub store-done : (f : ℕ → Writer) (m : ℕ) → x ≡ Ok m → r ≡ stored_step (f m) → f n ≡ w' → after r u ≡ answered v w s w' t
  unfolding answered
  store-done f m q h g = let (i, k, j) = stored_at n s t x u v p m q in rw i (ap₂ after (h ∙ ap (λ (a : ℕ). stored_step (f a)) k ∙ ap stored_step g) j)

-- ---- a field

counts-bytes : (opens : Bool) → integers_bytes (take (from_bool opens) (0 ∷ [])) ≡ count_of opens
unfolding integers_bytes
counts-bytes true = append-nil (digits 4 0)
counts-bytes false = refl

pub counts-few : (opens : Bool) (k : ℕ) → k ≡ from_bool opens → k ≤ 1
counts-few true k h = omega arith
counts-few false k h = omega arith

counts-long : (opens : Bool) → length (count_of opens) ≡ 4 * from_bool opens
counts-long true = length_digits 4 0
counts-long false = refl

module _ (w : Writer) (s : List ℕ) (first second : List ℕ) (opens : Bool) (from : Writer) (k : ℕ) (hk : k ≡ from_bool opens)
    (x : Result ℕ Refusal) (u : List ℕ) where
  abbrev field_of : List ℕ → Result ℕ Refusal × List ℕ
  field_of c =
      stored (room_for (from.at + length ((first ++ second) ++ c)) s)
      (from.at + length ((first ++ second) ++ c)) s (overwrite s from.at ((first ++ second) ++ c))

  module _ (p : (x, u) ≡ field_of (integers_bytes (take k (0 ∷ [])))) where
    stores : (x, u) ≡ field_of (count_of opens)
    stores = p ∙ ap (λ (i : ℕ). field_of (integers_bytes (take i (0 ∷ [])))) hk ∙ ap field_of (counts-bytes opens)

    pub settle-refused : (e : Refusal) → x ≡ Err e → (r : Step) → r ≡ refused_step w e → after r u ≡ settled w s (first ++ second) opens from
    settle-refused e q r h = store-refused _ _ w s _ x u stores _ r _ e q h

    -- the end m is past the count, which has four bytes
    pub settle-place : (m : ℕ) → x ≡ Ok m → 4 * k ≤ m
    settle-place m q =
        let (_, i, _) = stored_at _ s _ x u _ stores m q in
        omega (arith, i, length-append (first ++ second) (count_of opens), counts-long opens, hk)

    pub settle-done : (m : ℕ) → x ≡ Ok m → (r : Step)
        → r ≡ stored_step record { type_id = from.type_id; phase = from.phase; at = m; list = m - 4 * k; count = 0; last = 0 }
        → after r u ≡ settled w s (first ++ second) opens from
    settle-done m q r h =
        let n : ℕ = from.at + length ((first ++ second) ++ count_of opens) in
        let long : length ((first ++ second) ++ count_of opens) ≡ length (first ++ second) + length (count_of opens) =
        length-append (first ++ second) (count_of opens) in
        let i : n ≡ from.at + length (first ++ second) + length (count_of opens) = omega arith in
        let j : n - 4 * k ≡ from.at + length (first ++ second) = omega (arith, long, counts-long opens, hk) in
        store-done _ _ w s _ x u stores _ r
        (λ (a : ℕ). record { type_id = from.type_id; phase = from.phase; at = a; list = a - 4 * k; count = 0; last = 0 }) m q h
        (ap₂ (λ (a b : ℕ). record { type_id = from.type_id; phase = from.phase; at = a; list = b; count = 0; last = 0 }) i j)

pub segment-settled : (w : Writer) (s : List ℕ) (ys : List ℕ) (opens : Bool) → opens ≡ is_list (due_of (due (w.phase + 1) (plan_of w.type_id)))
    → (r : Step) (u : List ℕ)
    → after r u ≡ settled w s ys opens record { type_id = w.type_id; phase = w.phase + 1; at = w.at; list = 0; count = 0; last = 0 }
    → after r u ≡ segment_step w s ys (opens_next w)
segment-settled w s ys opens o r u h =
    h ∙ ap (λ (b : Bool). settled w s ys b (from (w.phase + 1))) o
    ∙ ap (λ (i : ℕ). settled w s ys (is_list (due_of (due i (plan_of w.type_id)))) (from i)) (add-one w.phase)
  where
    from : ℕ → Writer
    from i = record { type_id = w.type_id; phase = i; at = w.at; list = 0; count = 0; last = 0 }

-- ---- an element

-- what `sane` says
pub sane-inv : (w : Writer) → sane w ≡ true → (w.list + 4 ≤ w.at) × (w.count < 65536)
sane-inv w e =
    let (a, b) = both_true (leb (w.list + 4) w.at) _ e in
    let (_, c) = both_true (leb w.last w.at) (ltb w.count most_bytes) b in
    (leb-true (w.list + 4) w.at a, ltb-true w.count most_bytes c)

module _ (w : Writer) (s ys : List ℕ) (x : Result ℕ Refusal) (u : List ℕ)
    (p : (x, u) ≡ stored (room_for (w.at + length ys) s) (w.at + length ys) s (overwrite s w.at ys)) where
  pub element-refused : (e : Refusal) → x ≡ Err e → (r : Step) → r ≡ refused_step w e → after r u ≡ element_step w s ys
  element-refused e q r h = store-refused _ _ w s _ x u p _ r _ e q h

  pub element-done : sane w ≡ true → (m : ℕ) → x ≡ Ok m → (z : List ℕ) → z ≡ with_integer u w.list (w.count + 1) → (r : Step)
      → r ≡ stored_step record { type_id = w.type_id; phase = w.phase; at = m; list = w.list; count = w.count + 1; last = w.at }
      → after r z ≡ element_step w s ys
  unfolding answered grown appended
  element-done t m q z hz r h =
      let (a, b) = sane-inv w t in
      let (i, k, j) = stored_at (w.at + length ys) s (overwrite s w.at ys) x u (room_for (w.at + length ys) s) p m q in
      let (f, _) = room-inv (w.at + length ys) s i in
      let l : length u ≡ length s = ap length j ∙ length-overwrite s ys w.at f in
      rw i (ap₂ after (h ∙ ap
      (λ (n : ℕ). stored_step record { type_id = w.type_id; phase = w.phase; at = n; list = w.list; count = w.count + 1; last = w.at }) k)
      (hz ∙ integer-put u w.list (w.count + 1) (omega arith) (omega arith) ∙ ap (λ (y : List ℕ). overwrite y w.list (digits 4 (w.count + 1))) j))
