-- The tests of the code before it writes credentials: the bytes written are there, the unsigned part is read back, its credentials have room.
-- Assumes nothing.
use Rattle.std.specs.Prelude.{Ok, Err, Result}
use Prim.Native.Nat.{ℕ, zero, suc, ◌+◌, ◌≤◌, ◌<◌}
use mathlib.Core.Path.{◌≡◌, refl, sym, ap, ap₂, ◌∙◌, subst}
use mathlib.Core.Bool.{Bool, true, false}
use mathlib.Core.List.{List, [], ◌∷◌}
use native.Mathlib.Omega.{arith}
use lib.ListN.{length, take}
use lib.Seq.{length-take-le}
use lib.Dec.{ltb}
use borrow.Author.Tests.{ltb-true, ltb-false, lt-leb, eq-eqb, ne_eqb, le-leb}
use Rattle.wire.specs.Bytes.{Bytes, pick}
use Rattle.wire.specs.laws.Bytes.{bytes_take}
use Rattle.wire.specs.Numbers.{bytes_after_end, no_room, refusal}
use Rattle.wire.specs.Format.{took, read}
use Rattle.wire.specs.declared.Refusal.{Refusal}
use Rattle.wire.proofs.Bytes.{Slice, slice-bytes}
use Rattle.element.proofs.Reading.{answer-took}
use Rattle.transaction.specs.Signed.{most_bytes}
use Rattle.transaction.specs.Family.{Family, Unsigned, unsigned, wants}
use Rattle.transaction.specs.Avm.{avm}
use Rattle.transaction.specs.Answer.{layout}
use Rattle.transaction.specs.code.Answer.{unsigned_at}
use Rattle.transaction.specs.declared.Layout.{Layout}
use Rattle.transaction.proofs.Checking.{on-unsigned, on-unsigned-refused}
use Rattle.credentials.specs.code.Wanted.{Wants, first_wanting}
use Rattle.credentials.proofs.Besides.{credentials-stand, first-wants}
use Rattle.writer_rules.specs.Given.{given}
use Rattle.writer_rules.specs.Judged.{refused_by, judged}
use Rattle.writer_buffer.specs.Stores.{room_in, room_for, overwrite}
use Rattle.writer_buffer.specs.code.Stores.{stored, written}
use Rattle.writer_buffer.proofs.Stores.{room-fine, no_room_lem, too_many}
use Rattle.writer_buffer.specs.Closing.{blank_after, closing, closable}
use Rattle.writer_buffer.specs.code.Closing.{closing_bytes, fitted, most_in, closed, AllAhead, OfAll, RoomForAll}
use Rattle.writer_buffer.proofs.Blanks.{closing-long, fitted-next, fitted-refused}

-- ---- room

most-inside : (n : ℕ) → (most_in n ≤ n) × (most_in n ≤ most_bytes)
most-inside n = cases (ltb n most_bytes) refl
  where
    cases : (b : Bool) → ltb n most_bytes ≡ b → (pick b n most_bytes ≤ n) × (pick b n most_bytes ≤ most_bytes)
    cases true e = (omega arith, omega (arith, ltb-true n most_bytes e))
    cases false e = (omega (arith, ltb-false n most_bytes e), omega arith)

most-full : (k : ℕ) (s : List ℕ) → most_in (length s) < k → room_for k s ≡ refused_by no_room
unfolding room_for
most-full k s = cases (ltb (length s) most_bytes)
  where
    cases : (b : Bool) → pick b (length s) most_bytes < k → room_in k (length s) ≡ refused_by no_room
    cases true h = sym (no_room_lem k (length s) h)
    cases false h = sym (too_many k (length s) h)

-- ---- the credentials of a layout

module _ (l : Layout) (s : List ℕ) (at m : ℕ) (em : m ≡ most_in (length s)) (z : Result ℕ Refusal)
    (e : OfAll l (take at s) (λ ws. z ≡ fitted at (length (closing_bytes ws)) m)) where
  -- the answer and the buffer are those of closing with the credentials wanted
  abbrev Out : Result ℕ Refusal → List ℕ → Type 0
  Out r b = OfAll l (take at s) (λ ws. (r, b) ≡ closed s at ws)

  pub close-room : AllAhead l (take at s) → (n : ℕ) → z ≡ Ok n → RoomForAll l (take at s) at (length s)
  close-room a n f =
      let (i, k) = fitted-next z at (length (closing_bytes a.all)) m (e a.most a.all a.wants a.counts) n f in
      let (p, q) = most-inside (length s) in
      let long = closing-long a.all in
      record { ahead = a; after = omega arith; fits = omega arith; short = omega arith }

  pub close-done : (n : ℕ) → z ≡ Ok n → (b : List ℕ) → OfAll l (take at s) (λ ws. b ≡ overwrite s at (closing_bytes ws)) → Out (Ok n) b
  unfolding stored
  close-done n f b g most ws w c =
      let ys : List ℕ = closing_bytes ws in
      let (i, k) = fitted-next z at (length ys) m (e most ws w c) n f in
      let (p, q) = most-inside (length s) in
      ap₂ (λ (a : ℕ) (t : List ℕ). (Ok a, t)) i (g most ws w c)
      ∙ ap (λ (v : Result (Unit {0}) Refusal). written v s at ys) (sym (room-fine (at + length ys) s (omega arith) (omega arith)))

  pub close-full : (r : Refusal) → z ≡ Err r → Out (Err r) s
  unfolding stored
  close-full r f most ws w c =
      let ys : List ℕ = closing_bytes ws in
      let (i, k) = fitted-refused z at (length ys) m (e most ws w c) r f in
      ap (λ (r : Refusal). (Err r, s)) k
      ∙ ap (λ (v : Result (Unit {0}) Refusal). written v s at ys) (sym (most-full (at + length ys) s (omega arith)))

-- ---- the unsigned part, read back

slice_of : (s : List ℕ) → Bytes s → Slice s
slice_of [] b j = omega arith
slice_of (x ∷ s) b zero = omega (arith, b.0)
slice_of (x ∷ s) b (suc j) = slice_of s b.1 j

module _ (most : ℕ) (s : List ℕ) (at : ℕ) where
  abbrev F : Family
  F = avm most

  -- the answer and the buffer that follow from a verdict
  abbrev Ruled : Result (Unit {0}) Refusal → Result ℕ Refusal × List ℕ
  Ruled v = written v s at (closing F at s)

  pub close-short : length s < at → (Err (refusal no_room 0), s) ≡ Ruled (closable F at s)
  unfolding stored closable
  close-short h = rw (lt-leb at (length s) h)

  module _ (h : at ≤ length s) (x : Result Layout Refusal) (p : x ≡ unsigned_at most (take at s)) where
    -- the verdict on the unsigned part decides
    ruled : (v : Result (Unit {0}) Refusal) → judged (unsigned F) (given (take at s)) (room_for (at + length (closing F at s)) s) ≡ v
        → Ruled v ≡ Ruled (closable F at s)
    unfolding closable
    ruled v e = ap Ruled (sym (rw (le-leb at (length s) h) e))

    pub close-refused : (e : Refusal) → x ≡ Err e → (Err (refusal e.rule 0), s) ≡ Ruled (closable F at s)
    unfolding judged stored
    close-refused e q =
        ruled (refused_by e.rule) (sym (on-unsigned-refused most (take at s) (refused_by e.rule) (λ e. refused_by e.rule) _ x p e q refl))

    module _ (l : Layout) (q : x ≡ Ok l) (b : Slice s) where
      front : Slice (take at s)
      front = slice_of (take at s) (bytes_take at s (slice-bytes s b))

      pub close-after : (l.credentials_at ≡ at → ⊥) → (Err (refusal bytes_after_end 0), s) ≡ Ruled (closable F at s)
      unfolding judged stored
      close-after f =
          ruled (refused_by bytes_after_end)
          (sym
          (on-unsigned most (take at s) (refused_by bytes_after_end) (λ e. refused_by e.rule) _ x p l q (λ u n i t.
          let place : n ≡ l.credentials_at = credentials-stand most (take at s) u n l front t i in
          rw (ne_eqb n (length (take at s)) (λ g. f (sym place ∙ g ∙ length-take-le at s h))))))

      -- what was read, and the credentials that it wants
      record Known : Type 0 where
        u : Unsigned F
        stands : read (unsigned F) (take at s) 0 ≡ took u l.credentials_at
        asks : Wants most (take at s) l.type_id (first_wanting l) (wants F u)
        counts : length (wants F u) ≡ l.credentials_count

      known : Known
      unfolding wants
      known =
          let (u, n, t, i) =
          answer-took (unsigned F) (take at s) 0 Err (λ u n. Ok (layout most u)) x p (Ok l) q
          (λ e i. let z : ◌≡◌ {A = ℕ} 0 1 = cc in omega arith) in
          let el : l ≡ layout most u = cc in
          record {
            u = u;
            stands = t ∙ ap (took u) (credentials-stand most (take at s) u n l front t el);
            asks =
                subst (λ (w : Layout). Wants most (take at s) w.type_id (first_wanting w) (wants F u)) (sym el)
                (first-wants most (take at s) u n front t);
            counts = sym (ap (λ (w : Layout). w.credentials_count) el);
          }

      pub close-ahead : (at ≤ length s) × AllAhead l (take at s)
      close-ahead =
          let k = known in
          (h, record { most = most; all = wants F k.u; wants = k.asks; counts = k.counts })

      pub close-whole : l.credentials_at ≡ at → (r : Result ℕ Refusal) (t : List ℕ)
          → OfAll l (take at s) (λ ws. (r, t) ≡ closed s at ws) → (r, t) ≡ Ruled (closable F at s)
      unfolding judged closing
      close-whole f r t g =
          let k = known in
          let v : Result (Unit {0}) Refusal = room_for (at + length (closing F at s)) s in
          g most (wants F k.u) k.asks k.counts
          ∙ ap (λ (ys : List ℕ). written (room_for (at + length ys) s) s at ys) (sym (ap (blank_after F) k.stands))
          ∙ ruled v
          (sym
          (on-unsigned most (take at s) v (λ e. refused_by e.rule) _ x p l q (λ u n i t.
          let place : n ≡ l.credentials_at = credentials-stand most (take at s) u n l front t i in
          rw (eq-eqb n (length (take at s)) (place ∙ f ∙ sym (length-take-le at s h))))))
