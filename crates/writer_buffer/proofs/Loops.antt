-- The loops over what is wanted: one measures the room that the blank credentials need, one writes them. Assumes nothing.
use Rattle.std.specs.Prelude.{Option, None, Some, Ok, Err, Result}
use Prim.Native.Nat.{ℕ, ◌+◌, ◌-◌, ◌^◌, ◌≤◌, ◌<◌}
use mathlib.Core.Path.{◌≡◌, refl, sym, ap, ap₂, ◌∙◌, subst, subst₂}
use mathlib.Core.List.{List, [], ◌∷◌, ◌++◌}
use native.Mathlib.Omega.{arith}
use lib.ListN.{length, take, length-append}
use Rattle.wire.specs.Bytes.{digits}
use Rattle.wire.specs.laws.Bytes.{length_digits}
use Rattle.wire.specs.Numbers.{refusal, no_room}
use Rattle.wire.specs.declared.Refusal.{Refusal}
use Rattle.transaction.specs.Slots.{signature_width}
use Rattle.transaction.specs.declared.Layout.{Layout}
use Rattle.transaction.specs.Credentials.{Want}
use Rattle.credentials.specs.declared.Wanting.{Wanting}
use Rattle.credentials.specs.declared.Wanted.{Wanted}
use Rattle.credentials.specs.code.Wanted.{Wants, First, Nexts, NextWants, first_wanting}
use Rattle.writer_buffer.specs.Stores.{overwrite}
use Rattle.writer_buffer.specs.code.Stores.{with_integer}
use Rattle.writer_buffer.proofs.Stores.{length-overwrite, overwrite-none, overwrite-more, front-stays, integer-put}
use Rattle.writer_buffer.specs.code.Closing.{blank_credential, credential_width, blank_bytes, closing_bytes, fitted, OfAhead, Room, OfAll, RoomForAll}
use Rattle.writer_buffer.proofs.Blanks.{length-blank, type-small, none-blank, one_more, blank-long, count-first, closing-long}
use Rattle.writer_buffer.proofs.Blanks.{fitted-room, fitted-full, fitted-on, fitted-off}

-- ---- no credential is wanted, or one and then the others

of-first : (most : ℕ) (s : List ℕ) (type_id t k : ℕ) (d : Wanting) (ws : List Want) (f : First most s t k (Wants most s type_id d) ws)
    → blank_bytes ws ≡ blank_credential t k ++ blank_bytes f.others
of-first most s type_id t k d ws f =
    ap blank_bytes f.all
    ∙ one_more f.want f.others
    ∙ ap₂ (λ (i j : ℕ). blank_credential i j ++ blank_bytes f.others) (sym f.type) (sym f.signatures)

pub of_none : (type_id : ℕ) (s : List ℕ) (c : Wanting) (n : ℕ) (P : List Want → Type 0) → n ≤ 0 → P [] → OfAhead type_id s c n P
of_none type_id s c n P h p most [] w e = p
of_none type_id s c n P h p most (d ∷ ws) w e = absurd (omega arith)

module _ (s : List ℕ) (type_id : ℕ) (c : Wanting) (n : ℕ) (x : Option Wanted) (h : NextWants type_id s c x) where
  pub of_end : (P : List Want → Type 0) → 0 < n → x ≡ None → OfAhead type_id s c n P
  of_end P o q most ws w e =
      let none : ws ≡ [] = subst (λ (x : Option Wanted). Nexts most s type_id ws x) q (h most ws w) in
      absurd (omega (arith, ap length none))

  -- after it, `rest` credentials are left
  module _ (v : Wanted) (q : x ≡ Some v) (rest : ℕ) (fewer : rest ≡ n - 1) where
    first : (most : ℕ) (ws : List Want) → Wants most s type_id c ws → First most s v.credential v.signatures (Wants most s type_id v.next) ws
    first most ws w = subst (λ (x : Option Wanted). Nexts most s type_id ws x) q (h most ws w)

    of-next : (P : List ℕ → Type 0) → OfAhead type_id s v.next rest (λ ws. P (blank_credential v.credential v.signatures ++ blank_bytes ws))
        → OfAhead type_id s c n (λ ws. P (blank_bytes ws))
    of-next P g most ws w e =
        let f = first most ws w in
        subst P (sym (of-first most s type_id v.credential v.signatures v.next ws f)) (g most f.others f.after (omega (arith, ap length f.all)))

    -- ---- the end of the blank credentials: the end of those that are left, measured from here, is the end of all

    module _ (at limit : ℕ) (z : Result ℕ Refusal) (g : z ≡ fitted at (credential_width v.signatures) limit) where
      more : (ws : List Want) → credential_width v.signatures + length (blank_bytes ws) ≡ length (blank_credential v.credential v.signatures ++ blank_bytes ws)
      more ws = omega (arith, length-append (blank_credential v.credential v.signatures) (blank_bytes ws), length-blank v.credential v.signatures)

      pub end-full : (e : Refusal) → z ≡ Err e → (r : Result ℕ Refusal) → r ≡ Err e
          → OfAhead type_id s c n (λ ws. r ≡ fitted at (length (blank_bytes ws)) limit)
      end-full e i r j =
          of-next (λ (ys : List ℕ). r ≡ fitted at (length ys) limit) (λ most ws w l.
          j ∙ fitted-off z at (credential_width v.signatures) limit g e (length (blank_bytes ws)) i ∙ ap (λ (j : ℕ). fitted at j limit) (more ws))

      pub end_on : (r : Result ℕ Refusal) (m : ℕ) → z ≡ Ok m → OfAhead type_id s v.next rest (λ ws. r ≡ fitted m (length (blank_bytes ws)) limit)
          → OfAhead type_id s c n (λ ws. r ≡ fitted at (length (blank_bytes ws)) limit)
      end_on r m i b =
          of-next (λ (ys : List ℕ). r ≡ fitted at (length ys) limit) (λ most ws w l.
          b most ws w l ∙ fitted-on z at (credential_width v.signatures) limit g m (length (blank_bytes ws)) i ∙ ap (λ (j : ℕ). fitted at j limit) (more ws))

    -- ---- room for the first credential, and for the others

    module _ (end at size : ℕ) (R : Room type_id s c n end at size) where
      here : First R.ahead.most s v.credential v.signatures (Wants R.ahead.most s type_id v.next) R.ahead.all
      here = first R.ahead.most R.ahead.all R.ahead.wants

      longer : length (blank_bytes R.ahead.all) ≡ credential_width v.signatures + length (blank_bytes here.others)
      longer =
          omega (
            arith,
            ap length (of-first R.ahead.most s type_id v.credential v.signatures v.next R.ahead.all here),
            length-append (blank_credential v.credential v.signatures) (blank_bytes here.others),
            length-blank v.credential v.signatures,
          )

      room-first : (v.credential < 256 ^ 4) × (v.signatures < 256 ^ 4) × (at + credential_width v.signatures ≤ size)
      unfolding signature_width
      room-first = (
        subst (λ (i : ℕ). i < 256 ^ 4) (sym here.type) (type-small here.want.type),
        omega (arith, R.short, longer),
        omega (arith, R.fits, longer),
      )

      room_next : Room type_id s v.next rest end (at + credential_width v.signatures) size
      room_next =
          record {
            ahead =
                record {
                  most = R.ahead.most;
                  all = here.others;
                  wants = here.after;
                  counts = omega (arith, ap length here.all, R.ahead.counts);
                };
            after = omega (arith, R.after);
            fits = omega (arith, R.fits, longer);
            short = omega (arith, R.short, longer);
          }

pub end_none : (type_id : ℕ) (s : List ℕ) (c : Wanting) (n at limit : ℕ) → n ≤ 0 → at ≤ limit
    → OfAhead type_id s c n (λ ws. Ok at ≡ fitted at (length (blank_bytes ws)) limit)
end_none type_id s c n at limit h k =
    of_none type_id s c n (λ ws. Ok at ≡ fitted at (length (blank_bytes ws)) limit) h
    (fitted-room at (length (blank_bytes [])) limit at (omega (arith, ap length none-blank)) k)

-- ---- writing them from the buffer b into s: writing those that are left completes the writing of all, and the bytes that want them do not change

pub record Writing (b : List ℕ) (end type_id : ℕ) (from : Wanting) (count start : ℕ) (s : List ℕ) (c : Wanting) (owed at : ℕ) : Type 0 where
  pub whole : (r : List ℕ) → OfAhead type_id (take end b) c owed (λ ws. r ≡ overwrite s at (blank_bytes ws))
      → OfAhead type_id (take end b) from count (λ ws. r ≡ overwrite b start (blank_bytes ws))
  pub front : take end s ≡ take end b
  pub same : length s ≡ length b
  pub room : Room type_id (take end b) c owed end at (length b)

module _ {b : List ℕ} {end type_id : ℕ} {from : Wanting} {count start : ℕ} where
  pub writing_begins : Room type_id (take end b) from count end start (length b) → (n : ℕ) → count ≡ n → Writing b end type_id from count start b from n start
  writing_begins R n e =
      subst (λ (n : ℕ). Writing b end type_id from count start b from n start) e record { whole = λ r h. h; front = refl; same = refl; room = R }

  module _ {s : List ℕ} {c : Wanting} {owed at : ℕ} (w : Writing b end type_id from count start s c owed at) where
    pub writing-front : end ≤ length s
    writing-front = omega (arith, w.same, w.room.after, w.room.fits)

    pub writing-none : owed ≤ 0 → OfAhead type_id (take end b) from count (λ ws. s ≡ overwrite b start (blank_bytes ws))
    writing-none h =
        w.whole s
        (of_none type_id (take end b) c owed (λ ws. s ≡ overwrite s at (blank_bytes ws)) h (sym (ap (overwrite s at) none-blank ∙ overwrite-none s at)))

    module _ (x : Option Wanted) (h : NextWants type_id (take end s) c x) where
      there : NextWants type_id (take end b) c x
      there = subst (λ (f : List ℕ). NextWants type_id f c x) w.front h

      pub writing-end : 0 < owed → x ≡ None → OfAhead type_id (take end b) from count (λ ws. s ≡ overwrite b start (blank_bytes ws))
      writing-end o q = w.whole s (of_end (take end b) type_id c owed x there (λ ws. s ≡ overwrite s at (blank_bytes ws)) o q)

      module _ (v : Wanted) (q : x ≡ Some v) (rest : ℕ) (fewer : rest ≡ owed - 1) where
        pub writing-room : (v.credential < 256 ^ 4) × (v.signatures < 256 ^ 4) × (at + credential_width v.signatures ≤ length s)
        writing-room =
            let (type, count, fits) = room-first (take end b) type_id c owed x there v q rest fewer end at (length b) w.room in
            (type, count, omega (arith, w.same))

        pub writing-on : (a : List ℕ) (j : ℕ) → a ≡ overwrite s at (blank_credential v.credential v.signatures) → j ≡ at + credential_width v.signatures
            → Writing b end type_id from count start a v.next rest j
        writing-on a j e i =
            let (_, _, fits) = writing-room in
            let long = length-blank v.credential v.signatures in
            record {
              whole =
                  λ r g.
                  w.whole r
                  (of-next (take end b) type_id c owed x there v q rest fewer (λ (ys : List ℕ). r ≡ overwrite s at ys) (λ most ws y l.
                  g most ws y l
                  ∙ ap (λ (u : List ℕ). overwrite u j (blank_bytes ws)) e
                  ∙ overwrite-more s at (blank_credential v.credential v.signatures) (blank_bytes ws) j (omega arith) (omega arith)));
              front = ap (take end) e ∙ front-stays s at (blank_credential v.credential v.signatures) end w.room.after (omega arith) ∙ w.front;
              same = ap length e ∙ length-overwrite s (blank_credential v.credential v.signatures) at (omega arith) ∙ w.same;
              room =
                  subst (λ (j : ℕ). Room type_id (take end b) v.next rest end j (length b)) (sym i)
                  (room_next (take end b) type_id c owed x there v q rest fewer end at (length b) w.room);
            }

-- ---- all blank credentials, after their count

module _ (l : Layout) (s : List ℕ) (at : ℕ) (c : Wanting) (first : c ≡ first_wanting l) where
  -- the offset just past all of them
  pub closing-on : (limit : ℕ) (y : Result ℕ Refusal) → OfAhead l.type_id s c l.credentials_count (λ ws. y ≡ fitted (at + 4) (length (blank_bytes ws)) limit)
      → OfAll l s (λ ws. y ≡ fitted at (length (closing_bytes ws)) limit)
  unfolding fitted
  closing-on limit y g most ws w e =
      let i : at + 4 + length (blank_bytes ws) ≡ at + length (closing_bytes ws) = omega (arith, closing-long ws) in
      g most ws (subst (λ (c : Wanting). Wants most s l.type_id c ws) (sym first) w) e ∙ rw i

pub closing-full : (l : Layout) (s : List ℕ) (at limit : ℕ) → limit < at + 4 → (f : Refusal) → f ≡ refusal no_room 0
    → OfAll l s (λ ws. Err f ≡ fitted at (length (closing_bytes ws)) limit)
closing-full l s at limit h f g most ws w e = ap Err g ∙ fitted-full at (length (closing_bytes ws)) limit (omega (arith, closing-long ws))

-- writing the count and the credentials
module _ (l : Layout) (s : List ℕ) (at : ℕ) (R : RoomForAll l (take at s) at (length s)) where
  count_small : l.credentials_count < 256 ^ 4
  count_small = omega (arith, R.short, R.ahead.counts, blank-long R.ahead.all)

  count_room : at + 4 ≤ length s
  count_room = omega (arith, R.fits)

  module _ (a : List ℕ) (ha : a ≡ with_integer s at l.credentials_count) (c : Wanting) (first : c ≡ first_wanting l) where
    counted : a ≡ overwrite s at (digits 4 l.credentials_count)
    counted = ha ∙ integer-put s at l.credentials_count count_room count_small

    same-front : take at a ≡ take at s
    same-front = ap (take at) counted ∙ front-stays s at (digits 4 l.credentials_count) at (omega arith) (omega (arith, count_room))

    same-long : length a ≡ length s
    same-long =
        ap length counted
        ∙ length-overwrite s (digits 4 l.credentials_count) at (omega (arith, count_room, length_digits 4 l.credentials_count))

    pub closing-room : Room l.type_id (take at a) c l.credentials_count at (at + 4) (length a)
    closing-room =
        subst₂ (λ (f : List ℕ) (k : ℕ). Room l.type_id f c l.credentials_count at (at + 4) k) (sym same-front) (sym same-long)
        (subst (λ (c : Wanting). Room l.type_id (take at s) c l.credentials_count at (at + 4) (length s)) (sym first) R)

    pub closing-written : (r : List ℕ) → OfAhead l.type_id (take at a) c l.credentials_count (λ ws. r ≡ overwrite a (at + 4) (blank_bytes ws))
        → OfAll l (take at s) (λ ws. r ≡ overwrite s at (closing_bytes ws))
    closing-written r g most ws w e =
        let x : List ℕ = digits 4 l.credentials_count in
        g most ws (subst₂ (λ (f : List ℕ) (c : Wanting). Wants most f l.type_id c ws) (sym same-front) (sym first) w) e
        ∙ ap (λ (u : List ℕ). overwrite u (at + 4) (blank_bytes ws)) counted
        ∙ overwrite-more s at x (blank_bytes ws) (at + 4) (omega (arith, length_digits 4 l.credentials_count)) (omega (arith, count_room))
        ∙ ap (λ (n : ℕ). overwrite s at (digits 4 n ++ blank_bytes ws)) (sym e)
        ∙ ap (overwrite s at) (sym (count-first ws))
