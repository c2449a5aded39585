-- What a piece and the end leave, by what the code has found. Assumes nothing.
use Rattle.std.specs.Prelude.{Err, Result, Option, None, Some}
use Rattle.transaction.specs.declared.Layout.{Layout}
use Prim.Native.Nat.{ℕ, ◌+◌, ◌≤◌, ◌<◌}
use mathlib.Core.Path.{◌≡◌, refl, sym, ap, ap₂, ◌∙◌}
use mathlib.Core.Bool.{Bool, true, false}
use mathlib.Core.List.{List}
use native.Mathlib.Omega.{arith}
use lib.Dec.{leb}
use lib.ListN.{length, take, length-append}
use lib.Seq.{length-take-le}
use borrow.Author.Tests.{le-leb, lt-leb, leb-true}
use Rattle.wire.specs.Bytes.{pick}
use Rattle.wire.specs.declared.Refusal.{Refusal}
use Rattle.wire.specs.Numbers.{refusal, no_room, too_long}
use Rattle.transaction.specs.Signed.{most_bytes}
use Rattle.transaction.specs.Signed as AnySigned
use Rattle.transaction.specs.Answer.{checked}
use Rattle.upload.specs.declared.Upload.{Upload}
use Rattle.upload.specs.Calls.{upload, shown, joined, kept, judged, verdict, grown, piece_call, end_call}

-- what a piece is answered is what stands
kept-answer : (x : Option Refusal) (n : ℕ) (p s : List ℕ) → (kept x n p s).0 ≡ x
unfolding kept
kept-answer None n p s = refl
kept-answer (Some e) n p s = refl

module _ (most : ℕ) where
  -- more than 65,536 bytes are refused as 1
  pub checked-long : (s : List ℕ) → most_bytes < length s → checked most s ≡ Err (refusal too_long 0)
  unfolding AnySigned.check
  checked-long s h = rw (lt-leb (length s) most_bytes h)

  module _ (n : ℕ) (p s : List ℕ) where
    -- ---- what the tests find

    pub verdict-room : length s < n + length p → verdict most n p s ≡ Some (refusal no_room 0)
    unfolding verdict
    verdict-room h = rw (lt-leb (n + length p) (length s) h)

    pub verdict-fits : n + length p ≤ length s → verdict most n p s ≡ shown (checked most (joined n p s))
    unfolding verdict
    verdict-fits h = rw (le-leb (n + length p) (length s) h)

    pub verdict-long : n + length p ≤ length s → most_bytes < n + length p → verdict most n p s ≡ Some (refusal too_long 0)
    unfolding shown
    verdict-long h k =
        verdict-fits h
        ∙ ap shown (checked-long (joined n p s) (omega (arith, length-append (take n s) p, length-take-le n s (omega arith))))

    -- need more is answered only if there is room
    pub room-there : verdict most n p s ≡ None → n + length p ≤ length s
    unfolding verdict
    room-there = go (leb (n + length p) (length s)) refl
      where
        go : (b : Bool) → leb (n + length p) (length s) ≡ b
            → pick b (shown (checked most (joined n p s))) (Some (refusal no_room 0)) ≡ None
            → n + length p ≤ length s
        go true q h = leb-true (n + length p) (length s) q
        go false q h = let z : ◌≡◌ {A = ℕ} 0 1 = cc in absurd (omega arith)

    -- ---- where no refusal stands

    pub any-room : length s < n + length p → (f : Refusal) → f ≡ refusal no_room 0 → (Some f, s) ≡ kept (verdict most n p s) n p s
    unfolding kept
    any-room h f q = rw (verdict-room h) (ap (λ (x : Refusal). (Some x, s)) q)

    pub any-long : n + length p ≤ length s → most_bytes < n + length p → (f : Refusal) → f ≡ refusal too_long 0
        → (Some f, s) ≡ kept (verdict most n p s) n p s
    unfolding kept
    any-long h k f q = rw (verdict-long h k) (ap (λ (x : Refusal). (Some x, s)) q)

    pub any-fits : n + length p ≤ length s → (r : Option Refusal) (t : List ℕ) → (r, t) ≡ judged most n p s → (r, t) ≡ kept (verdict most n p s) n p s
    unfolding judged
    any-fits h r t q = q ∙ ap (λ (x : Option Refusal). kept x n p s) (sym (verdict-fits h))

  -- ---- a piece

  module _ (u : Upload) (p s : List ℕ) where
    pub piece-stands : (e : Refusal) → u.standing ≡ Some e → (u, s) ≡ piece_call most u s p
    unfolding piece_call
    piece-stands e q = rw q

    module _ (q : u.standing ≡ None) (x : Option Refusal) (t : List ℕ)
        (h : (x, t) ≡ kept (verdict most u.stored p s) u.stored p s) where
      abbrev v : Option Refusal
      v = verdict most u.stored p s

      told : v ≡ x
      told = sym (ap (λ (z : Option Refusal × List ℕ). z.0) h ∙ kept-answer v u.stored p s)

      pub piece-judged : (r : Upload) → r ≡ grown x u.stored (length p) → (r, t) ≡ piece_call most u s p
      unfolding piece_call
      piece-judged r g =
          rw q (ap₂ (λ (y : Upload) (z : List ℕ). (y, z))
          (g ∙ ap (λ (y : Option Refusal). grown y u.stored (length p)) (sym told)) (ap (λ (z : Option Refusal × List ℕ). z.1) h))

      pub piece-room : x ≡ None → u.stored + length p ≤ length s
      piece-room i = room-there u.stored p s (told ∙ i)

      pub piece-more : x ≡ None → (upload (u.stored + length p) None, t) ≡ piece_call most u s p
      piece-more i = piece-judged (upload (u.stored + length p) None) (sym (ap (λ (y : Option Refusal). grown y u.stored (length p)) i))

      pub piece-refused : (e : Refusal) → x ≡ Some e → (upload u.stored (Some e), t) ≡ piece_call most u s p
      piece-refused e i = piece-judged (upload u.stored (Some e)) (sym (ap (λ (y : Option Refusal). grown y u.stored (length p)) i))

  -- ---- the end

  module _ (u : Upload) (s : List ℕ) where
    pub end-stands : (e : Refusal) → u.standing ≡ Some e → Err e ≡ end_call most u s
    unfolding end_call
    end-stands e q = rw q

    module _ (q : u.standing ≡ None) where
      pub end-beyond : length s < u.stored → (e : Refusal) → e ≡ refusal no_room 0 → Err e ≡ end_call most u s
      unfolding end_call
      end-beyond h e i = rw (q, lt-leb u.stored (length s) h) (ap Err i)

      pub end-checked : u.stored ≤ length s → (x : Result (Layout × ℕ) Refusal) → x ≡ checked most (take u.stored s) → x ≡ end_call most u s
      unfolding end_call
      end-checked h x i = rw (q, le-leb u.stored (length s) h) i

pub ruleset ending = (end-stands, end-beyond, end-checked)
