-- What every call of an upload guarantees. Assumes nothing.
use Rattle.std.specs.Prelude.{Ok, Err, Result, Option, None, Some}
use Rattle.transaction.specs.declared.Layout.{Layout}
use Prim.Native.Nat.{ℕ, ◌+◌, ◌≤◌}
use mathlib.Core.Path.{◌≡◌, refl, sym, ap, ◌∙◌, subst, subst⁻¹}
use mathlib.Core.Logic.{inl, inr}
use mathlib.Core.Bool.{Bool, true, false}
use mathlib.Core.List.{List}
use native.Mathlib.Omega.{arith}
use lib.Dec.{leb}
use lib.ListN.{length, take}
use Rattle.wire.specs.Bytes.{pick}
use Rattle.wire.specs.declared.Refusal.{Refusal}
use Rattle.wire.specs.Numbers.{refusal, number_of, no_room}
use Rattle.wire.proofs.Numbers.{number-range}
use Rattle.wire.specs.Orders.{OneOf}
use Rattle.wire.proofs.Refusing.{one_of, contained}
use Rattle.transaction.specs.Avm.{avm}
use Rattle.transaction.specs.Answer.{checked, checked_number}
use Rattle.transaction.proofs.Refusing.{check-numbers}
use Rattle.transaction.proofs.Refusing as Check
use Rattle.transaction.proofs.Verdicts.{refused-check}
use Rattle.upload.specs.declared.Upload.{Upload}
use Rattle.upload.specs.Calls.{upload, standing_number, shown, joined, kept, verdict, grown, on_standing, piece_call, end_call}
use Rattle.upload.proofs.Laying.{shown-refused, length-laid, take-laid, drop-laid}
use Rattle.upload.proofs.Calling.{verdict-room, verdict-fits, room-there, piece-stands, end-stands, end-beyond, end-checked}
use Rattle.upload_theorems.specs.Answers.{piece_numbers, end_numbers, Usual, PieceOwes, PieceDecides, EndDecides, UploadOwes}
use Rattle.upload.proofs.Showing.{not-both, shown-0, shown-2, shown-inv, piece_is, answer-is}

module _ (most : ℕ) where
  -- the number of a refusal of the check
  check-listed : (s : List ℕ) (e : Refusal) → checked most s ≡ Err e → OneOf (number_of e) piece_numbers
  check-listed s e q = contained piece_numbers Check.check_numbers refl (number_of e) (check-numbers (avm most) s e (refused-check most s e (sym q)))

  verdict-listed : (n : ℕ) (p s : List ℕ) (e : Refusal) → verdict most n p s ≡ Some e → OneOf (number_of e) piece_numbers
  unfolding verdict
  verdict-listed n p s e = go (leb (n + length p) (length s))
    where
      go : (b : Bool) → pick b (shown (checked most (joined n p s))) (Some (refusal no_room 0)) ≡ Some e → OneOf (number_of e) piece_numbers
      go true q = check-listed (joined n p s) e (shown-inv (checked most (joined n p s)) e q).0
      go false q = let z : refusal no_room 0 ≡ e = cc in
          subst (λ (d : Refusal). OneOf (number_of d) piece_numbers) z (one_of piece_numbers 14 refl)

  -- ---- a piece

  module _ (u : Upload) (s p : List ℕ) where
    judged-owes : u.standing ≡ None → (x : Option Refusal) → verdict most u.stored p s ≡ x
        → PieceOwes u s p (grown x u.stored (length p), (kept x u.stored p s).1)
    unfolding kept
    judged-owes q None v =
        let room : u.stored + length p ≤ length s = room-there most u.stored p s v in
        record {
          number = λ h. inr (inl refl);
          table = (omega arith, omega arith);
          refused = λ e i. not-both None e refl i;
          more = λ i. (refl, take-laid s p u.stored room (u.stored + length p) refl, drop-laid s p u.stored room);
          stood = λ e i. not-both u.standing e q i;
          length-kept = length-laid s p u.stored room;
        }
    judged-owes q (Some e) v =
        record {
          number = λ h. verdict-listed u.stored p s e v;
          table = number-range e.rule;
          refused = λ d i. (refl, refl);
          more = λ i. not-both (Some e) e i refl;
          stood = λ d i. not-both u.standing d q i;
          length-kept = refl;
        }

    stood-owes : (e : Refusal) → u.standing ≡ Some e → PieceOwes u s p (u, s)
    stood-owes e q =
        record {
          number = λ h. h;
          table = subst⁻¹ (λ (x : Option Refusal). (1 ≤ standing_number x) × (standing_number x ≤ 21)) q (number-range e.rule);
          refused = λ d i. (refl, refl);
          more = λ i. not-both u.standing e i q;
          stood = λ d i. refl;
          length-kept = refl;
        }

    piece-owes : PieceOwes u s p (piece_call most u s p)
    piece-owes = go u.standing refl
      where
        go : (x : Option Refusal) → u.standing ≡ x → PieceOwes u s p (piece_call most u s p)
        go None q = subst⁻¹ (PieceOwes u s p) (piece_is most u s p q) (judged-owes q (verdict most u.stored p s) refl)
        go (Some e) q = subst (PieceOwes u s p) (piece-stands most u p s e q) (stood-owes e q)

  piece-decides : PieceDecides most
  unfolding kept
  piece-decides =
      record {
        no_room = λ n s p h. piece_is most (upload n None) s p refl
            ∙ ap (λ (x : Option Refusal). (grown x n (length p), (kept x n p s).1)) (verdict-room most n p s h);
        answered = λ n s p h. answer-is most (upload n None) s p refl ∙ verdict-fits most n p s h;
        accepted = λ s. shown-0 (checked most s);
        cut_short = λ s. shown-2 (checked most s);
        refused = λ s e q ne. sym (shown-refused (checked most s) e q ne);
      }

  -- ---- the end

  end-decides : EndDecides most
  end-decides =
      record {
        answered = λ n s h. sym (end-checked most (upload n None) s refl h (checked most (take n s)) refl);
        stood = λ n s e. sym (end-stands most (upload n (Some e)) s e refl);
        beyond = λ n s h. sym (end-beyond most (upload n None) s refl h (refusal no_room 0) refl);
      }

  checked-listed : (s : List ℕ) → OneOf (checked_number (checked most s)) end_numbers
  checked-listed s = go (checked most s) refl
    where
      go : (x : Result (Layout × ℕ) Refusal) → checked most s ≡ x → OneOf (checked_number x) end_numbers
      go (Ok (w, n)) q = inl refl
      go (Err e) q = inr (check-listed s e q)

  end-number : (u : Upload) (s : List ℕ) → Usual u → OneOf (checked_number (end_call most u s)) end_numbers
  unfolding end_call
  end-number u s h = go u.standing h
    where
      room : (b : Bool) → OneOf (checked_number (pick b (checked most (take u.stored s)) (Err (refusal no_room 0)))) end_numbers
      room true = checked-listed (take u.stored s)
      room false = one_of end_numbers 14 refl

      go : (x : Option Refusal) → OneOf (standing_number x) piece_numbers
          → OneOf (checked_number (on_standing x
          (pick (leb u.stored (length s)) (checked most (take u.stored s)) (Err (refusal no_room 0))) Err))
          end_numbers
      go None h = room (leb u.stored (length s))
      go (Some e) h = inr h

  end-table : (u : Upload) (s : List ℕ) → checked_number (end_call most u s) ≤ 21
  end-table u s = go (end_call most u s)
    where
      go : (x : Result (Layout × ℕ) Refusal) → checked_number x ≤ 21
      go (Ok (w, n)) = omega arith
      go (Err e) = (number-range e.rule).1

  pub upload-owes : UploadOwes most
  upload-owes =
      record { piece = piece-owes; end-number = end-number; end-table = end-table; piece-decides = piece-decides; end-decides = end-decides }
