-- The places of an upload's answers are small, so each answer can be unpacked again, and each state. Assumes nothing.
use Rattle.std.specs.Prelude.{Ok, Err, Result, Option, None, Some}
use Rattle.transaction.specs.declared.Layout.{Layout}
use Prim.Native.Nat.{ℕ, ◌+◌, ◌*◌, ◌/◌, ◌%◌, ◌^◌, ◌≤◌, ◌<◌}
use mathlib.Core.Path.{◌≡◌, refl, sym, ap, subst, subst⁻¹}
use mathlib.Core.Bool.{Bool, true, false}
use mathlib.Core.List.{List}
use native.Mathlib.Omega.{arith}
use lib.Arith.{digits_div, digits_mod}
use lib.Dec.{leb, eqb}
use lib.ListN.{length, take, get_or}
use borrow.Author.Tests.{ne_eqb}
use Rattle.wire.specs.Bytes.{Bytes, pick}
use Rattle.wire.specs.laws.Bytes.{bytes_take, bytes-append}
use Rattle.wire.specs.declared.Rule.{Rule}
use Rattle.wire.specs.declared.Rule.TheVariants as R
use Rattle.wire.specs.declared.Refusal.{Refusal}
use Rattle.wire.specs.Numbers.{refusal, rule_number, number_of, no_room}
use Rattle.wire.proofs.Numbers.{number-range}
use Rattle.transaction.specs.Avm.{avm}
use Rattle.transaction.specs.Answer.{memo_most, checked, checked_number, checked_place}
use Rattle.transaction.proofs.Codec.{codec}
use Rattle.transaction.proofs.Verdicts.{checked-place, checked-accepted, refused-check}
use Rattle.upload.specs.declared.Upload.{Upload}
use Rattle.upload.specs.Calls.{upload, standing_number, standing_place, shown, joined, verdict, on_standing, piece_call, end_call}
use Rattle.upload.proofs.Calling.{piece-stands}
use Rattle.upload.proofs.Showing.{shown-inv, answer-is}
use Rattle.draft.specs.Packing.{TakenApart}
use Rattle.operator.specs.Uploads.{rule_at, upload_of, refusal_word, standing_word, numbers_of, piece_word, end_word, UploadWords}

word-apart : (n p : ℕ) → n ≤ 21 → p < 4294967296 → TakenApart (n * 4294967296 + p % 4294967296) n p
word-apart n p h k =
    let small : p % 4294967296 ≡ p = omega arith in
    let less : p < 2 ^ 32 = omega arith in
    subst⁻¹ (λ (i : ℕ). TakenApart (n * 4294967296 + i) n p) small
    record { fits = omega arith; number = digits_div n less; place = digits_mod n less }

-- ---- what stands is read as it was

abbrev Kept : Option Refusal → Type 0
Kept None = Unit {0}
Kept (Some e) = (e.place < 4294967296) × (rule_at (number_of e) ≡ e.rule)

module _ (P : Rule → Type 0) where
  either : (b : Bool) (x y : Rule) → P x → P y → P (pick b x y)
  either true x y p q = p
  either false x y p q = q

-- the rules that a number is read as
by-rules : (P : Rule → Type 0) → P R.TooLong → P R.WrongCodec → P R.UnknownType → P R.ZeroAmount → P R.OutOfOrder → P R.BadThreshold → P R.BadLength
    → P R.NotPrintable → P R.BadDenomination → P R.EmptyList → P R.WrongCount → P R.BytesAfterEnd → P R.NoRoom → (n : ℕ) → P (rule_at n)
unfolding rule_at
by-rules P p1 p3 p4 p5 p6 p7 p8 p9 p10 p11 p12 p13 p14 n =
    either P (eqb n 1) _ _ p1
    (either P (eqb n 3) _ _ p3
    (either P (eqb n 4) _ _ p4
    (either P (eqb n 5) _ _ p5
    (either P (eqb n 6) _ _ p6
    (either P (eqb n 7) _ _ p7
    (either P (eqb n 8) _ _ p8
    (either P (eqb n 9) _ _ p9
    (either P (eqb n 10) _ _ p10
    (either P (eqb n 11) _ _ p11
    (either P (eqb n 12) _ _ p12
    (either P (eqb n 13) _ _ p13 p14)))))))))))

rule-back : (n : ℕ) → rule_at (rule_number (rule_at n)) ≡ rule_at n
unfolding rule_at
rule-back = by-rules (λ x. rule_at (rule_number x) ≡ x) refl refl refl refl refl refl refl refl refl refl refl refl refl

-- the rules of the check but 2
check-back : (x : Rule) → rule_number x ≤ 13 → (rule_number x ≡ 2 → ⊥) → rule_at (rule_number x) ≡ x
unfolding rule_at
check-back R.TooLong h ne = refl
check-back R.CutShort h ne = absurd (ne refl)
check-back R.WrongCodec h ne = refl
check-back R.UnknownType h ne = refl
check-back R.ZeroAmount h ne = refl
check-back R.OutOfOrder h ne = refl
check-back R.BadThreshold h ne = refl
check-back R.BadLength h ne = refl
check-back R.NotPrintable h ne = refl
check-back R.BadDenomination h ne = refl
check-back R.EmptyList h ne = refl
check-back R.WrongCount h ne = refl
check-back R.BytesAfterEnd h ne = refl
check-back R.NoRoom h ne = refl
check-back R.NoEntry h ne = absurd (omega arith)
check-back R.StepNotDue h ne = absurd (omega arith)
check-back R.FirstNotAccepted h ne = absurd (omega arith)
check-back R.SecondNotAccepted h ne = absurd (omega arith)
check-back R.DraftsDiffer h ne = absurd (omega arith)
check-back R.Conflict h ne = absurd (omega arith)
check-back R.NotASignature h ne = absurd (omega arith)

no-room-kept : Kept (Some (refusal no_room 0))
unfolding rule_at
no-room-kept = (omega arith, refl)

state-kept : (n : List ℕ) → Kept (upload_of n).standing
unfolding upload_of
state-kept n = go (eqb (get_or n 1 0 / 4294967296) 0)
  where
    go : (b : Bool)
        → Kept (pick b None (Some (refusal (rule_at (get_or n 1 0 / 4294967296)) (get_or n 1 0 % 4294967296))))
    go true = tt
    go false = (omega arith, rule-back (get_or n 1 0 / 4294967296))

module _ (most : ℕ) where
  verdict-kept : (k : ℕ) (p s : List ℕ) → Bytes s → Bytes p → (x : Option Refusal) → verdict most k p s ≡ x → Kept x
  unfolding verdict
  verdict-kept k p s bs bp None q = tt
  verdict-kept k p s bs bp (Some e) q = room (leb (k + length p) (length s)) q
    where
      room : (b : Bool) → pick b (shown (checked most (joined k p s))) (Some (refusal no_room 0)) ≡ Some e → Kept (Some e)
      room true i =
          let (r, ne) = shown-inv (checked most (joined k p s)) e i in
          let b : Bytes (joined k p s) = bytes-append (take k s) p (bytes_take k s bs) bp in (
            omega (arith, checked-place most (joined k p s) e b (sym r)),
            check-back e.rule ((codec (avm most)).refused-by (joined k p s) e (refused-check most (joined k p s) e (sym r))).1 ne,
          )
      room false i = let z : refusal no_room 0 ≡ e = cc in subst (λ (d : Refusal). Kept (Some d)) z no-room-kept

  piece-kept : (u : Upload) (s p : List ℕ) → Kept u.standing → Bytes s → Bytes p → Kept (piece_call most u s p).0.standing
  piece-kept u s p h bs bp = go u.standing refl
    where
      go : (x : Option Refusal) → u.standing ≡ x → Kept (piece_call most u s p).0.standing
      go None q = verdict-kept u.stored p s bs bp _ (sym (answer-is most u s p q))
      go (Some e) q = subst Kept (ap (λ (a : Upload × List ℕ). a.0.standing) (piece-stands most u p s e q)) h

  checked-apart : (s : List ℕ) → Bytes s → (x : Result (Layout × ℕ) Refusal) → checked most s ≡ x → TakenApart (end_word x) (checked_number x) (checked_place x)
  unfolding end_word
  checked-apart s b (Ok (w, n)) q =
      let (v, e, i) = checked-accepted most s w n (sym q) in
      let (r, m) = (codec (avm most)).write-after-read s v n b e in
      word-apart 0 n (omega arith) (omega (arith, r.short))
  checked-apart s b (Err e) q = word-apart (number_of e) e.place (number-range e.rule).1 (omega (arith, checked-place most s e b (sym q)))

  end-apart : (u : Upload) (s : List ℕ) → Kept u.standing → Bytes s
      → let x = end_call most u s in TakenApart (end_word x) (checked_number x) (checked_place x)
  unfolding end_call end_word
  end-apart u s h bs = go u.standing h
    where
      room : (b : Bool) → let x = pick b (checked most (take u.stored s)) (Err (refusal no_room 0)) in
          TakenApart (end_word x) (checked_number x) (checked_place x)
      room true = checked-apart (take u.stored s) (bytes_take u.stored s bs) (checked most (take u.stored s)) refl
      room false = word-apart 14 0 (omega arith) (omega arith)

      go : (x : Option Refusal) → Kept x
          → let y = on_standing x (pick (leb u.stored (length s)) (checked most (take u.stored s)) (Err (refusal no_room 0))) Err in
          TakenApart (end_word y) (checked_number y) (checked_place y)
      go None h = room (leb u.stored (length s))
      go (Some e) h = word-apart (number_of e) e.place (number-range e.rule).1 h.0

piece-apart : (x : Option Refusal) → Kept x → TakenApart (piece_word x) (standing_number x) (standing_place x)
unfolding piece_word
piece-apart None h = word-apart 2 0 (omega arith) (omega arith)
piece-apart (Some e) h = word-apart (number_of e) e.place (number-range e.rule).1 h.0

read_back : (k : ℕ) (x : Option Refusal) → Kept x → upload_of (numbers_of (upload k x)) ≡ upload k x
unfolding upload_of standing_word refusal_word
read_back k None h = refl
read_back k (Some e) h =
    let a = word-apart (number_of e) e.place (number-range e.rule).1 h.0 in
    let n : refusal_word e / 4294967296 ≡ number_of e = a.number in
    let p : refusal_word e % 4294967296 ≡ e.place = a.place in
    rw (n, p, ne_eqb (number_of e) 0 (λ z. absurd (omega (arith, (number-range e.rule).0))), h.1)

stands-listed : (n : List ℕ) → let k = standing_number (upload_of n).standing in (1 ≤ k) × (k ≤ 14)
unfolding upload_of
stands-listed n = go (eqb (get_or n 1 0 / 4294967296) 0)
  where
    go : (b : Bool) → let x = pick b None (Some (refusal (rule_at (get_or n 1 0 / 4294967296)) (get_or n 1 0 % 4294967296))) in
        (1 ≤ standing_number x) × (standing_number x ≤ 14)
    go true = (omega arith, omega arith)
    go false =
        by-rules (λ x. (1 ≤ rule_number x) × (rule_number x ≤ 14)) (omega arith, omega arith) (omega arith, omega arith) (omega arith, omega arith)
        (omega arith, omega arith) (omega arith, omega arith) (omega arith, omega arith) (omega arith, omega arith) (omega arith, omega arith)
        (omega arith, omega arith) (omega arith, omega arith) (omega arith, omega arith) (omega arith, omega arith) (omega arith, omega arith)
        (get_or n 1 0 / 4294967296)

pub upload-words : UploadWords
unfolding upload_of
upload-words =
    record {
      fresh = refl;
      state = λ n s p bs bp. let u = (piece_call memo_most (upload_of n) s p).0 in
          read_back u.stored u.standing (piece-kept memo_most (upload_of n) s p (state-kept n) bs bp);
      piece = λ n s p bs bp. piece-apart (piece_call memo_most (upload_of n) s p).0.standing (piece-kept memo_most (upload_of n) s p (state-kept n) bs bp);
      end = λ n s bs. end-apart memo_most (upload_of n) s (state-kept n) bs;
      number = stands-listed;
    }
