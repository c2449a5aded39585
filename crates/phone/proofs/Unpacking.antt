-- Number and place of the answers to C are small, so each answer can be unpacked again. Assumes nothing.
use Rattle.std.specs.Prelude.{Ok, Err, Result}
use Rattle.wire.specs.declared.Refusal.{Refusal}
use Prim.Native.Nat.{ℕ}
use mathlib.Core.Path.{◌≡◌, refl, sym, ap}
use mathlib.Core.List.{List}
use native.Mathlib.Omega.{arith}
use Rattle.wire.specs.Bytes.{Bytes}
use Rattle.wire.specs.Numbers.{number_of}
use Rattle.wire.proofs.Numbers.{number-range}
use Rattle.wire.specs.Format.{Parsed, took, refused, on_result, verdict}
use Rattle.transaction.specs.Family.{Signed, check}
use Rattle.transaction.specs.Avm.{avm}
use Rattle.transaction.specs.Answer.{memo_most, layout}
use Rattle.transaction.proofs.Codec.{codec}
use Rattle.transaction.proofs.Verdicts.{checked-place}
use Rattle.draft.specs.Reader.{reader}
use Rattle.draft.specs.Calls.{answer_number, answer_place, merge_call}
use Rattle.draft.specs.Packing.{TakenApart}
use Rattle.draft.proofs.Packing.{apart}
use Rattle.phone.specs.Packed.{packed, packed_call, Unpacked}
use Rattle.phone.proofs.Packing.{merge-small, merge-fits}

check-apart : (s : List ℕ) → Bytes s → let v = verdict (check (avm memo_most) s) in TakenApart (packed v) v.0 v.1
check-apart s b = go (check (avm memo_most) s) refl
  where
    go : (o : Parsed (Signed (avm memo_most))) → check (avm memo_most) s ≡ o → TakenApart (packed (verdict o)) (verdict o).0 (verdict o).1
    go (took v n) e =
        let (w, m) = (codec (avm memo_most)).write-after-read s v n b e in
        apart 0 n (omega arith) (omega (arith, w.short, m))
    go (refused d) e =
        let q = sym (ap (λ (o : Parsed (Signed (avm memo_most))). on_result o Err (λ v n. Ok (layout memo_most v.0, n))) e) in
        apart (number_of d) d.place (number-range d.rule).1 (checked-place memo_most s d b q)

merge-apart : (d e out : List ℕ) → Bytes d → Bytes e
    → let a = merge_call (reader (avm memo_most)) d e out in TakenApart (packed_call a).0 (answer_number a.0) (answer_place a.0)
merge-apart d e out b c = go (merge_call (reader (avm memo_most)) d e out) refl
  where
    go : (a : Result ℕ Refusal × List ℕ) → a ≡ merge_call (reader (avm memo_most)) d e out → TakenApart (packed_call a).0 (answer_number a.0) (answer_place a.0)
    go (Ok n, s) q = apart 0 n (omega arith) (merge-fits d e b c out s n q)
    go (Err f, s) q =
        apart (number_of f) f.place (number-range f.rule).1 (merge-small d e out b (Err f) s q f refl)

pub unpacked : Unpacked
unpacked = record { check = check-apart; merge = merge-apart }
