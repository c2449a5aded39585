-- Rows and places of the answers of calls with a lent table are small, so each answer can be unpacked again. Assumes nothing.
use Rattle.std.specs.Prelude.{Ok, Err, Result}
use Prim.Native.Nat.{ℕ, ◌*◌, ◌+◌, ◌%◌, ◌≤◌}
use mathlib.Core.Path.{◌≡◌, refl, sym, ap, subst⁻¹}
use mathlib.Core.Bool.{Bool, true, false}
use mathlib.Core.List.{List, ◌++◌}
use native.Mathlib.Omega.{arith}
use lib.Dec.{leb, eqb}
use lib.ListN.{length, drop, length-map}
use Rattle.wire.specs.Bytes.{Bytes, pick}
use Rattle.wire.specs.Numbers.{refusal, number_of, no_room}
use Rattle.wire.proofs.Numbers.{number-range}
use Rattle.wire.specs.declared.Refusal.{Refusal}
use Rattle.wire.specs.Format.{Parsed, took, refused, on_result}
use Rattle.transaction.specs.Family.{Signed, unsigned, wants, check, entries}
use Rattle.transaction.specs.Avm.{avm}
use Rattle.transaction.specs.Answer.{memo_most, layout}
use Rattle.transaction.specs.Entries.{rows}
use Rattle.transaction.proofs.Codec.{codec}
use Rattle.transaction.proofs.Signed.{parts-took, spaced-slots}
use Rattle.transaction.proofs.Verdicts.{checked-place}
use Rattle.entry_table.specs.Table.{filled, tabled, tabled_number}
use Rattle.entry_table.specs.Table as Entries
use Rattle.entry_table.proofs.Bounding.{entries-few}
use Rattle.draft.specs.Reader.{reader}
use Rattle.draft.specs.Packing.{TakenApart}
use Rattle.draft.proofs.Packing.{apart, spaced-count}
use Rattle.draft_slot_table.specs.Table.{slots, tabled_slots}
use Rattle.draft_slot_table.specs.Table as Slots
use Rattle.draft_slot_table.specs.Slots as Slot
use Rattle.draft_slot_table.proofs.Rows.{reader-places}
use Rattle.operator.specs.Listing.{reported, packed, Unlisted}

-- the number of the answer is at most 21, and its rows or its place at most 65,536
record Small (a : Result (ℕ × ℕ) Refusal) : Type 0 where
  number : tabled_number a ≤ 21
  rest : reported a ≤ 65536

small-apart : (a : Result (ℕ × ℕ) Refusal) → Small a → TakenApart (packed a) (tabled_number a) (reported a)
unfolding packed
small-apart a h =
    let e : tabled_number a * 4294967296 + reported a % 4294967296 ≡ tabled_number a * 4294967296 + reported a = omega (arith, h.rest) in
    subst⁻¹ (λ (n : ℕ). TakenApart n (tabled_number a) (reported a)) e (apart (tabled_number a) (reported a) h.number h.rest)

refused-small : (e : Refusal) → e.place ≤ 65536 → Small (Err e)
refused-small e h = record { number = (number-range e.rule).1; rest = go (eqb (number_of e) 0) }
  where
    go : (b : Bool) → pick b 0 e.place ≤ 65536
    go true = omega arith
    go false = h

-- n rows if there is room for them, else 14
in-room : (n end : ℕ) (x t : List ℕ) → n ≤ 65536 → (b : Bool) → Small (pick b (filled (Ok (n, end)) x) (filled (Err (refusal no_room 0)) t)).answer
in-room n end x t h true = record { number = omega arith; rest = h }
in-room n end x t h false = refused-small (refusal no_room 0) (omega arith)

module _ (s : List ℕ) (bytes : Bytes s) where
  -- a refusal of the check is small
  check-small : (e : Refusal) → check (avm memo_most) s ≡ refused e → Small (Err e)
  check-small e h =
      let q = sym (ap (λ (o : Parsed (Signed (avm memo_most))). on_result o Err (λ v n. Ok (layout memo_most v.0, n))) h) in
      refused-small e (checked-place memo_most s e bytes q)

  entry-rows : (v : Signed (avm memo_most)) (n : ℕ) → check (avm memo_most) s ≡ took v n → length (entries (avm memo_most) v) ≤ 65536
  entry-rows v n h = let (w, m) = (codec (avm memo_most)).write-after-read s v n bytes h in omega (arith, w.short, entries-few memo_most s v w)

  slot-rows : (v : Signed (avm memo_most)) (n : ℕ) → check (avm memo_most) s ≡ took v n → length (slots memo_most s) ≤ 65536
  slot-rows v n h =
      let p = parts-took (unsigned (avm memo_most)) (wants (avm memo_most)) s v n bytes h in
      omega (
        arith,
        p.short,
        length-map (slots memo_most s) (λ x. x.place),
        ap length (reader-places (avm memo_most) s),
        spaced-count 0 ((reader (avm memo_most)).slots s) (length s) (spaced-slots (unsigned (avm memo_most)) (wants (avm memo_most)) s v.0 v.1 p),
      )

  module _ (t : List ℕ) where
    rows-small : Small (tabled memo_most s t).answer
    rows-small = go (check (avm memo_most) s) refl
      where
        go : (o : Parsed (Signed (avm memo_most))) → check (avm memo_most) s ≡ o
            → Small (on_result o (λ e. filled (Err e) t) (λ v end. Entries.listed end (entries (avm memo_most) v) t)).answer
        go (took v n) h =
            let r : List ℕ = rows (entries (avm memo_most) v) in
            in-room (length (entries (avm memo_most) v)) n (r ++ drop (length r) t) t (entry-rows v n h) (leb (length r) (length t))
        go (refused e) h = check-small e h

    slots_small : Small (tabled_slots memo_most s t).answer
    slots_small = go (check (avm memo_most) s) refl
      where
        go : (o : Parsed (Signed (avm memo_most))) → check (avm memo_most) s ≡ o
            → Small (on_result o (λ e. filled (Err e) t) (λ v end. Slots.listed end s (slots memo_most s) t)).answer
        go (took v n) h =
            let l : ℕ = length (slots memo_most s) in
            in-room l n (Slot.rows s (slots memo_most s) ++ drop (3 * l) t) t (slot-rows v n h) (leb (3 * l) (length t))
        go (refused e) h = check-small e h

pub unlisted : Unlisted
unlisted =
    record {
      rows = λ s t b. small-apart (tabled memo_most s t).answer (rows-small s b t);
      slots = λ s t b. small-apart (tabled_slots memo_most s t).answer (slots_small s b t);
    }
