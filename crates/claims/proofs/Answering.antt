-- What the calls that read answer. Assumes nothing.
use Rattle.transaction.specs.declared.Layout.{Layout}
use Rattle.std.specs.Prelude.{Result, Ok, Err, Option, None, Some}
use Prim.Native.Nat.{ℕ, ◌*◌, ◌≤◌, ◌<◌}
use mathlib.Core.Path.{◌≡◌, refl, ap, ◌∙◌}
use mathlib.Core.Logic.{inl, inr}
use mathlib.Core.Bool.{Bool, true, false}
use mathlib.Core.List.{List, ◌++◌}
use native.Mathlib.Omega.{arith}
use lib.ListN.{length, drop, length-append, length-drop}
use lib.Seq.{drop_at}
use lib.Dec.{leb}
use borrow.Author.Tests.{leb-true, le-leb, lt-leb}
use Rattle.wire.specs.Bytes.{pick}
use Rattle.wire.specs.Numbers.{refusal, number_of, no_room}
use Rattle.wire.specs.declared.Refusal.{Refusal}
use Rattle.wire.specs.Format.{Parsed, took, refused, on_result, verdict}
use Rattle.wire.specs.Orders.{OneOf}
use Rattle.transaction.specs.Entries.{EntryAt}
use Rattle.transaction.specs.Entries as Entries
use Rattle.transaction.specs.Family.{Signed, check, entries, entry}
use Rattle.transaction.specs.Avm.{avm}
use Rattle.transaction.specs.Answer.{memo_most, layout, checked, checked_number, checked_place}
use Rattle.transaction.proofs.Codec.{codec}
use Rattle.transaction.proofs.Refusing.{check-numbers}
use Rattle.entry_table.specs.Table.{Filled, filled, tabled_number, tabled_rows}
use Rattle.entry_table.proofs.Inside.{entries-inside}
use Rattle.entry_table.proofs.Tabling.{length-rows}
use Rattle.draft_slot_table.specs.Slots as Slots
use Rattle.draft_slot_table.specs.Table.{slots}
use Rattle.draft_slot_table.proofs.Rows.{reader-places, filled-empty, filled-signed, empty-filled}
use Rattle.draft_slot_table.proofs.Rows as SlotRows
use Rattle.entry.specs.declared.EntryRead.{EntryRead}
use Rattle.entry.specs.Entry.{refused_entry, entry_answer, entry_of, entry_number}
use Rattle.claims.specs.Answers.{check_numbers, table_numbers, entry_numbers, CheckAnswers, Lists, TableAnswers, SlotsAnswers, StandsAs, EntryAnswers}
use Rattle.claims.proofs.Standing.{each-nth, inside-each, entries-stand-as}

refused-listed : (s : List ℕ) (e : Refusal) → check (avm memo_most) s ≡ refused e → OneOf (number_of e) check_numbers
refused-listed s e h = inr (check-numbers (avm memo_most) s e h)

-- ---- the check

module _ (s : List ℕ) where
  check-number : OneOf (checked_number (checked memo_most s)) check_numbers
  check-number = go (check (avm memo_most) s) refl
    where
      go : (o : Parsed (Signed (avm memo_most))) → check (avm memo_most) s ≡ o
          → OneOf (checked_number (on_result o Err (λ v n. Ok (layout memo_most v.0, n)))) check_numbers
      go (took v n) h = inl refl
      go (refused e) h = refused-listed s e h

  check-own : (checked_number (checked memo_most s), checked_place (checked memo_most s)) ≡ verdict (check (avm memo_most) s)
  check-own = go (check (avm memo_most) s)
    where
      go : (o : Parsed (Signed (avm memo_most)))
          → let a : Result (Layout × ℕ) Refusal = on_result o Err (λ v n. Ok (layout memo_most v.0, n)) in (checked_number a, checked_place a) ≡ verdict o
      go (took v n) = refl
      go (refused e) = refl

pub check-answers : CheckAnswers
check-answers = record { number = check-number; own = check-own }

-- ---- entry n

module _ (s : List ℕ) (n : ℕ) where
  -- the answer, by the result of the check
  abbrev answer_of : Parsed (Signed (avm memo_most)) → EntryRead
  answer_of o = on_result o refused_entry (λ v end. entry_answer end (entry (avm memo_most) v n))

  entry-number : OneOf (entry_number (entry_of memo_most s n).answer) entry_numbers
  entry-number = go (check (avm memo_most) s) refl
    where
      reported : (bytes : ℕ) (o : Option EntryAt) → OneOf (entry_number (entry_answer bytes o).answer) entry_numbers
      reported bytes None = inl refl
      reported bytes (Some e) = inr (inl refl)

      go : (o : Parsed (Signed (avm memo_most))) → check (avm memo_most) s ≡ o → OneOf (entry_number (answer_of o).answer) entry_numbers
      go (took v bytes) h = reported bytes (entry (avm memo_most) v n)
      go (refused e) h = inr (refused-listed s e h)

pub entry-answers : EntryAnswers
entry-answers =
    record {
      number = entry-number;
      refused-bytes = λ s n e h. ap (λ o. (answer_of s n o).answer) h;
      found = λ s n v bytes e h q. ap (answer_of s n) h ∙ ap (entry_answer bytes) q;
      inside = λ s n v bytes e b h q.
          let (w, m) = (codec (avm memo_most)).write-after-read s v bytes b h in
          each-nth (λ e. (e.start ≤ e.end) × (e.end ≤ length s)) (entries (avm memo_most) v)
          (inside-each (length s) (entries (avm memo_most) v) (entries-inside memo_most s v w)) n e q;
      stands = λ s n v bytes e b h q.
          let (w, m) = (codec (avm memo_most)).write-after-read s v bytes b h in
          each-nth (StandsAs s) (entries (avm memo_most) v) (entries-stand-as s v w) n e q;
      missing = λ s n v bytes h q. ap (λ o. (answer_of s n o).answer) h ∙ ap (λ o. (entry_answer bytes o).answer) q;
    }

-- ---- rows in a lent table

-- what holds of every answer with the lent table t
record Kept (t : List ℕ) (f : Filled) : Type 0 where
  number : OneOf (tabled_number f.answer) table_numbers
  unchanged : (tabled_number f.answer ≡ 0 → ⊥) → (tabled_rows f.answer ≡ 0) × (f.table ≡ t)
  beyond : drop (3 * tabled_rows f.answer) f.table ≡ drop (3 * tabled_rows f.answer) t
  length-kept : length f.table ≡ length t

refused-kept : (t : List ℕ) (e : Refusal) → OneOf (number_of e) table_numbers → Kept t (filled (Err e) t)
refused-kept t e h = record { number = h; unchanged = λ n. (refl, refl); beyond = refl; length-kept = refl }

-- c rows, which are the integers r, where room for n integers is asked
module _ (c : ℕ) (r : List ℕ) (n : ℕ) (asked : n ≡ 3 * c) (long : length r ≡ 3 * c) (end : ℕ) (t : List ℕ) where
  abbrev in_room : Filled
  in_room = pick (leb n (length t)) (filled (Ok (c, end)) (r ++ drop n t)) (filled (Err (refusal no_room 0)) t)

  room-listed : 3 * c ≤ length t → in_room ≡ filled (Ok (c, end)) (r ++ drop (3 * c) t)
  room-listed h = rw (le-leb n (length t) (omega arith)) (ap (λ (m : ℕ). filled (Ok (c, end)) (r ++ drop m t)) asked)

  room-none : length t < 3 * c → in_room ≡ filled (Err (refusal no_room 0)) t
  room-none h = rw (lt-leb n (length t) (omega arith))

  room-kept : Kept t in_room
  room-kept = go (leb n (length t)) refl
    where
      go : (b : Bool) → leb n (length t) ≡ b → Kept t (pick b (filled (Ok (c, end)) (r ++ drop n t)) (filled (Err (refusal no_room 0)) t))
      go true room =
          record {
            number = inr (inl refl);
            unchanged = λ other. absurd (other refl);
            beyond = drop_at r (drop n t) (3 * c) long ∙ ap (λ (m : ℕ). drop m t) asked;
            length-kept = omega (arith, leb-true n (length t) room, length-append r (drop n t), length-drop n t);
          }
      go false room = refused-kept t (refusal no_room 0) (inl refl)

-- the reading v of s has `count s v` rows, which are the integers `rows s v`; room for `width s v` integers is asked
module _ (count : List ℕ → Signed (avm memo_most) → ℕ) (rows : List ℕ → Signed (avm memo_most) → List ℕ) (width : List ℕ → Signed (avm memo_most) → ℕ)
    (asked : (s : List ℕ) (v : Signed (avm memo_most)) → width s v ≡ 3 * count s v)
    (long : (s : List ℕ) (v : Signed (avm memo_most)) → length (rows s v) ≡ 3 * count s v) where
  -- the table, by the result of the check
  abbrev table_of : List ℕ → List ℕ → Parsed (Signed (avm memo_most)) → Filled
  table_of s t o = on_result o (λ e. filled (Err e) t) (λ v end. in_room (count s v) (rows s v) (width s v) (asked s v) (long s v) end t)

  kept : (s t : List ℕ) → Kept t (table_of s t (check (avm memo_most) s))
  kept s t = go (check (avm memo_most) s) refl
    where
      go : (o : Parsed (Signed (avm memo_most))) → check (avm memo_most) s ≡ o → Kept t (table_of s t o)
      go (took v n) h = room-kept (count s v) (rows s v) (width s v) (asked s v) (long s v) n t
      go (refused e) h = refused-kept t e (inr (refused-listed s e h))

  lists : Lists (λ s t. table_of s t (check (avm memo_most) s)) count rows
  lists =
      record {
        number = λ s t. (kept s t).number;
        refused-bytes = λ s t e h. ap (table_of s t) h;
        listed = λ s t v n h r. ap (table_of s t) h ∙ room-listed (count s v) (rows s v) (width s v) (asked s v) (long s v) n t r;
        no_room = λ s t v n h r. ap (table_of s t) h ∙ room-none (count s v) (rows s v) (width s v) (asked s v) (long s v) n t r;
        unchanged = λ s t. (kept s t).unchanged;
        beyond = λ s t. (kept s t).beyond;
        length-kept = λ s t. (kept s t).length-kept;
      }

pub table-answers : TableAnswers
table-answers =
    let es : Signed (avm memo_most) → List EntryAt = entries (avm memo_most) in
    lists (λ s v. length (es v)) (λ s v. Entries.rows (es v)) (λ s v. length (Entries.rows (es v))) (λ s v. length-rows (es v)) (λ s v. length-rows (es v))

pub slots-answers : SlotsAnswers
slots-answers =
    record {
      lists = lists (λ s v. length (slots memo_most s)) (λ s v. Slots.rows s (slots memo_most s)) (λ s v. 3 * length (slots memo_most s)) (λ s v. refl)
          (λ s v. SlotRows.length-rows s (slots memo_most s));
      places = reader-places (avm memo_most);
      empty = λ s p. (empty-filled s p, filled-empty s p);
      not-empty = filled-signed;
    }
