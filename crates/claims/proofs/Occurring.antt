-- Each number in a call's list occurs, as the computed answer of some call. Assumes nothing.
use Rattle.std.specs.Prelude.{Ok, Err}
use Prim.Native.Nat.{ℕ, zero, suc, ◌<◌}
use mathlib.Core.Path.{◌≡◌, refl, sym, ap, ◌∙◌, subst}
use mathlib.Core.Logic.{⊎_elim}
use mathlib.Core.Bool.{true}
use mathlib.Core.List.{List, [], ◌∷◌, ◌++◌}
use native.Mathlib.Omega.{arith}
use lib.ListN.{replicate, length-replicate}
use Rattle.wire.specs.Bytes.{Bytes, value, digits, below}
use Rattle.wire.specs.declared.Refusal.{Refusal}
use Rattle.wire.specs.declared.Rule.{Rule}
use Rattle.wire.specs.declared.Rule.TheVariants as R
use Rattle.wire.specs.Numbers.{rule_number, refusal, number_of, too_long}
use Rattle.wire.specs.Format.{on_result, refused}
use Rattle.wire.specs.Fields.{integer, constant}
use Rattle.wire.specs.Sequence.{guard, tag, items}
use Rattle.wire.specs.Series.{count_prefixed}
use Rattle.wire.specs.Parsers.{list_parse, list_write, blob_parse}
use Rattle.wire.specs.Orders.{OneOf}
use Rattle.string.specs.Strings.{string, text, printable, denomination}
use Rattle.string.specs.Characters.{unprintable}
use Rattle.owners.specs.Owners.{owners}
use Rattle.element.specs.Outputs.{amount, transfer_body, output, transferable_output}
use Rattle.element.specs.Inputs.{key, indices, spend, input_after}
use Rattle.transaction.specs.Slots.{signature_width, blank, slot_at, put_slot, put_all}
use Rattle.transaction.specs.Credentials.{credentials, layout, places, size}
use Rattle.transaction.specs.Entries.{rows, entries_from, credential_entries, nth}
use Rattle.transaction.specs.Form.{at_least, form, asked, wanted, plan_entries}
use Rattle.transaction.specs.Avm.{avm}
use Rattle.transaction.specs.Signed as AnySigned
use Rattle.transaction.specs.Family.{head, unsigned, wants, check, entries}
use Rattle.transaction.specs.Answer.{memo_most, checked, checked_number}
use Rattle.transaction.specs.Answer as Answer
use Rattle.transaction.proofs.FirstBroken.{first-broken}
use Rattle.entry_table.specs.Table.{Filled, filled, tabled, tabled_number}
use Rattle.entry.specs.Entry.{entry_of, entry_number}
use Rattle.draft_slots.specs.Joining.{same, clashes, join, first_clash}
use Rattle.draft_slot_table.specs.Slots as Slots
use Rattle.draft_slot_table.specs.Table.{tabled_slots}
use Rattle.draft.specs.Reader.{reader, body, slot_count, slot}
use Rattle.draft.specs.Calls.{answer_number, merged, merge_call, fill_call}
use Rattle.writer_theorems.proofs.Occurring.{each_byte, bytes_of, zeros, word, typed, paid, one-occurs}
use Rattle.upload.specs.Calls.{standing_number, shown}
use Rattle.upload.proofs.Showing.{shown-number}
use Rattle.upload_theorems.specs.Answers.{piece_numbers, end_numbers}
use Rattle.upload_theorems.specs.Pieces.{answer, ended}
use Rattle.upload_theorems.proofs.Theorems.{answer-one, answer-full, ended-one, ended-full}
use Rattle.wire.proofs.Refusing.{contained}
use Rattle.claims.specs.Cases.{A, edited}
use Rattle.claims.specs.Occurring.{NumbersOccur}
use Rattle.claims.specs.Answers.{check_numbers, table_numbers, entry_numbers}
use Rattle.claims.proofs.Answering.{table-answers, slots-answers, entry-answers}

-- ---- bytes that the check refuses, by each of its numbers

abbrev Refused : ℕ → Type 0
Refused n = (s : List ℕ) × (e : Refusal) × Bytes s × (check (avm memo_most) s ≡ refused e) × (number_of e ≡ n)

-- rule 1 depends on the length only, so zeros can break it
zero-bytes : (n : ℕ) → Bytes (zeros n)
zero-bytes zero = tt
zero-bytes (suc n) = (omega arith, zero-bytes n)

above_most : (n : ℕ) → 65536 < n → Refused 1
above_most n h = (
  zeros n,
  refusal too_long 0,
  zero-bytes n,
  ((first-broken (avm memo_most)).above_most (zeros n) 0).1 (omega (arith, length-replicate {A = ℕ} n 0), refl),
  refl,
)

abbrev refuses : (s : List ℕ) → each_byte s ≡ true → (r : Rule) (p : ℕ) → check (avm memo_most) s ≡ refused (refusal r p) → (n : ℕ) × Refused n
refuses s h r p e = (rule_number r, (s, refusal r p, bytes_of s h, e, refl))

unfoldable refused-cases : List ((n : ℕ) × Refused n)
unfolding AnySigned.check unsigned head wants credentials owners amount transfer_body output transferable_output guard string text printable unprintable
    denomination constant tag count_prefixed integer blob_parse items list_parse list_write value digits below form wanted asked at_least layout
refused-cases =
    (1, above_most 65537 (omega arith))
    ∷ refuses [] refl R.CutShort 0 refl
    ∷ refuses (0 ∷ 1 ∷ []) refl R.WrongCodec 0 refl
    ∷ refuses (zeros 2 ++ word 9) refl R.UnknownType 2 refl
    ∷ refuses (paid ++ zeros 8) refl R.ZeroAmount 82 refl
    ∷ refuses (paid ++ zeros 4 ++ word 1 ++ zeros 8 ++ word 1 ++ word 2 ++ zeros 40) refl R.OutOfOrder 126 refl
    ∷ refuses (paid ++ zeros 4 ++ word 1 ++ zeros 8 ++ word 1 ++ word 0) refl R.BadThreshold 98 refl
    ∷ refuses (zeros 50 ++ (0 ∷ 0 ∷ 1 ∷ 1 ∷ [])) refl R.BadLength 50 refl
    ∷ refuses (typed 1 ++ (0 ∷ 1 ∷ 0 ∷ [])) refl R.NotPrintable 56 refl
    ∷ refuses (typed 1 ++ (0 ∷ 1 ∷ 32 ∷ 0 ∷ 1 ∷ 32 ∷ 33 ∷ [])) refl R.BadDenomination 60 refl
    ∷ refuses (typed 2 ++ word 0) refl R.EmptyList 54 refl
    ∷ refuses (zeros 54 ++ word 1) refl R.WrongCount 54 refl
    ∷ refuses (zeros 59) refl R.BytesAfterEnd 58 refl
    ∷ []

abbrev refusals : List ℕ
refusals = 1 ∷ 2 ∷ 3 ∷ 4 ∷ 5 ∷ 6 ∷ 7 ∷ 8 ∷ 9 ∷ 10 ∷ 11 ∷ 12 ∷ 13 ∷ []

refused-by : (n : ℕ) → OneOf n refusals → Refused n
unfolding refused-cases
refused-by = one-occurs Refused refused-cases

-- ---- the calls that read

-- a transaction with nothing in it: 58 bytes, no entry, no slot
abbrev empty : List ℕ
empty = zeros 58

empty-checked : checked_number (checked memo_most empty) ≡ 0
unfolding AnySigned.check unsigned head wants credentials constant tag count_prefixed integer blob_parse items list_parse list_write value digits form
    wanted asked
    at_least string layout
empty-checked = refl

tables : (tabled_number (tabled memo_most empty []).answer ≡ 0) × (tabled_number (tabled memo_most A []).answer ≡ 14)
unfolding AnySigned.check unsigned head wants credentials owners amount transfer_body output transferable_output key indices spend input_after guard string
    constant tag
    count_prefixed integer blob_parse items list_parse list_write value digits below form wanted asked at_least layout signature_width entries plan_entries
    entries_from credential_entries rows
tables = (refl, refl)

slot-tables : (tabled_number (tabled_slots memo_most empty []).answer ≡ 0) × (tabled_number (tabled_slots memo_most A []).answer ≡ 14)
unfolding AnySigned.check unsigned head wants credentials owners amount transfer_body output transferable_output key indices spend input_after guard string
    constant tag
    count_prefixed integer blob_parse items list_parse list_write value digits below form wanted asked at_least layout signature_width places size
    Slots.slots_from
slot-tables = (refl, refl)

read-entries : (entry_number (entry_of memo_most A 0).answer ≡ 0) × (entry_number (entry_of memo_most empty 0).answer ≡ 15)
unfolding AnySigned.check unsigned head wants credentials owners amount transfer_body output transferable_output key indices spend input_after guard string
    constant tag
    count_prefixed integer blob_parse items list_parse list_write value digits below form wanted asked at_least layout signature_width entries plan_entries
    entries_from credential_entries nth
read-entries = (refl, refl)

A-bytes : Bytes A
A-bytes = bytes_of A refl

-- the first number has a case of its own, and the others those of the check
first-or : (P : ℕ → Type 0) (k n : ℕ) (l : List ℕ) → P k → (OneOf n l → P n) → OneOf n (k ∷ l) → P n
first-or P k n l p on = ⊎_elim (λ e. subst P (sym e) p) on

check-occurs : (n : ℕ) → OneOf n check_numbers → (s : List ℕ) × Bytes s × (checked_number (checked memo_most s) ≡ n)
check-occurs n =
    first-or (λ n. (s : List ℕ) × Bytes s × (checked_number (checked memo_most s) ≡ n)) 0 n refusals (empty, zero-bytes 58, empty-checked)
    (λ r. let (s, e, b, c, k) = refused-by n r in
    (s, b, ap (λ o. checked_number (on_result o Err (λ v m. Ok (Answer.layout memo_most v.0, m)))) c ∙ k))

module _ (call : List ℕ → List ℕ → Filled) (refuses-alike : (s t : List ℕ) (e : Refusal) → check (avm memo_most) s ≡ refused e
    → call s t ≡ filled (Err e) t)
    (done : tabled_number (call empty []).answer ≡ 0) (without_room : tabled_number (call A []).answer ≡ 14) where
  Listing : ℕ → Type 0
  Listing n = (s t : List ℕ) × Bytes s × (tabled_number (call s t).answer ≡ n)

  listing-occurs : (n : ℕ) → OneOf n table_numbers → Listing n
  unfolding Listing
  listing-occurs n =
      first-or Listing 14 n check_numbers (A, [], A-bytes, without_room) (first-or Listing 0 n refusals (empty, [], zero-bytes 58, done)
      (λ r. let (s, e, b, c, k) = refused-by n r in (s, [], b, ap (λ f. tabled_number f.answer) (refuses-alike s [] e c) ∙ k)))

entry-occurs : (n : ℕ) → OneOf n entry_numbers → (s : List ℕ) × (k : ℕ) × Bytes s × (entry_number (entry_of memo_most s k).answer ≡ n)
entry-occurs n =
    first-or EntryOf 15 n check_numbers (empty, 0, zero-bytes 58, read-entries.1) (first-or EntryOf 0 n refusals (A, 0, A-bytes, read-entries.0)
    (λ r. let (s, e, b, c, k) = refused-by n r in (s, 0, b, ap entry_number (entry-answers.refused-bytes s 0 e c) ∙ k)))
  where
    EntryOf : ℕ → Type 0
    EntryOf n = (s : List ℕ) × (k : ℕ) × Bytes s × (entry_number (entry_of memo_most s k).answer ≡ n)

-- ---- uploads

PieceOf : ℕ → Type 0
PieceOf n = (s p : List ℕ) × Bytes s × Bytes p × (standing_number (answer memo_most s (p ∷ [])) ≡ n)

piece-occurs : (n : ℕ) → OneOf n piece_numbers → PieceOf n
unfolding PieceOf
piece-occurs n h =
    first-or PieceOf 14 n refusals ([], 0 ∷ [], tt, (omega arith, tt), ap standing_number (answer-full memo_most))
    (λ r. let (s, e, b, c, k) = refused-by n r in
    let q : checked memo_most s ≡ Err e = ap (λ o. on_result o Err (λ v m. Ok (Answer.layout memo_most v.0, m))) c in
    (s, s, b, b, ap standing_number (answer-one memo_most s ∙ ap shown q) ∙ shown-number e ∙ k))
    (contained (14 ∷ refusals) piece_numbers refl n h)

EndOf : ℕ → Type 0
EndOf n = (s p : List ℕ) × Bytes s × Bytes p × (checked_number (ended memo_most s (p ∷ [])) ≡ n)

end-occurs : (n : ℕ) → OneOf n end_numbers → EndOf n
unfolding EndOf
end-occurs n h =
    first-or EndOf 14 n check_numbers ([], 0 ∷ [], tt, (omega arith, tt), ap checked_number (ended-full memo_most))
    (λ r. let (s, b, k) = check-occurs n r in (s, s, b, b, ap checked_number (ended-one memo_most s) ∙ k))
    (contained (14 ∷ check_numbers) end_numbers refl n h)

-- ---- merge and fill

abbrev MergeOf : ℕ → Type 0
MergeOf n = (d e out : List ℕ) × Bytes d × Bytes e × (answer_number (merge_call (reader (avm memo_most)) d e out).0 ≡ n)

abbrev merges : (d e out : List ℕ) → each_byte d ≡ true → each_byte e ≡ true → (n : ℕ) → answer_number (merge_call (reader (avm memo_most)) d e out).0 ≡ n
    → (n : ℕ) × MergeOf n
merges d e out bd be n h = (n, (d, e, out, bytes_of d bd, bytes_of e be, h))

unfoldable merge-cases : List ((n : ℕ) × MergeOf n)
unfolding AnySigned.check unsigned head wants credentials owners amount transfer_body output transferable_output key indices spend input_after guard string
    constant tag
    count_prefixed integer blob_parse items list_parse list_write value digits below form wanted asked at_least layout signature_width places blank slot_at
    put_slot
    put_all same clashes
    join first_clash body merged merge_call
merge-cases =
    merges empty empty empty refl refl 0 refl
    ∷ merges empty empty [] refl refl 14 refl
    ∷ merges [] empty empty refl refl 17 refl
    ∷ merges empty [] empty refl refl 18 refl
    ∷ merges empty (zeros 9 ++ (1 ∷ zeros 48)) empty refl refl 19 refl
    ∷ merges A (edited 391 (1 ∷ []) A) [] refl refl 20 refl
    ∷ []

abbrev FillOf : ℕ → Type 0
FillOf n = (d : List ℕ) × (k : ℕ) × (s : List ℕ) × Bytes d × Bytes s × (answer_number (fill_call (reader (avm memo_most)) d k s).0 ≡ n)

abbrev fills : (d : List ℕ) (k : ℕ) (s : List ℕ) → each_byte d ≡ true → each_byte s ≡ true → (n : ℕ)
    → answer_number (fill_call (reader (avm memo_most)) d k s).0 ≡ n
    → (n : ℕ) × FillOf n
fills d k s bd bs n h = (n, (d, k, s, bytes_of d bd, bytes_of s bs, h))

unfoldable fill-cases : List ((n : ℕ) × FillOf n)
unfolding AnySigned.check unsigned head wants credentials owners amount transfer_body output transferable_output key indices spend input_after guard string
    constant tag
    count_prefixed integer blob_parse items list_parse list_write value digits below form wanted asked at_least layout signature_width places blank slot_at
    put_slot
    same clashes
    join slot_count slot fill_call
fill-cases =
    fills A 0 (zeros 65) refl refl 0 refl
    ∷ fills empty 0 [] refl refl 15 refl
    ∷ fills [] 0 [] refl refl 17 refl
    ∷ fills A 0 (replicate 65 1) refl refl 20 refl
    ∷ fills A 0 [] refl refl 21 refl
    ∷ []

pub numbers-occur : NumbersOccur
unfolding Listing PieceOf EndOf merge-cases fill-cases
numbers-occur =
    record {
      check = check-occurs;
      piece = piece-occurs;
      end = end-occurs;
      check-with-table = listing-occurs (tabled memo_most) table-answers.refused-bytes tables.0 tables.1;
      entry = entry-occurs;
      slots = listing-occurs (tabled_slots memo_most) slots-answers.lists.refused-bytes slot-tables.0 slot-tables.1;
      merge = one-occurs MergeOf merge-cases;
      fill = one-occurs FillOf fill-cases;
    }
