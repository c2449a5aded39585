-- Document 01's "Table of proved cases", as rows of one table and one statement over it, and its "Bad examples". Assumes nothing.
use Rattle.wire.specs.declared.Refusal.{Refusal}
use Rattle.std.specs.Prelude.{◌≡◌, refl, ℕ, ◌+◌, List, [], ◌∷◌, ◌++◌, length, take, drop, replicate, Result}
use Rattle.wire.specs.Bytes.{value, digits, below}
use Rattle.wire.specs.Format.{read, verdict, Parsed, took, refused}
use Rattle.wire.specs.Fields.{integer, constant}
use Rattle.wire.specs.Sequence.{guard, tag, items}
use Rattle.wire.specs.Series.{count_prefixed}
use Rattle.wire.specs.Parsers.{list_parse, list_write, blob_parse}
use Rattle.string.specs.Strings.{string, text, printable, denomination}
use Rattle.string.specs.Characters.{unprintable}
use Rattle.owners.specs.Owners.{owners}
use Rattle.element.specs.Outputs.{amount, transfer_body, output, transferable_output}
use Rattle.element.specs.Inputs.{key, indices, spend, input_after}
use Rattle.element.specs.Operations.{terms, action, operation, fx_id, state_outputs, initial_state_after}
use Rattle.transaction.specs.Slots.{signature_width, blank, slot_at, put_slot, put_all}
use Rattle.transaction.specs.Credentials.{credentials, layout, places}
use Rattle.transaction.specs.Entries.{rows, entries_from, credential_entries}
use Rattle.transaction.specs.Form.{at_least, form, asked, wanted, plan_entries}
use Rattle.transaction.specs.Avm.{avm}
use Rattle.transaction.specs.Answer.{memo_most}
use Rattle.transaction.specs.Signed as AnySigned
use Rattle.transaction.specs.Family.{Signed, head, unsigned, wants, check, entries}
use Rattle.draft_slots.specs.Joining.{same, clashes, join, first_clash}
use Rattle.draft.specs.Reader.{reader, body, slot_count, slot}
use Rattle.draft.specs.Calls.{answer_number, answer_place, merged, merge_call, fill_call}

-- ---- the signed example of the AVM transaction format's page, byte by byte

-- codec; type 1, network 4 and chain id
abbrev front : List ℕ
front =
    0 ∷ 0 ∷ 0 ∷ 0 ∷ 0 ∷ 1 ∷ 0 ∷ 0 ∷ 0 ∷ 4 ∷ 255 ∷ 255 ∷ 255 ∷ 255 ∷ 238 ∷ 238 ∷ 238 ∷ 238 ∷ 221 ∷ 221
    ∷ 221 ∷ 221 ∷ 204 ∷ 204 ∷ 204 ∷ 204 ∷ 187 ∷ 187 ∷ 187 ∷ 187 ∷ 170 ∷ 170 ∷ 170 ∷ 170 ∷ 153 ∷ 153 ∷ 153 ∷ 153 ∷ 136 ∷ 136
    ∷ 136 ∷ 136 ∷ []

-- one output: asset id, type 7, amount 12345, locktime 54321, threshold 1, two addresses
abbrev output_list : List ℕ
output_list =
    0 ∷ 0 ∷ 0 ∷ 1 ∷ 0 ∷ 1 ∷ 2 ∷ 3 ∷ 4 ∷ 5 ∷ 6 ∷ 7 ∷ 8 ∷ 9 ∷ 10 ∷ 11 ∷ 12 ∷ 13 ∷ 14 ∷ 15
    ∷ 16 ∷ 17 ∷ 18 ∷ 19 ∷ 20 ∷ 21 ∷ 22 ∷ 23 ∷ 24 ∷ 25 ∷ 26 ∷ 27 ∷ 28 ∷ 29 ∷ 30 ∷ 31 ∷ 0 ∷ 0 ∷ 0 ∷ 7
    ∷ 0 ∷ 0 ∷ 0 ∷ 0 ∷ 0 ∷ 0 ∷ 48 ∷ 57 ∷ 0 ∷ 0 ∷ 0 ∷ 0 ∷ 0 ∷ 0 ∷ 212 ∷ 49 ∷ 0 ∷ 0 ∷ 0 ∷ 1
    ∷ 0 ∷ 0 ∷ 0 ∷ 2 ∷ 81 ∷ 2 ∷ 92 ∷ 97 ∷ 251 ∷ 207 ∷ 192 ∷ 120 ∷ 246 ∷ 147 ∷ 52 ∷ 248 ∷ 52 ∷ 190 ∷ 109 ∷ 210
    ∷ 109 ∷ 85 ∷ 169 ∷ 85 ∷ 195 ∷ 52 ∷ 65 ∷ 40 ∷ 224 ∷ 96 ∷ 18 ∷ 142 ∷ 222 ∷ 53 ∷ 35 ∷ 162 ∷ 74 ∷ 70 ∷ 28 ∷ 137
    ∷ 67 ∷ 171 ∷ 8 ∷ 89 ∷ []

-- one input: transaction id, index 5, asset id, type 5, amount 123456789, indices 7, 3
abbrev input_list : List ℕ
input_list =
    0 ∷ 0 ∷ 0 ∷ 1 ∷ 241 ∷ 225 ∷ 209 ∷ 193 ∷ 177 ∷ 161 ∷ 145 ∷ 129 ∷ 113 ∷ 97 ∷ 81 ∷ 65 ∷ 49 ∷ 33 ∷ 17 ∷ 1
    ∷ 240 ∷ 224 ∷ 208 ∷ 192 ∷ 176 ∷ 160 ∷ 144 ∷ 128 ∷ 112 ∷ 96 ∷ 80 ∷ 64 ∷ 48 ∷ 32 ∷ 16 ∷ 0 ∷ 0 ∷ 0 ∷ 0 ∷ 5
    ∷ 0 ∷ 1 ∷ 2 ∷ 3 ∷ 4 ∷ 5 ∷ 6 ∷ 7 ∷ 8 ∷ 9 ∷ 10 ∷ 11 ∷ 12 ∷ 13 ∷ 14 ∷ 15 ∷ 16 ∷ 17 ∷ 18 ∷ 19
    ∷ 20 ∷ 21 ∷ 22 ∷ 23 ∷ 24 ∷ 25 ∷ 26 ∷ 27 ∷ 28 ∷ 29 ∷ 30 ∷ 31 ∷ 0 ∷ 0 ∷ 0 ∷ 5 ∷ 0 ∷ 0 ∷ 0 ∷ 0
    ∷ 7 ∷ 91 ∷ 205 ∷ 21 ∷ 0 ∷ 0 ∷ 0 ∷ 2 ∷ 0 ∷ 0 ∷ 0 ∷ 7 ∷ 0 ∷ 0 ∷ 0 ∷ 3 ∷ []

-- memo: 00 01 02 03
abbrev memo_bytes : List ℕ
memo_bytes =
    0 ∷ 0 ∷ 0 ∷ 4 ∷ 0 ∷ 1 ∷ 2 ∷ 3 ∷ []

-- one credential of type 9 with two signatures
abbrev credential_list : List ℕ
credential_list =
    0 ∷ 0 ∷ 0 ∷ 1 ∷ 0 ∷ 0 ∷ 0 ∷ 9 ∷ 0 ∷ 0 ∷ 0 ∷ 2 ∷ 0 ∷ 1 ∷ 2 ∷ 3 ∷ 4 ∷ 5 ∷ 6 ∷ 7
    ∷ 8 ∷ 9 ∷ 10 ∷ 11 ∷ 12 ∷ 13 ∷ 14 ∷ 15 ∷ 16 ∷ 17 ∷ 18 ∷ 19 ∷ 20 ∷ 21 ∷ 22 ∷ 23 ∷ 24 ∷ 25 ∷ 26 ∷ 27
    ∷ 28 ∷ 30 ∷ 29 ∷ 31 ∷ 32 ∷ 33 ∷ 34 ∷ 35 ∷ 36 ∷ 37 ∷ 38 ∷ 39 ∷ 40 ∷ 41 ∷ 42 ∷ 43 ∷ 44 ∷ 46 ∷ 45 ∷ 47
    ∷ 48 ∷ 49 ∷ 50 ∷ 51 ∷ 52 ∷ 53 ∷ 54 ∷ 55 ∷ 56 ∷ 57 ∷ 58 ∷ 59 ∷ 60 ∷ 61 ∷ 62 ∷ 63 ∷ 0 ∷ 64 ∷ 65 ∷ 66
    ∷ 67 ∷ 68 ∷ 69 ∷ 70 ∷ 71 ∷ 72 ∷ 73 ∷ 74 ∷ 75 ∷ 76 ∷ 77 ∷ 78 ∷ 79 ∷ 80 ∷ 81 ∷ 82 ∷ 83 ∷ 84 ∷ 85 ∷ 86
    ∷ 87 ∷ 88 ∷ 89 ∷ 90 ∷ 91 ∷ 92 ∷ 94 ∷ 93 ∷ 95 ∷ 96 ∷ 97 ∷ 98 ∷ 99 ∷ 100 ∷ 101 ∷ 102 ∷ 103 ∷ 104 ∷ 105 ∷ 106
    ∷ 107 ∷ 108 ∷ 110 ∷ 109 ∷ 111 ∷ 112 ∷ 113 ∷ 114 ∷ 115 ∷ 116 ∷ 117 ∷ 118 ∷ 119 ∷ 120 ∷ 121 ∷ 122 ∷ 123 ∷ 124 ∷ 125 ∷ 126
    ∷ 127 ∷ 0 ∷ []

abbrev published : List ℕ
published = front ++ output_list ++ input_list ++ memo_bytes ++ credential_list

-- s with the bytes from `at` on replaced by ys
abbrev pub edited : ℕ → List ℕ → List ℕ → List ℕ
edited at ys s = take at s ++ ys ++ drop (at + length ys) s

-- the example with its indices in order; and case A, which also has type 0 instead of 1
abbrev ordered : List ℕ
ordered = edited 234 (0 ∷ 0 ∷ 0 ∷ 3 ∷ 0 ∷ 0 ∷ 0 ∷ 7 ∷ []) published

abbrev pub A : List ℕ
A = edited 5 (0 ∷ []) ordered

-- the content of an empty slot
abbrev pub empty : List ℕ
empty = replicate 65 0

-- ---- the transferable NFT operation of the same page: asset id, one spent output, type 13, indices 3, 7, group 12345, payload 43 11 00, and owners
-- that begin with their threshold
abbrev without_locktime : List ℕ
without_locktime =
    0 ∷ 1 ∷ 2 ∷ 3 ∷ 4 ∷ 5 ∷ 6 ∷ 7 ∷ 8 ∷ 9 ∷ 10 ∷ 11 ∷ 12 ∷ 13 ∷ 14 ∷ 15 ∷ 16 ∷ 17 ∷ 18 ∷ 19
    ∷ 20 ∷ 21 ∷ 22 ∷ 23 ∷ 24 ∷ 25 ∷ 26 ∷ 27 ∷ 28 ∷ 29 ∷ 30 ∷ 31 ∷ 0 ∷ 0 ∷ 0 ∷ 1 ∷ 241 ∷ 225 ∷ 209 ∷ 193
    ∷ 177 ∷ 161 ∷ 145 ∷ 129 ∷ 113 ∷ 97 ∷ 81 ∷ 65 ∷ 49 ∷ 33 ∷ 17 ∷ 1 ∷ 240 ∷ 224 ∷ 208 ∷ 192 ∷ 176 ∷ 160 ∷ 144 ∷ 128
    ∷ 112 ∷ 96 ∷ 80 ∷ 64 ∷ 48 ∷ 32 ∷ 16 ∷ 0 ∷ 0 ∷ 0 ∷ 0 ∷ 5 ∷ 0 ∷ 0 ∷ 0 ∷ 13 ∷ 0 ∷ 0 ∷ 0 ∷ 2
    ∷ 0 ∷ 0 ∷ 0 ∷ 3 ∷ 0 ∷ 0 ∷ 0 ∷ 7 ∷ 0 ∷ 0 ∷ 48 ∷ 57 ∷ 0 ∷ 0 ∷ 0 ∷ 3 ∷ 67 ∷ 17 ∷ 0 ∷ 0
    ∷ 0 ∷ 0 ∷ 1 ∷ 0 ∷ 0 ∷ 0 ∷ 2 ∷ 81 ∷ 2 ∷ 92 ∷ 97 ∷ 251 ∷ 207 ∷ 192 ∷ 120 ∷ 246 ∷ 147 ∷ 52 ∷ 248 ∷ 52
    ∷ 190 ∷ 109 ∷ 210 ∷ 109 ∷ 85 ∷ 169 ∷ 85 ∷ 195 ∷ 52 ∷ 65 ∷ 40 ∷ 224 ∷ 96 ∷ 18 ∷ 142 ∷ 222 ∷ 53 ∷ 35 ∷ 162 ∷ 74
    ∷ 70 ∷ 28 ∷ 137 ∷ 67 ∷ 171 ∷ 8 ∷ 89 ∷ []

-- ---- the table

pub data Case : Type 0 where
  -- bytes; number and place
  checks : List ℕ → ℕ → ℕ → Case
  -- accepted bytes; their rows, whole
  lists : List ℕ → List ℕ → Case
  -- bytes of an operation alone; number and place
  reads : List ℕ → ℕ → ℕ → Case
  -- two drafts and the output buffer; number, place, and the buffer afterwards
  merges : List ℕ → List ℕ → List ℕ → ℕ → ℕ → List ℕ → Case
  -- a draft, a slot and a signature; number, place, and the draft afterwards
  fills : List ℕ → ℕ → List ℕ → ℕ → ℕ → List ℕ → Case

abbrev rows_of : Parsed (Signed (avm memo_most)) → List ℕ
rows_of (took v n) = rows (entries (avm memo_most) v)
rows_of (refused e) = []

abbrev answered : Result ℕ Refusal × List ℕ → (ℕ × ℕ) × List ℕ
answered (a, s) = ((answer_number a, answer_place a), s)

abbrev pub Holds : Case → Type 0
Holds (checks s n p) = verdict (check (avm memo_most) s) ≡ (n, p)
Holds (lists s rs) = rows_of (check (avm memo_most) s) ≡ rs
Holds (reads s n p) = verdict (read operation s 0) ≡ (n, p)
Holds (merges d e out n p after) = answered (merge_call (reader (avm memo_most)) d e out) ≡ ((n, p), after)
Holds (fills d k s n p after) = answered (fill_call (reader (avm memo_most)) d k s) ≡ ((n, p), after)

abbrev pub AllHold : List Case → Type 0
AllHold [] = Unit {0}
AllHold (c ∷ cs) = Holds c × AllHold cs

abbrev pub table : List Case
table =
    -- P1: A
    checks A 0 392
    ∷ lists A (1 ∷ 46 ∷ 100 ∷ 2 ∷ 150 ∷ 92 ∷ 7 ∷ 254 ∷ 138 ∷ [])
    -- P2: indices 7, 3
    ∷ checks (edited 5 (0 ∷ []) published) 6 238
    -- P3: empty input
    ∷ checks [] 2 0
    -- P4: bytes 00 01
    ∷ checks (0 ∷ 1 ∷ []) 3 0
    -- P5: A and one zero byte
    ∷ checks (A ++ (0 ∷ [])) 13 392
    -- P6: output amount 0
    ∷ checks (edited 82 (0 ∷ 0 ∷ 0 ∷ 0 ∷ 0 ∷ 0 ∷ 0 ∷ 0 ∷ []) A) 5 82
    -- P7: threshold 3
    ∷ checks (edited 98 (0 ∷ 0 ∷ 0 ∷ 3 ∷ []) A) 7 98
    -- P8: threshold 0, two addresses
    ∷ checks (edited 98 (0 ∷ 0 ∷ 0 ∷ 0 ∷ []) A) 7 98
    -- P9: second address equal to the first
    ∷ checks (edited 126 (take 20 (drop 106 A)) A) 6 126
    -- P10: signature count 1
    ∷ checks (edited 258 (0 ∷ 0 ∷ 0 ∷ 1 ∷ []) A) 12 258
    -- P11: first 391 bytes
    ∷ checks (take 391 A) 2 327
    -- P12: memo length 257
    ∷ checks (edited 242 (0 ∷ 0 ∷ 1 ∷ 1 ∷ []) A) 8 242
    -- P13: A with slot 0 emptied, merged with A with slot 1 emptied
    ∷ merges (edited 262 empty A) (edited 327 empty A) (replicate 400 9) 0 392 (A ++ replicate 8 9)
    -- P14: A merged with A whose last byte is 1
    ∷ merges A (edited 391 (1 ∷ []) A) (replicate 400 9) 20 1 (replicate 400 9)
    -- filling: an empty slot; a filled one by its own signature, by 65 zero bytes, by another signature; by 64 bytes; slot 2
    ∷ fills (edited 327 empty A) 1 (take 65 (drop 327 A)) 0 392 A
    ∷ fills A 1 (take 65 (drop 327 A)) 0 392 A
    ∷ fills A 1 empty 0 392 A
    ∷ fills A 1 (take 65 (drop 262 A)) 20 1 A
    ∷ fills A 1 (take 64 (drop 327 A)) 21 0 A
    ∷ fills A 2 (take 65 (drop 327 A)) 15 0 A
    -- the signed example as published; and with its indices in order, which is type 1 over a base body
    ∷ checks published 6 238
    ∷ checks ordered 8 250
    -- the operation that lacks its locktime: its second address is cut short
    ∷ reads without_locktime 2 135
    ∷ []

pub proved-cases : AllHold table
unfolding AnySigned.check unsigned head wants credentials signature_width owners amount transfer_body output transferable_output key indices spend
    input_after terms
    action operation fx_id state_outputs initial_state_after guard string text printable unprintable denomination constant tag count_prefixed integer blob_parse
    items list_parse list_write value digits below rows entries_from credential_entries form wanted asked plan_entries at_least entries blank slot_at put_slot
    put_all layout places same clashes join first_clash body slot_count slot merged merge_call fill_call
proved-cases = (
  refl,
  (
    refl,
    (
      refl,
      (
        refl,
        (
          refl,
          (
            refl,
            (
              refl,
              (
                refl,
                (
                  refl,
                  (refl, (refl, (refl, (refl, (refl, (refl, (refl, (refl, (refl, (refl, (refl, (refl, (refl, (refl, (refl, tt))))))))))))))),
                ),
              ),
            ),
          ),
        ),
      ),
    ),
  ),
)
