-- One call of merge and one of fill: the answer, and every byte of the lent buffer afterwards (document 01, "Drafts, slots, merging").
-- Assumes nothing.
use Rattle.wire.specs.declared.Refusal.{Refusal}
use Rattle.std.specs.Prelude.{Bool, true, false, List, ◌++◌, ℕ, leb, ltb, eqb, length, drop, get_or, Ok, Err, Option, Result, None, Some}
use Rattle.wire.specs.declared.Rule.{Rule}
use Rattle.wire.specs.Numbers.{refusal, number_of, no_room, no_entry, first_not_accepted, second_not_accepted, drafts_differ, conflict, not_a_signature}
use Rattle.transaction.specs.Slots.{signature_width, slot_at, put_slot, put_all}
use Rattle.draft_slots.specs.Joining.{same, clashes, join, first_clash}
use Rattle.draft.specs.Reader.{Reader, body, slot_count, slot}

-- the number and the place that an answer reports
abbrev pub answer_number : Result ℕ Refusal → ℕ
answer_number (Ok n) = 0
answer_number (Err e) = number_of e

abbrev pub answer_place : Result ℕ Refusal → ℕ
answer_place (Ok n) = n
answer_place (Err e) = e.place

abbrev pub refuse : Rule → ℕ → Result ℕ Refusal
refuse r p = Err (refusal r p)

-- ---- merge

-- the bytes of d, except that each slot holds the join of d's and e's
unfoldable pub merged : Reader → List ℕ → List ℕ → List ℕ
unfolding join put_all
merged R d e = put_all (R.slots d) (λ p. join (slot_at d p) (slot_at e p)) d

-- the tests in their order: first accepted, second accepted, equal before the credential count, no clash, room
abbrev pub decide_merge : Bool → Bool → Bool → Option ℕ → Bool → List ℕ → List ℕ → Result ℕ Refusal × List ℕ
decide_merge false b c o r m out = (refuse first_not_accepted 0, out)
decide_merge true false c o r m out = (refuse second_not_accepted 0, out)
decide_merge true true false o r m out = (refuse drafts_differ 0, out)
decide_merge true true true (Some k) r m out = (refuse conflict k, out)
decide_merge true true true None false m out = (refuse no_room 0, out)
decide_merge true true true None true m out = (Ok (length m), m ++ drop (length m) out)

unfoldable pub merge_call : Reader → List ℕ → List ℕ → List ℕ → Result ℕ Refusal × List ℕ
unfolding merged body same first_clash
merge_call R d e out =
    decide_merge (R.accepts d) (R.accepts e) (same (body R d) (body R e)) (first_clash 0 (R.slots d) d e) (leb (length d) (length out))
    (merged R d e) out

-- ---- fill

-- the tests in their order: accepted, slot k exists, 65 bytes, no other signature there. 65 zero bytes are done and change nothing
abbrev pub decide_fill : Bool → Bool → Bool → Bool → ℕ → List ℕ → List ℕ → Result ℕ Refusal × List ℕ
decide_fill false b l c k m d = (refuse first_not_accepted 0, d)
decide_fill true false l c k m d = (refuse no_entry 0, d)
decide_fill true true false c k m d = (refuse not_a_signature 0, d)
decide_fill true true true true k m d = (refuse conflict k, d)
decide_fill true true true false k m d = (Ok (length d), m)

unfoldable pub fill_call : Reader → List ℕ → ℕ → List ℕ → Result ℕ Refusal × List ℕ
unfolding slot slot_count clashes join put_slot
fill_call R d k s =
    decide_fill (R.accepts d) (ltb k (slot_count R d)) (eqb (length s) signature_width) (clashes (slot R d k) s) k
    (put_slot (get_or (R.slots d) k 0) (join (slot R d k) s) d) d
