-- What every call of merge and fill guarantees, by the cases of its tests. Assumes nothing.
use Rattle.std.specs.Prelude.{Option, None, Some}
use mathlib.Core.Path.{refl}
use mathlib.Core.Logic.{inl, inr}
use mathlib.Core.Bool.{Bool, true, false}
use mathlib.Core.List.{List}
use Prim.Native.Nat.{ℕ}
use lib.Dec.{leb, ltb, eqb}
use lib.ListN.{length, get_or}
use Rattle.transaction.specs.Slots.{signature_width, put_slot}
use Rattle.draft_slots.specs.Joining.{same, clashes, join, first_clash}
use Rattle.draft.specs.Reader.{Reader, body, slot_count, slot}
use Rattle.draft.specs.Calls.{merged, decide_merge, merge_call, decide_fill, fill_call}
use Rattle.draft_theorems.specs.Answers.{merge_numbers, fill_numbers, Owes, CallsOwe}

merge-cases : (a b c : Bool) (o : Option ℕ) (r : Bool) (m out : List ℕ) → Owes merge_numbers out (decide_merge a b c o r m out)
merge-cases false b c o r m out = record { number = inr (inr (inl refl)); refused = λ h. refl; place = inr refl }
merge-cases true false c o r m out = record { number = inr (inr (inr (inl refl))); refused = λ h. refl; place = inr refl }
merge-cases true true false o r m out = record { number = inr (inr (inr (inr (inl refl)))); refused = λ h. refl; place = inr refl }
merge-cases true true true (Some k) r m out = record { number = inr (inr (inr (inr (inr (inl refl))))); refused = λ h. refl; place = inl (inr (inl refl)) }
merge-cases true true true None false m out = record { number = inr (inl refl); refused = λ h. refl; place = inr refl }
merge-cases true true true None true m out = record { number = inl refl; refused = λ h. absurd (h refl); place = inl (inl refl) }

fill-cases : (a b l c : Bool) (k : ℕ) (m d : List ℕ) → Owes fill_numbers d (decide_fill a b l c k m d)
fill-cases false b l c k m d = record { number = inr (inr (inl refl)); refused = λ h. refl; place = inr refl }
fill-cases true false l c k m d = record { number = inr (inl refl); refused = λ h. refl; place = inr refl }
fill-cases true true false c k m d = record { number = inr (inr (inr (inr (inl refl)))); refused = λ h. refl; place = inr refl }
fill-cases true true true true k m d = record { number = inr (inr (inr (inl refl))); refused = λ h. refl; place = inl (inr (inl refl)) }
fill-cases true true true false k m d = record { number = inl refl; refused = λ h. absurd (h refl); place = inl (inl refl) }

pub calls-owe : (R : Reader) → CallsOwe R
unfolding merge_call fill_call
calls-owe R =
    record {
      merge = λ d e out.
          merge-cases (R.accepts d) (R.accepts e) (same (body R d) (body R e)) (first_clash 0 (R.slots d) d e) (leb (length d) (length out))
          (merged R d e) out;
      fill = λ d k s.
          fill-cases (R.accepts d) (ltb k (slot_count R d)) (eqb (length s) signature_width) (clashes (slot R d k) s) k
          (put_slot (get_or (R.slots d) k 0) (join (slot R d k) s) d) d;
    }
