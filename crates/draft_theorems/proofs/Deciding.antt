-- The condition on which a call of merge or fill gives each answer. Assumes nothing but `Laws`.
use Rattle.std.specs.Prelude.{Ok, Option, None, Some}
use mathlib.Core.Path.{◌≡◌, refl, ap, ◌∙◌}
use mathlib.Core.Bool.{true, false}
use mathlib.Core.List.{List, ◌++◌}
use Prim.Native.Nat.{ℕ, ◌≤◌, ◌<◌}
use lib.ListN.{length, drop}
use borrow.Author.Tests.{le-leb, lt-leb, lt-ltb, le-ltb, ne_eqb}
use Rattle.wire.specs.Numbers.{no_room, no_entry, first_not_accepted, second_not_accepted, drafts_differ, conflict, not_a_signature}
use Rattle.transaction.specs.Slots.{signature_width}
use Rattle.draft_slots.specs.Joining.{first_clash}
use Rattle.draft_slots.proofs.Comparing.{same-no, first_some}
use Rattle.draft.specs.Reader.{Reader, Draft, body, slot_count}
use Rattle.draft.specs.Calls.{refuse, merged, merge_call, fill_call}
use Rattle.draft_theorems.specs.Demand.{FirstClash}
use Rattle.draft_theorems.specs.Answers.{CallsDecide}
use Rattle.draft_theorems.proofs.Laws.{Laws, like-self}
use Rattle.draft_theorems.proofs.Merging.{merged-like, called, first-clash}
use Rattle.draft_theorems.proofs.Pairing.{first_one, le, call-is, no-first}

-- ---- drafts of one unsigned transaction

module _ (R : Reader) (L : Laws R) (d e out : List ℕ) (hd : Draft R d) (he : Draft R e) (same_body : body R d ≡ body R e) where
  first-is : (j : ℕ) → first_clash 0 (R.slots d) d e ≡ Some j → FirstClash R d e j
  first-is j h = first-clash R L d hd d e (like-self R d hd) (le R L d e out hd he same_body) j (first_some 0 (R.slots d) d e j h)

  clash-refused : (k : ℕ) → FirstClash R d e k → merge_call R d e out ≡ (refuse conflict k, out)
  clash-refused k f = go (first_clash 0 (R.slots d) d e) refl
    where
      go : (o : Option ℕ) → first_clash 0 (R.slots d) d e ≡ o → merge_call R d e out ≡ (refuse conflict k, out)
      go None h = absurd (no-first R L d e out hd he same_body h k f)
      go (Some j) h =
          call-is R L d e out hd he same_body (Some j) h ∙ ap (λ (i : ℕ). (refuse conflict i, out)) (first_one R d e j k (first-is j h) f)

  module _ (free : (k : ℕ) → FirstClash R d e k → ⊥) where
    none_first : first_clash 0 (R.slots d) d e ≡ None
    none_first = go (first_clash 0 (R.slots d) d e) refl
      where
        go : (o : Option ℕ) → first_clash 0 (R.slots d) d e ≡ o → first_clash 0 (R.slots d) d e ≡ None
        go None h = h
        go (Some j) h = absurd (free j (first-is j h))

    room-missing : length out < length d → merge_call R d e out ≡ (refuse no_room 0, out)
    room-missing h =
        called R L d hd d e (like-self R d hd) (le R L d e out hd he same_body) None false out none_first (lt-leb (length d) (length out) h)

    room-given : length d ≤ length out → merge_call R d e out ≡ (Ok (length d), merged R d e ++ drop (length d) out)
    room-given h =
        called R L d hd d e (like-self R d hd) (le R L d e out hd he same_body) None true out none_first (le-leb (length d) (length out) h)
        ∙ ap (λ (n : ℕ). (Ok n, merged R d e ++ drop n out)) (merged-like R L d hd d e (like-self R d hd) (le R L d e out hd he same_body)).frame.long

-- ---- inputs that are not accepted, or not of one unsigned transaction; a slot that does not exist; bytes that are no signature

module _ (R : Reader) where
  first-not : (d e out : List ℕ) → R.accepts d ≡ false → merge_call R d e out ≡ (refuse first_not_accepted 0, out)
  unfolding merge_call
  first-not d e out h = rw h

  second-not : (d e out : List ℕ) → R.accepts d ≡ true → R.accepts e ≡ false → merge_call R d e out ≡ (refuse second_not_accepted 0, out)
  unfolding merge_call
  second-not d e out h k = rw (h, k)

  unlike : (d e out : List ℕ) → R.accepts d ≡ true → R.accepts e ≡ true → (body R d ≡ body R e → ⊥) → merge_call R d e out ≡ (refuse drafts_differ 0, out)
  unfolding merge_call
  unlike d e out h k n = rw (h, k, same-no (body R d) (body R e) n)

  module _ (d : List ℕ) (k : ℕ) (s : List ℕ) where
    draft-not : R.accepts d ≡ false → fill_call R d k s ≡ (refuse first_not_accepted 0, d)
    unfolding fill_call
    draft-not h = rw h

    slot-not : R.accepts d ≡ true → slot_count R d ≤ k → fill_call R d k s ≡ (refuse no_entry 0, d)
    unfolding fill_call
    slot-not h b = rw (h, le-ltb k (slot_count R d) b)

    signature-not : R.accepts d ≡ true → k < slot_count R d → (length s ≡ signature_width → ⊥) → fill_call R d k s ≡ (refuse not_a_signature 0, d)
    unfolding fill_call
    signature-not h b n = rw (h, lt-ltb k (slot_count R d) b, ne_eqb (length s) signature_width n)

pub calls-decide : (R : Reader) → Laws R → CallsDecide R
calls-decide R L =
    record {
      first-refused = first-not R;
      second-refused = second-not R;
      differ = unlike R;
      conflict = λ d e out hd he h. clash-refused R L d e out hd he h;
      no_room = λ d e out hd he h n. room-missing R L d e out hd he h n;
      done = λ d e out hd he h n. room-given R L d e out hd he h n;
      fill-refused = draft-not R;
      no_slot = slot-not R;
      not-a-signature = signature-not R;
    }
