-- The hypotheses of demand 3 can be met. Assumes nothing.
use Rattle.std.specs.Prelude.{None, Some}
use mathlib.Core.Path.{◌≡◌, refl, sym, ap, ◌∙◌}
use mathlib.Core.Logic.{inl, inr}
use mathlib.Core.Bool.{Bool, true, ◌&&◌}
use mathlib.Core.List.{List, [], ◌∷◌}
use Prim.Native.Nat.{ℕ, zero, suc, ◌<◌}
use native.Mathlib.Omega.{arith}
use lib.Dec.{ltb}
use lib.ListN.{take, drop, get_or}
use borrow.Author.Tests.{ltb-true}
use Rattle.wire.specs.Bytes.{Bytes, value, digits, below}
use Rattle.wire.specs.Fields.{integer}
use Rattle.wire.specs.Sequence.{items}
use Rattle.wire.specs.Parsers.{list_parse, list_write, blob_parse}
use Rattle.string.specs.Strings.{string}
use Rattle.owners.specs.Owners.{owners}
use Rattle.element.specs.Outputs.{transfer_body, transferable_output}
use Rattle.element.specs.Inputs.{key, spend, input_after}
use Rattle.transaction.specs.Slots.{signature_width, blank, slot_at, put_slot, put_all}
use Rattle.transaction.specs.Credentials.{credentials, layout, places}
use Rattle.transaction.specs.Form.{at_least, form, asked, wanted}
use Rattle.transaction.specs.Signed as AnySigned
use Rattle.transaction.specs.Family.{head, unsigned, wants}
use Rattle.draft_slots.specs.Joining.{same}
use Rattle.draft_slots.proofs.Comparing.{and-true}
use Rattle.draft.specs.Reader.{Draft, body, slot_count, slot}
use Rattle.draft_theorems.specs.Groupings.{Drafts, Uses, result}
use Rattle.draft_theorems.specs.Demand.{Conflict, merge_of}
use Rattle.draft_theorems.proofs.Ordering.{drafts-one, drafts-more}
use Rattle.draft_theorems.proofs.Theorems.{avm-demand-3}
use Rattle.claims.specs.Cases.{A, edited, empty}
use Rattle.claims.specs.Instance.{Avm, halves, clashing, one_call, Supposed, Instances}

-- ---- facts found by computing

abbrev all_below : List ℕ → Bool
all_below [] = true
all_below (x ∷ xs) = ltb x 256 && all_below xs

-- d is bytes, is accepted, and has A's unsigned transaction
abbrev LikeA : List ℕ → Type 0
LikeA d = (all_below d ≡ true) × (Avm.accepts d ≡ true) × (body Avm d ≡ body Avm A)

record Computed : Type 0 where
  accepted : LikeA A
  first-emptied : LikeA (edited 262 empty A)
  second-emptied : LikeA (edited 327 empty A)
  last-changed : LikeA (edited 391 (1 ∷ []) A)
  halves-merge : merge_of Avm halves ≡ A
  halves-result : result Avm halves one_call ≡ Some A
  clashing-result : result Avm clashing one_call ≡ None
  slots : slot_count Avm A ≡ 2
  slot-A : slot Avm A 1 ≡ take 65 (drop 327 A)
  slot-changed : slot Avm (edited 391 (1 ∷ []) A) 1 ≡ take 65 (drop 327 (edited 391 (1 ∷ []) A))
  zeros : blank ≡ empty

computed : Computed
unfolding AnySigned.check unsigned head wants credentials signature_width owners transfer_body transferable_output key spend input_after string integer
    blob_parse
    items list_parse list_write value digits below form wanted asked at_least blank slot_at put_slot put_all layout places same body slot_count slot
    merge_of result
computed =
    record {
      accepted = (refl, refl, refl);
      first-emptied = (refl, refl, refl);
      second-emptied = (refl, refl, refl);
      last-changed = (refl, refl, refl);
      halves-merge = refl;
      halves-result = refl;
      clashing-result = refl;
      slots = refl;
      slot-A = refl;
      slot-changed = refl;
      zeros = refl;
    }

bytes : (s : List ℕ) → all_below s ≡ true → Bytes s
bytes [] h = tt
bytes (x ∷ xs) h = let (a, b) = and-true (ltb x 256) (all_below xs) h in (ltb-true x 256 a, bytes xs b)

-- ---- the two lists of drafts, and the call on each

draft-like : (d : List ℕ) → LikeA d → Draft Avm d
draft-like d c = record { bytes = bytes d c.0; accepted = c.1 }

two-drafts : (d e : List ℕ) → LikeA d → LikeA e → Drafts Avm (d ∷ e ∷ [])
two-drafts d e c f = drafts-more Avm (e ∷ []) d (drafts-one Avm e (draft-like e f)) (draft-like d c, c.2 ∙ sym f.2)

uses-both : (i : ℕ) → i < 2 → Uses one_call i
uses-both zero b = inl refl
uses-both (suc i) b = inr (omega arith)

halves-supposed : Supposed halves one_call
halves-supposed =
    record {
      drafts = two-drafts (edited 262 empty A) (edited 327 empty A) computed.first-emptied computed.second-emptied;
      fits = ((0, omega arith, omega arith), omega arith, omega arith);
      uses = uses-both;
    }

clashing-supposed : Supposed clashing one_call
clashing-supposed =
    record {
      drafts = two-drafts A (edited 391 (1 ∷ []) A) computed.accepted computed.last-changed;
      fits = ((0, omega arith, omega arith), omega arith, omega arith);
      uses = uses-both;
    }

-- the call has a result, so there is no conflict
halves-free : Conflict Avm halves → ⊥
halves-free c =
    let h : Supposed halves one_call = halves-supposed in
    never (sym ((avm-demand-3.groupings halves h.drafts one_call h.fits h.uses).no_result c) ∙ computed.halves-result)
  where
    never : {x : List ℕ} → None ≡ Some x → ⊥
    never p = let y : ◌≡◌ {A = ℕ} 0 1 = cc in omega arith

-- slot 1 is filled in both, for its first byte is 64, and its last bytes differ
clashing-conflict : Conflict Avm clashing
clashing-conflict =
    record {
      k = 1;
      i = 0;
      j = 1;
      i-in = omega arith;
      j-in = omega arith;
      k-in = omega (arith, computed.slots);
      clash = record {
        first = λ e. unlike 0 (sym computed.slot-A ∙ e ∙ computed.zeros) (omega arith);
        second = λ e. unlike 0 (sym computed.slot-changed ∙ e ∙ computed.zeros) (omega arith);
        differ = λ e. unlike 64 (sym computed.slot-A ∙ e ∙ computed.slot-changed) (omega arith);
      };
    }
  where
    unlike : (n : ℕ) {a b : List ℕ} → a ≡ b → (get_or a n 0 ≡ get_or b n 0 → ⊥) → ⊥
    unlike n e f = f (ap (λ (s : List ℕ). get_or s n 0) e)

pub instances : Instances
instances =
    record {
      halves-supposed = halves-supposed;
      halves-free = halves-free;
      halves-merge = computed.halves-merge;
      halves-result = computed.halves-result;
      clashing-supposed = clashing-supposed;
      clashing-conflict = clashing-conflict;
      clashing-result = computed.clashing-result;
    }
