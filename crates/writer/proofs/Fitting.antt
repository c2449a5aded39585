-- What a step adds by its name is what the plan has there. Assumes nothing.
use Rattle.std.specs.Prelude.{Result}
use Rattle.wire.specs.declared.Refusal.{Refusal}
use Prim.Native.Nat.{ℕ, suc, ◌+◌}
use mathlib.Core.Path.{◌≡◌, refl, sym, ap, ap₂, ◌∙◌}
use mathlib.Core.Bool.{Bool, true, false, ◌&&◌, false≢true}
use mathlib.Core.List.{List, ◌++◌}
use lib.ListN.{length}
use lib.Dec.{eqb}
use borrow.Author.Tests.{eqb-true}
use Rattle.wire.specs.Bytes.{pick}
use Rattle.wire.specs.Numbers.{step_not_due}
use Rattle.transaction.specs.Plan.{content_of, elements_of, Plan, shut, end, field, many}
use Rattle.transaction.specs.declared.FieldName.{FieldName}
use Rattle.transaction.specs.declared.FieldName.TheVariants as F
use Rattle.transaction.specs.declared.ListName.{ListName}
use Rattle.transaction.specs.declared.ListName.TheVariants as L
use Rattle.writer_rules.specs.Given.{Given}
use Rattle.writer_rules.specs.Judged.{refused_by, judged}
use Rattle.writer_rules.proofs.Verdicts.{both_true}
use Rattle.plan.specs.Due.{field_code, list_code, tail, due_of, is_list, is_field, is_open}
use Rattle.writer_buffer.specs.Stores.{room_for, overwrite}
use Rattle.writer_buffer.specs.code.Stores.{count_of}
use Rattle.writer.specs.declared.Writer.{Writer}
use Rattle.writer.specs.declared.Step.{Step}
use Rattle.writer.specs.Steps.{Turn, answered, guarded, prev, sane, grown, appended, opening, opened, same_field, same_list, put_field_at, put_element_at}
use Rattle.writer.specs.Steps.{after}
use Rattle.writer.specs.code.Answer.{not_due_step}
use Rattle.writer.proofs.Laws.{guarded-not}
use Rattle.writer.proofs.Entering.{kept_out}

-- ---- names by their codes

abbrev field_at : ℕ → FieldName
field_at n = pick (eqb n 0) F.Memo (pick (eqb n 1) F.Name (pick (eqb n 2) F.Symbol (pick (eqb n 3) F.Denomination F.Chain)))

field_at-code : (f : FieldName) → field_at (field_code f) ≡ f
field_at-code F.Memo = refl
field_at-code F.Name = refl
field_at-code F.Symbol = refl
field_at-code F.Denomination = refl
field_at-code F.Chain = refl

pub same-field : (f h : FieldName) → same_field f h ≡ true → h ≡ f
same-field f h e = sym (field_at-code h) ∙ ap field_at (sym (eqb-true (field_code f) (field_code h) e)) ∙ field_at-code f

-- lists with the same code judge an element alike
module _ (last : List ℕ) (g : Given) (v : Result (Unit {0}) Refusal) where
  abbrev list_judged : ListName → Result (Unit {0}) Refusal
  list_judged l = judged ((elements_of l).element last) g v

  -- the verdict by a list's code
  abbrev integer_judged : ℕ → Result (Unit {0}) Refusal
  integer_judged n = list_judged (pick (eqb n 0) L.Output (pick (eqb n 1) L.Input (pick (eqb n 2) L.State L.Operation)))

  integer-judged : (l : ListName) → integer_judged (list_code l) ≡ list_judged l
  integer-judged L.Output = refl
  integer-judged L.Input = refl
  integer-judged L.State = refl
  integer-judged L.Operation = refl
  integer-judged L.Imported = refl
  integer-judged L.Exported = refl

  pub same-list : (l m : ListName) → same_list l m ≡ true → list_judged m ≡ list_judged l
  same-list l m e = sym (integer-judged m) ∙ ap integer_judged (sym (eqb-true (list_code l) (list_code m) e)) ∙ integer-judged l

pub opening-is : (q : Plan) → opening q ≡ count_of (is_list (due_of q))
opening-is shut = refl
opening-is end = refl
opening-is (field f q) = refl
opening-is (many l least q) = refl

no : {P : Type 0} → false ≡ true → P
no e = absurd (false≢true e)

-- ---- a step by a field's name

module _ (most : ℕ) (w : Writer) (s : List ℕ) (f : FieldName) (g : Given) where
  pub other-field : (r : Step) → r ≡ not_due_step w → (q : Plan) → is_field f (due_of q) ≡ false → after r s ≡ put_field_at most q w s f g
  unfolding put_field_at
  other-field r h shut e = kept_out w s (refused_by step_not_due) w s _ refl r h
  other-field r h end e = kept_out w s (refused_by step_not_due) w s _ refl r h
  other-field r h (field k q) e = kept_out w s _ _ _ _ (guarded-not (same_field f k) w s _ e) r h
  other-field r h (many l least q) e = kept_out w s (refused_by step_not_due) w s _ refl r h

  -- the verdict on the field once it is due; `opens` says whether a list is next
  abbrev pub field_verdict : Bool → Result (Unit {0}) Refusal
  field_verdict opens = guarded true w s (judged (content_of most f) g (room_for (w.at + length (g.bytes ++ count_of opens)) s))

  -- the step where the field is due
  abbrev pub field_step : Result (Unit {0}) Refusal → Bool → Turn
  field_step v opens =
      answered v w s
      record {
        type_id = w.type_id;
        phase = suc w.phase;
        at = w.at + length g.bytes + length (count_of opens);
        list = w.at + length g.bytes;
        count = 0;
        last = 0;
      }
      (overwrite s w.at (g.bytes ++ count_of opens))

  field-here : (q : Plan) (h : FieldName) → same_field f h ≡ true
      → field_step (field_verdict (is_list (due_of q))) (is_list (due_of q)) ≡ put_field_at most (field h q) w s f g
  unfolding put_field_at
  field-here q h e =
      ap (λ (c : List ℕ). answered (guarded true w s (judged (content_of most f) g (room_for (w.at + length (g.bytes ++ c)) s))) w s
      (record {
        type_id = w.type_id;
        phase = suc w.phase;
        at = w.at + length g.bytes + length c;
        list = w.at + length
            g.bytes;
        count = 0;
        last = 0;
      })
      (overwrite s w.at (g.bytes ++ c))) (sym (opening-is q))
      ∙ ap₂ (λ (t : Bool) (k : FieldName).
      answered (guarded t w s (judged (content_of most k) g (room_for (w.at + length (g.bytes ++ opening q)) s))) w s
      (opened w.type_id (suc w.phase) (w.at + length g.bytes) q) (overwrite s w.at (g.bytes ++ opening q))) (sym e) (sym (same-field f h e))

  pub field_put : (q : Plan) → is_field f (due_of q) ≡ true → (opens : Bool) → opens ≡ is_list (due_of (tail q))
      → field_step (field_verdict opens) opens ≡ put_field_at most q w s f g
  field_put shut e opens o = no e
  field_put end e opens o = no e
  field_put (field h q) e opens o = ap (λ (b : Bool). field_step (field_verdict b) b) o ∙ field-here q h e
  field_put (many l least q) e opens o = no e

-- ---- a step by a list's name

module _ (w : Writer) (s : List ℕ) (l : ListName) (g : Given) where
  pub other-list : (r : Step) → r ≡ not_due_step w → (q : Plan) → (is_open l (due_of q) && sane w) ≡ false → after r s ≡ put_element_at q w s l g
  unfolding put_element_at
  other-list r h shut e = kept_out w s (refused_by step_not_due) w s _ refl r h
  other-list r h end e = kept_out w s (refused_by step_not_due) w s _ refl r h
  other-list r h (field f q) e = kept_out w s (refused_by step_not_due) w s _ refl r h
  other-list r h (many m least q) e = kept_out w s _ _ _ _ (guarded-not (same_list l m && sane w) w s _ e) r h

  -- the verdict on the element once it is due
  abbrev pub element_verdict : Result (Unit {0}) Refusal
  element_verdict = guarded true w s (judged ((elements_of l).element (prev w s)) g (room_for (w.at + length g.bytes) s))

  pub element-put : (q : Plan) → (is_open l (due_of q) && sane w) ≡ true
      → answered element_verdict w s (grown w (length g.bytes)) (appended w s g.bytes) ≡ put_element_at q w s l g
  unfolding put_element_at
  element-put shut e = no e
  element-put end e = no e
  element-put (field f q) e = no e
  element-put (many m least q) e =
      ap₂ (λ (t : Bool) (v : Result (Unit {0}) Refusal). answered (guarded t w s v) w s (grown w (length g.bytes)) (appended w s g.bytes)) (sym e)
      (sym (same-list (prev w s) g (room_for (w.at + length g.bytes) s) l m (both_true (same_list l m) (sane w) e).0))
