-- A step that names a segment is the step that the plan has there. Assumes nothing.
use Rattle.std.specs.Prelude.{Ok, Err, Result}
use Prim.Native.Nat.{ℕ, ◌+◌, ◌≤◌, ◌<◌}
use mathlib.Core.Path.{◌≡◌, refl, sym, ap, ◌∙◌}
use mathlib.Core.Bool.{Bool, true, false, not, ◌&&◌, false≢true}
use mathlib.Core.List.{List, ◌++◌}
use native.Mathlib.Omega.{arith}
use lib.ListN.{length}
use Rattle.wire.specs.declared.Refusal.{Refusal}
use Rattle.transaction.specs.Signed.{most_bytes}
use Rattle.transaction.specs.Plan.{content_of, elements_of, Plan, shut, end, field, many, plan_of}
use Rattle.transaction.specs.Avm.{avm}
use Rattle.transaction.specs.declared.FieldName.{FieldName}
use Rattle.transaction.specs.declared.ListName.{ListName}
use Rattle.writer_rules.specs.Given.{Given}
use Rattle.writer_rules.specs.Judged.{judged}
use Rattle.writer_rules.specs.code.Judged.{on_allowed}
use Rattle.writer_rules.proofs.Verdicts.{both_true, judged-on}
use Rattle.plan.specs.declared.Due.{Due}
use Rattle.plan.specs.declared.Due.TheVariants as D
use Rattle.plan.specs.Due.{tail, due, due_of, is_list, is_field, is_open}
use Rattle.plan.specs.code.Rows.{last_phase, Live}
use Rattle.plan.proofs.RowLaws.{due-next, phase-small}
use Rattle.writer_buffer.specs.Stores.{room_for}
use Rattle.writer_buffer.specs.code.Stores.{count_of}
use Rattle.writer_buffer.proofs.Stores.{room-inv}
use Rattle.writer.specs.declared.Writer.{Writer}
use Rattle.writer.specs.declared.Step.{Step}
use Rattle.writer.specs.Steps.{guarded_in, answered, prev, sane, grown, appended, put_field, put_element, after}
use Rattle.writer.specs.code.Answer.{refused_step, not_due_step, no_room_step, due_at, segment_step, opens_next, element_step}
use Rattle.writer.proofs.Laws.{guarded-fine, guarded-short, not-true, not-false, by-unready}
use Rattle.writer.proofs.Entering.{kept_out}
use Rattle.writer.proofs.Fitting.{other-field, field_verdict, field_step, field_put, other-list, element_verdict, element-put}

-- ---- the segment after the one that is due

module _ (t : Due → Bool) (none : t D.Nothing ≡ false) where
  live : (q : Plan) → t (due_of q) ≡ true → Live q
  live shut e = false≢true (sym none ∙ e)
  live end e = tt
  live (field h q) e = tt
  live (many l least q) e = tt

  pub next-opens : (w : Writer) → t (due_at w) ≡ true → opens_next w ≡ is_list (due_of (tail (due w.phase (plan_of w.type_id))))
  next-opens w e =
      let P : Plan = plan_of w.type_id in
      let q : Plan = due w.phase P in
      ap (λ (z : Plan). is_list (due_of z)) (due-next w.phase P q (live q e) refl)

-- ---- fields

-- t says whether the field is due
module _ (w : Writer) (s : List ℕ) (f : FieldName) (t : Bool) (ht : t ≡ is_field f (due_at w)) where
  pub field-not : not t ≡ true → (r : Step) → r ≡ not_due_step w → (most : ℕ) (g : Given) → after r s ≡ put_field (avm most) w s f g
  unfolding put_field
  field-not n r h most g = other-field most w s f g r h (due w.phase (plan_of w.type_id)) (sym ht ∙ not-true t n)

  module _ (n : not t ≡ false) where
    field-due : is_field f (due_at w) ≡ true
    field-due = sym ht ∙ not-false t n

    pub field-small : w.phase ≤ last_phase
    field-small = phase-small w.type_id w.phase (is_field f) refl field-due

    module _ (most : ℕ) (g : Given) where
      field-here : field_step most w s f g (field_verdict most w s f g (opens_next w)) (opens_next w) ≡ put_field (avm most) w s f g
      unfolding put_field
      field-here =
          field_put most w s f g (due w.phase (plan_of w.type_id)) field-due (opens_next w) (next-opens (is_field f) refl w field-due)

      pub field-short : length s < w.at → (r : Step) → r ≡ no_room_step w → after r s ≡ put_field (avm most) w s f g
      field-short k r h = kept_out w s _ _ _ _ (guarded-short true w s _ refl k) r h ∙ field-here

      -- x is the verdict of the field's rules
      module _ (long : w.at ≤ length s) (x : Result (Unit {0}) Refusal) (hx : x ≡ judged (content_of most f) g (Ok tt)) where
        abbrev room : Result (Unit {0}) Refusal
        room = room_for (w.at + length (g.bytes ++ count_of (opens_next w))) s

        field-judged : (v : Result (Unit {0}) Refusal) → x ≡ v → field_verdict most w s f g (opens_next w) ≡ on_allowed v room
        field-judged v e =
            guarded-fine true w s _ refl long ∙ judged-on (content_of most f) g room ∙ ap (λ (y : Result (Unit {0}) Refusal). on_allowed y room) (sym hx ∙ e)

        pub field-refused : (d : Refusal) → x ≡ Err d → (r : Step) → r ≡ refused_step w d → after r s ≡ put_field (avm most) w s f g
        field-refused d e r h = kept_out w s _ _ _ d (field-judged (Err d) e) r h ∙ field-here

        -- zs is what the code has written of the field
        pub field_is : x ≡ (Ok tt) → (zs : List ℕ) → zs ≡ g.bytes → (r : Step) (u : List ℕ) → after r u ≡ segment_step w s zs (opens_next w)
            → after r u ≡ put_field (avm most) w s f g
        field_is e zs hz r u h =
            h ∙ ap (λ (y : List ℕ). segment_step w s y (opens_next w)) hz
            ∙ ap (λ (v : Result (Unit {0}) Refusal). field_step most w s f g v (opens_next w)) (sym (field-judged (Ok tt) e)) ∙ field-here

  -- the step's first tests refuse it
  pub field-unready : (x : Result (Unit {0}) Refusal) → x ≡ guarded_in t w (length s) (Ok tt) → (d : Refusal) → x ≡ Err d → (r : Step) → r ≡ refused_step w d
      → (most : ℕ) (g : Given) → after r s ≡ put_field (avm most) w s f g
  field-unready x p d e r h most g =
      by-unready t w (length s) x p d e (λ n i. field-not (ap not n) r (h ∙ ap (refused_step w) i) most g)
      (λ n k i. field-short (ap not n) most g k r (h ∙ ap (refused_step w) i))

-- ---- elements

-- the bytes of an element matter only if it is not longer than a transaction
element-bytes : (w : Writer) (s ys zs : List ℕ) → length ys ≡ length zs → (length ys ≤ most_bytes → ys ≡ zs) → element_step w s ys ≡ element_step w s zs
unfolding answered
element-bytes w s ys zs long e = go (room_for (w.at + length ys) s) refl
  where
    go : (v : Result (Unit {0}) Refusal) → room_for (w.at + length ys) s ≡ v → element_step w s ys ≡ element_step w s zs
    go (Ok tt) f = ap (element_step w s) (e (omega (arith, (room-inv (w.at + length ys) s f).1)))
    go (Err d) f =
        let k : room_for (w.at + length zs) s ≡ Err d = ap (λ (i : ℕ). room_for (w.at + i) s) (sym long) ∙ f in
        ap (λ (v : Result (Unit {0}) Refusal). answered v w s (grown w (length ys)) (appended w s ys)) f
        ∙ ap (λ (v : Result (Unit {0}) Refusal). answered v w s (grown w (length zs)) (appended w s zs)) (sym k)

-- t says whether the element is due
module _ (w : Writer) (s : List ℕ) (l : ListName) (t : Bool) (ht : t ≡ (is_open l (due_at w) && sane w)) where
  pub element-not : not t ≡ true → (r : Step) → r ≡ not_due_step w → (most : ℕ) (g : Given) → after r s ≡ put_element (avm most) w s l g
  unfolding put_element
  element-not n r h most g = other-list w s l g r h (due w.phase (plan_of w.type_id)) (sym ht ∙ not-true t n)

  module _ (n : not t ≡ false) where
    element-due : (is_open l (due_at w) && sane w) ≡ true
    element-due = sym ht ∙ not-false t n

    pub element-sane : sane w ≡ true
    element-sane = (both_true (is_open l (due_at w)) (sane w) element-due).1

    module _ (most : ℕ) (g : Given) where
      element-here : answered (element_verdict w s l g) w s (grown w (length g.bytes)) (appended w s g.bytes) ≡ put_element (avm most) w s l g
      unfolding put_element
      element-here = element-put w s l g (due w.phase (plan_of w.type_id)) element-due

      pub element-short : length s < w.at → (r : Step) → r ≡ no_room_step w → after r s ≡ put_element (avm most) w s l g
      element-short k r h = kept_out w s _ _ _ _ (guarded-short true w s _ refl k) r h ∙ element-here

      -- x is the verdict of the element's rules
      module _ (long : w.at ≤ length s) (x : Result (Unit {0}) Refusal) (hx : x ≡ judged ((elements_of l).element (prev w s)) g (Ok tt)) where
        abbrev space : Result (Unit {0}) Refusal
        space = room_for (w.at + length g.bytes) s

        element-judged : (v : Result (Unit {0}) Refusal) → x ≡ v → element_verdict w s l g ≡ on_allowed v space
        element-judged v e =
            guarded-fine true w s _ refl long ∙ judged-on ((elements_of l).element (prev w s)) g space
            ∙ ap (λ (y : Result (Unit {0}) Refusal). on_allowed y space) (sym hx ∙ e)

        pub element-refused : (d : Refusal) → x ≡ Err d → (r : Step) → r ≡ refused_step w d → after r s ≡ put_element (avm most) w s l g
        element-refused d e r h = kept_out w s _ _ _ d (element-judged (Err d) e) r h ∙ element-here

        -- zs is what the code has written of the element
        pub element-is : x ≡ (Ok tt) → (zs : List ℕ) → length zs ≡ length g.bytes → (length zs ≤ most_bytes → zs ≡ g.bytes)
            → (r : Step) (u : List ℕ) → after r u ≡ element_step w s zs → after r u ≡ put_element (avm most) w s l g
        element-is e zs same i r u h =
            h ∙ element-bytes w s zs g.bytes same i
            ∙ ap (λ (v : Result (Unit {0}) Refusal). answered v w s (grown w (length g.bytes)) (appended w s g.bytes)) (sym (element-judged (Ok tt) e))
            ∙ element-here

  pub element-unready : (x : Result (Unit {0}) Refusal) → x ≡ guarded_in t w (length s) (Ok tt) → (d : Refusal) → x ≡ Err d → (r : Step) → r ≡ refused_step w d
      → (most : ℕ) (g : Given) → after r s ≡ put_element (avm most) w s l g
  element-unready x p d e r h most g =
      by-unready t w (length s) x p d e (λ n i. element-not (ap not n) r (h ∙ ap (refused_step w) i) most g)
      (λ n k i. element-short (ap not n) most g k r (h ∙ ap (refused_step w) i))
