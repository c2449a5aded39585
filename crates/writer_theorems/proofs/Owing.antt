-- What every step guarantees, whatever its state and buffer: it answers 16 if it is not due, 14 if the buffer is short, and then by its rules. A
-- rule that it answers has the property P if those of its tests have. Assumes nothing.
use Rattle.std.specs.Prelude.{Ok, Err, Result}
use Rattle.wire.specs.declared.Refusal.{Refusal}
use Prim.Native.Nat.{ℕ, suc, ◌+◌, ◌≤◌}
use mathlib.Core.Path.{◌≡◌, refl, sym, subst}
use mathlib.Core.Bool.{Bool, true, false, ◌&&◌}
use mathlib.Core.List.{List, ◌++◌}
use native.Mathlib.Omega.{arith}
use lib.ListN.{length, take}
use lib.Dec.{eqb, leb}
use borrow.Author.Tests.{leb-true}
use Rattle.wire.specs.Bytes.{pick, digits}
use Rattle.wire.specs.laws.Bytes.{length_digits}
use Rattle.wire.specs.declared.Rule.{Rule}
use Rattle.wire.specs.Numbers.{rule_of, cut_short, empty_list, bytes_after_end, no_room, step_not_due}
use Rattle.wire.specs.Format.{Format, Parsed, took, refused, on_result, read}
use Rattle.wire.proofs.Refusing.{RefusesBy}
use Rattle.transaction.specs.Signed.{most_bytes}
use Rattle.transaction.specs.Plan.{content_of, elements_of, Plan, shut, end, field, many}
use Rattle.transaction.specs.Family.{Family, head, unsigned}
use Rattle.transaction.specs.declared.FieldName.{FieldName}
use Rattle.transaction.specs.declared.ListName.{ListName}
use Rattle.writer_rules.specs.Given.{Given, head_bytes, given}
use Rattle.writer_rules.specs.Judged.{refused_by, judged}
use Rattle.writer_rules.specs.code.Judged.{on_allowed}
use Rattle.writer_rules.proofs.Verdicts.{pick-fine, both_true, judged-read, judged-then, judged-on}
use Rattle.plan.specs.Due.{due_of, is_list, is_field, is_open, is_finish}
use Rattle.writer_buffer.specs.Stores.{room_for, overwrite}
use Rattle.writer_buffer.proofs.Stores.{room-inv, length-overwrite}
use Rattle.writer_buffer.specs.Closing.{closing, closable}
use Rattle.writer.specs.declared.Writer.{Writer}
use Rattle.writer.specs.Steps.{Turn, answered, guarded, sane, opening, opened, prev, grown, appended, not_due, same_field, same_list}
use Rattle.writer.specs.Steps.{put_field_at, put_element_at, close_at, finish_at, plan_for, start}
use Rattle.writer.proofs.Laws.{guarded-inv}
use Rattle.writer.proofs.Fitting.{same-field, same-list}

-- ---- the rule of a refusal has the property P, and its place is 0

abbrev pub Numbered : (Rule → Type 0) → Result (Unit {0}) Refusal → Type 0
Numbered P (Ok tt) = Unit {0}
Numbered P (Err e) = P e.rule × (e.place ≡ 0)

-- the step answers by its rules if it is due and the buffer is not short, and the buffer keeps its length
pub record Owed (P : Rule → Type 0) (is_due : Bool) (w : Writer) (s : List ℕ) (t : Turn) : Type 0 where
  pub rules : Result (Unit {0}) Refusal
  pub numbered : is_due ≡ true → Numbered P rules
  pub next : Writer
  pub buffer : List ℕ
  pub is : t ≡ answered (guarded is_due w s rules) w s next buffer
  pub long : guarded is_due w s rules ≡ (Ok tt) → length buffer ≡ length s

module _ (P : Rule → Type 0) where
  pub pick-numbered : (t : Bool) (v : Result (Unit {0}) Refusal) (x : Rule) → Numbered P v → P x → Numbered P (pick t v (refused_by x))
  pick-numbered true v x h k = h
  pick-numbered false v x h k = (k, refl)

  on-numbered : (v u : Result (Unit {0}) Refusal) → Numbered P v → Numbered P u → Numbered P (on_allowed v u)
  on-numbered (Ok tt) u h k = k
  on-numbered (Err e) u h k = h

  -- the verdict on bytes has P if every rule by which their format refuses has it
  pub judged-numbered : {A : Type 0} (F : Format A) (g : Given) → RefusesBy F P → P (rule_of cut_short) → P bytes_after_end
      → Numbered P (judged F g (Ok tt))
  judged-numbered {A} F g f h k =
      subst (Numbered P) (sym (judged-read F g (Ok tt)))
      (pick-numbered g.whole _ (rule_of cut_short) (go (read F g.bytes 0) refl) h)
    where
      go : (o : Parsed A) → read F g.bytes 0 ≡ o
          → Numbered P (on_result o (λ e. refused_by e.rule) (λ a m. pick (eqb m (length g.bytes)) (Ok tt) (refused_by bytes_after_end)))
      go (took a m) r = pick-numbered (eqb m (length g.bytes)) (Ok tt) bytes_after_end tt k
      go (refused e) r = (f g.bytes 0 e r, refl)

  -- ---- the numbers that every step answers

  module _ (room : P no_room) where
    pub guarded-numbered : P step_not_due → (t : Bool) (w : Writer) (s : List ℕ) (v : Result (Unit {0}) Refusal) → (t ≡ true → Numbered P v)
        → Numbered P (guarded t w s v)
    guarded-numbered due true w s v h = pick-numbered (leb w.at (length s)) v no_room (h refl) room
    guarded-numbered due false w s v h = (due, refl)

    room-numbered : (n : ℕ) (s : List ℕ) → Numbered P (room_for n s)
    unfolding room_for
    room-numbered n s = pick-numbered (leb n (length s)) _ no_room (pick-numbered (leb n most_bytes) (Ok tt) no_room tt room) room

    then-room : {A : Type 0} (F : Format A) (g : Given) (n : ℕ) (s : List ℕ) → Numbered P (judged F g (Ok tt)) → Numbered P (judged F g (room_for n s))
    then-room F g n s h = subst (Numbered P) (sym (judged-on F g (room_for n s))) (on-numbered (judged F g (Ok tt)) (room_for n s) h (room-numbered n s))

    none-owed : (w : Writer) (s : List ℕ) → Owed P false w s (not_due w s)
    none-owed w s = record { rules = (Ok tt); numbered = λ e. tt; next = w; buffer = s; is = refl; long = λ e. refl }

    -- ---- a field or an element

    pub field-owed : (most : ℕ) (q : Plan) (w : Writer) (s : List ℕ) (f : FieldName) (g : Given) → Numbered P (judged (content_of most f) g (Ok tt))
        → Owed P (is_field f (due_of q)) w s (put_field_at most q w s f g)
    unfolding put_field_at
    field-owed most shut w s f g h = none-owed w s
    field-owed most end w s f g h = none-owed w s
    field-owed most (field i q) w s f g h =
        let ys : List ℕ = g.bytes ++ opening q in
        let R : Result (Unit {0}) Refusal = room_for (w.at + length ys) s in
        record {
          rules = judged (content_of most i) g R;
          numbered = λ e.
              then-room (content_of most i) g (w.at + length ys) s
              (subst (λ (k : FieldName). Numbered P (judged (content_of most k) g (Ok tt))) (sym (same-field f i e)) h);
          next = opened w.type_id (suc w.phase) (w.at + length g.bytes) q;
          buffer = overwrite s w.at ys;
          is = refl;
          long = λ e.
              let (_, _, j) = guarded-inv (same_field f i) w s (judged (content_of most i) g R) e in
              length-overwrite s ys w.at (room-inv (w.at + length ys) s (judged-then (content_of most i) g R j)).0;
        }
    field-owed most (many l least q) w s f g h = none-owed w s

    pub element-owed : (q : Plan) (w : Writer) (s : List ℕ) (l : ListName) (g : Given) → Numbered P (judged ((elements_of l).element (prev w s)) g (Ok tt))
        → Owed P (is_open l (due_of q) && sane w) w s (put_element_at q w s l g)
    unfolding put_element_at appended
    element-owed shut w s l g h = none-owed w s
    element-owed end w s l g h = none-owed w s
    element-owed (field f q) w s l g h = none-owed w s
    element-owed (many m least q) w s l g h =
        let ys : List ℕ = g.bytes in
        let R : Result (Unit {0}) Refusal = room_for (w.at + length ys) s in
        let E = (elements_of m).element (prev w s) in
        record {
          rules = judged E g R;
          numbered = λ e.
              then-room E g (w.at + length ys) s
              (subst (Numbered P) (sym (same-list (prev w s) g (Ok tt) l m (both_true (same_list l m) (sane w) e).0)) h);
          next = grown w (length ys);
          buffer = appended w s ys;
          is = refl;
          long = λ e.
              let (t, _, j) = guarded-inv (same_list l m && sane w) w s (judged E g R) e in
              let (fits, _) = room-inv (w.at + length ys) s (judged-then E g R j) in
              let (inside, _) = both_true (leb (w.list + 4) w.at) _ (both_true (same_list l m) (sane w) t).1 in
              let first : length (overwrite s w.at ys) ≡ length s = length-overwrite s ys w.at fits in
              let count : List ℕ = digits 4 (w.count + 1) in
              let there : w.list + length count ≤ length (overwrite s w.at ys) =
              omega (arith, leb-true (w.list + 4) w.at inside, length_digits 4 (w.count + 1)) in
              omega (arith, length-overwrite (overwrite s w.at ys) count w.list there);
        }

    -- ---- the other steps

    pub close-owed : P (rule_of empty_list) → (q : Plan) (w : Writer) (s : List ℕ) → Owed P (is_list (due_of q)) w s (close_at q w s)
    unfolding close_at
    close-owed h shut w s = none-owed w s
    close-owed h end w s = none-owed w s
    close-owed h (field f q) w s = none-owed w s
    close-owed h (many l least q) w s =
        let R : Result (Unit {0}) Refusal = room_for (w.at + length (opening q)) s in
        let rules : Result (Unit {0}) Refusal = pick (leb least w.count) R (refused_by (rule_of empty_list)) in
        record {
          rules = rules;
          numbered = λ e. pick-numbered (leb least w.count) R (rule_of empty_list) (room-numbered (w.at + length (opening q)) s) h;
          next = opened w.type_id (suc w.phase) w.at q;
          buffer = overwrite s w.at (opening q);
          is = refl;
          long = λ e.
              let (_, _, r) = guarded-inv true w s rules e in
              let (_, i) = pick-fine (leb least w.count) R (rule_of empty_list) r in
              length-overwrite s (opening q) w.at (room-inv (w.at + length (opening q)) s i).0;
        }

    module _ (F : Family) where
      pub finish-owed : RefusesBy (unsigned F) P → P (rule_of cut_short) → P bytes_after_end → (q : Plan) (w : Writer) (s : List ℕ)
          → Owed P (is_finish (due_of q)) w s (finish_at F q w s)
      unfolding finish_at closable
      finish-owed f h k shut w s = none-owed w s
      finish-owed f h k end w s =
          let ys : List ℕ = closing F w.at s in
          let R : Result (Unit {0}) Refusal = room_for (w.at + length ys) s in
          let rules : Result (Unit {0}) Refusal = judged (unsigned F) (given (take w.at s)) R in
          record {
            rules = rules;
            numbered = λ e.
                then-room (unsigned F) (given (take w.at s)) (w.at + length ys) s (judged-numbered (unsigned F) (given (take w.at s)) f h k);
            next = opened w.type_id (suc w.phase) (w.at + length ys) shut;
            buffer = overwrite s w.at ys;
            is = refl;
            long = λ e.
                let (_, _, r) = guarded-inv true w s rules e in
                length-overwrite s ys w.at (room-inv (w.at + length ys) s (judged-then (unsigned F) (given (take w.at s)) R r)).0;
          }
      finish-owed f h k (field i q) w s = none-owed w s
      finish-owed f h k (many l least q) w s = none-owed w s

      module _ (w : Writer) (s : List ℕ) (type network : ℕ) (chain : List ℕ) where
        pub start-owed : Numbered P (judged (head F) (given (head_bytes type network chain)) (Ok tt))
            → Owed P (eqb w.phase 0) w s (start F w s type network chain)
        unfolding start
        start-owed h =
            let ys : List ℕ = head_bytes type network chain in
            let zs : List ℕ = ys ++ opening (plan_for F type) in
            let R : Result (Unit {0}) Refusal = room_for (length zs) s in
            let rules : Result (Unit {0}) Refusal = judged (head F) (given ys) R in
            record {
              rules = rules;
              numbered = λ e. then-room (head F) (given ys) (length zs) s h;
              next = opened type 1 (length ys) (plan_for F type);
              buffer = overwrite s 0 zs;
              is = refl;
              long = λ e.
                  let (_, _, r) = guarded-inv (eqb w.phase 0) w s rules e in
                  length-overwrite s zs 0 (omega (arith, (room-inv (length zs) s (judged-then (head F) (given ys) R r)).0));
            }
