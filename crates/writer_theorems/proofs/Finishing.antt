-- Every run of steps keeps the buffer's invariant, and what a run finishes is accepted. Assumes nothing.
use Rattle.std.specs.Prelude.{Ok, Err, Result}
use Prim.Native.Nat.{ℕ, suc, ◌+◌, ◌≤◌, ◌<◌, ◌^◌}
use mathlib.Core.Path.{◌≡◌, refl, sym, ap, ◌∙◌, subst}
use mathlib.Core.Logic.{◌⊎◌, inl, inr}
use mathlib.Core.Bool.{true, ◌&&◌}
use mathlib.Core.List.{List, [], ◌∷◌, ◌++◌, append-nil}
use native.Mathlib.Omega.{arith}
use native.Mathlib.Nat.{zero-add, add-zero}
use lib.ListN.{length, take, drop, length-append}
use lib.Seq.{length-take-le, take_at, drop_at}
use lib.Dec.{eqb, leb}
use borrow.Author.Tests.{leb-true}
use Rattle.wire.specs.Bytes.{Bytes, digits, value}
use Rattle.wire.specs.laws.Bytes.{length_digits, bytes-digits, bytes-append, value-digits}
use Rattle.wire.specs.Numbers.{rule_of, empty_list, refusal, no_room, step_not_due}
use Rattle.wire.specs.declared.Refusal.{Refusal}
use Rattle.wire.specs.Format.{took, read}
use Rattle.wire.proofs.Format.{read-complete}
use Rattle.wire.specs.Fields.{integer, blob, constant}
use Rattle.wire.specs.Sequence.{and_then, guard, named, tag, only}
use Rattle.transaction.specs.Credentials.{layout, blanks}
use Rattle.transaction.specs.Signed as AnySigned
use Rattle.transaction.specs.Signed.{most_bytes}
use Rattle.transaction.specs.Plan.{content_of, elements_of, Plan, shut, end, field, many}
use Rattle.transaction.specs.Form.{list_of, form}
use Rattle.transaction.specs.Family.{Family, Head, head, Unsigned, unsigned, wants, accepted}
use Rattle.transaction.specs.declared.FieldName.{FieldName}
use Rattle.transaction.specs.declared.ListName.{ListName}
use Rattle.transaction.proofs.CredentialLaws.{blank-good}
use Rattle.transaction.proofs.Signed.{accepted-of}
use Rattle.writer_rules.specs.Given.{Given, head_bytes, given}
use Rattle.writer_rules.specs.Judged.{judged}
use Rattle.writer_rules.proofs.Verdicts.{pick-fine, judged-whole, judged-then, judged-inv, judged-own}
use Rattle.plan.specs.Due.{due}
use Rattle.plan.proofs.RowLaws.{due-next}
use Rattle.writer_buffer.specs.Stores.{room_for, overwrite}
use Rattle.writer_buffer.proofs.Stores.{room-inv, by-room, take-overwrite, length-overwrite}
use Rattle.writer_buffer.specs.Closing.{blank_of, blank_after, closing, closable}
use Rattle.writer.specs.declared.Writer.{Writer}
use Rattle.writer.specs.Steps.{fresh, Turn, answered, guarded, sane, grown, opening, opened, not_due, same_field, same_list}
use Rattle.writer.specs.Steps.{put_field_at, put_element_at, close_at, finish_at, plan_for, due_for, start, put_field, put_element, close, finish}
use Rattle.writer.proofs.Laws.{guarded-inv, guarded-fine, answered-keeps}
use Rattle.writer_theorems.specs.Runs.{Act, starts, puts_field, puts_element, closes, finishes, FairBytes, Fair, AllFair, act, run}
use Rattle.writer_theorems.specs.Claims.{finish_after, FinishedIsAccepted}
use Rattle.writer_theorems.proofs.Keeping.{leaves, Here, Stays, Begun, begun-stays, open_more, closed, begin, Reach, reach-field, reach-list, reach-shut}

module _ (F : Family) where
  -- the head and the plan's first segments are written, and after them what there is of the segment that is due
  record Running (w : Writer) (s : List ℕ) : Type 1 where
    pub first : Head F.TransactionType
    pub good : (head F).Good first
    pub type : F.type_of w.type_id ≡ first.type
    pub parts : Plan
    pub is_due : due_for F w ≡ parts
    pub done : List ℕ
    pub reach : Reach F.memo_most (F.plan first.type) ((head F).write first) parts done
    pub stays : Stays parts w s done

  data Kept (w : Writer) (s : List ℕ) : Type 1 where
    waiting : w.phase ≡ 0 → Kept w s
    running : Running w s → Kept w s

  -- ---- a step, given what is due

  -- a step by the plan keeps the invariant
  abbrev Keeps : (Plan → Writer → List ℕ → Turn) → Type 1
  Keeps T =
      (first : Head F.TransactionType) → (head F).Good first → (q : Plan) (w : Writer) (s b : List ℕ) → F.type_of w.type_id ≡ first.type
      → due_for F w ≡ q
      → Reach F.memo_most (F.plan first.type) ((head F).write first) q b → Stays q w s b → Kept (T q w s).step.next (T q w s).buffer

  -- a step that is not due keeps it
  still : Keeps (λ q w s. not_due w s)
  unfolding answered
  still first good q w s b type is_due reach stays =
      running record { first = first; good = good; type = type; parts = q; is_due = is_due; done = b; reach = reach; stays = stays }

  field-keeps : (f : FieldName) (g : Given) → FairBytes g → Keeps (λ q w s. put_field_at F.memo_most q w s f g)
  unfolding put_field_at answered
  field-keeps f g fair first good shut w s b type is_due reach stays = still first good shut w s b type is_due reach stays
  field-keeps f g fair first good end w s b type is_due reach stays = still first good end w s b type is_due reach stays
  field-keeps f g fair first good (field h q) w s b type is_due reach stays =
      answered-keeps Kept _ w s _ _ (still first good (field h q) w s b type is_due reach stays) λ e.
      let p = F.plan first.type in
      let H = (head F).write first in
      let C = content_of F.memo_most h in
      let (_, _, e₁) = guarded-inv (same_field f h) w s _ e in
      let (fits, k) = room-inv (w.at + length (g.bytes ++ opening q)) s (judged-then C g _ e₁) in
      let (x, gx, ex) = judged-inv C g _ e₁ (fair (judged-whole C g _ e₁) (omega (arith, length-append g.bytes (opening q)))) in
      running
      record {
        first = first;
        good = good;
        type = type;
        parts = q;
        is_due = due-next w.phase (plan_for F w.type_id) (field h q) tt is_due;
        done = b ++ g.bytes;
        reach = subst (λ (z : List ℕ). Reach F.memo_most p H q (b ++ z)) ex (reach-field F.memo_most p H b h q reach x gx);
        stays = begun-stays q _ _ _ (begin w.type_id (suc w.phase) w s b stays g.bytes q fits k);
      }
  field-keeps f g fair first good (many l least q) w s b type is_due reach stays = still first good (many l least q) w s b type is_due reach stays

  element-keeps : (l : ListName) (g : Given) → FairBytes g → Keeps (λ q w s. put_element_at q w s l g)
  unfolding put_element_at answered grown
  element-keeps l g fair first good shut w s b type is_due reach stays = still first good shut w s b type is_due reach stays
  element-keeps l g fair first good end w s b type is_due reach stays = still first good end w s b type is_due reach stays
  element-keeps l g fair first good (field f q) w s b type is_due reach stays = still first good (field f q) w s b type is_due reach stays
  element-keeps l g fair first good (many m least q) w s b type is_due reach (es, o) =
      answered-keeps Kept _ w s _ _ (still first good (many m least q) w s b type is_due reach (es, o)) λ e.
      let E = (elements_of m).element in
      let (_, _, e₁) = guarded-inv (same_list l m && sane w) w s _ e in
      let e₂ = subst (λ (z : List ℕ). judged (E z) g (room_for (w.at + length g.bytes) s) ≡ (Ok tt)) o.before e₁ in
      let (f, k) = room-inv (w.at + length g.bytes) s (judged-then (E (leaves E [] es)) g _ e₂) in
      let (x, gx, ex) = judged-inv (E (leaves E [] es)) g _ e₂ (fair (judged-whole (E (leaves E [] es)) g _ e₂) (omega arith)) in
      running
      record {
        first = first;
        good = good;
        type = type;
        parts = many m least q;
        is_due = is_due;
        done = b;
        reach = reach;
        stays = (es ++ (x ∷ []), open_more (elements_of m) w s b es o x gx g.bytes ex f k);
      }

  close-keeps : Keeps close_at
  unfolding close_at answered
  close-keeps first good shut w s b type is_due reach stays = still first good shut w s b type is_due reach stays
  close-keeps first good end w s b type is_due reach stays = still first good end w s b type is_due reach stays
  close-keeps first good (field f q) w s b type is_due reach stays = still first good (field f q) w s b type is_due reach stays
  close-keeps first good (many l least q) w s b type is_due reach (es, o) =
      answered-keeps Kept _ w s _ _ (still first good (many l least q) w s b type is_due reach (es, o)) λ e.
      let p = F.plan first.type in
      let H = (head F).write first in
      let (_, _, e₁) = guarded-inv true w s _ e in
      let (t, e₂) = pick-fine (leb least w.count) _ (rule_of empty_list) e₁ in
      let (f, k) = room-inv (w.at + length (opening q)) s e₂ in
      let (gx, here) = closed (elements_of l) w s b es o least (leb-true least w.count t) in
      let done = b ++ (list_of l least).write es in
      let next : Begun q (opened w.type_id (suc w.phase) w.at q) (overwrite s w.at (opening q)) done =
      rw (add-zero, append-nil) at (begin w.type_id (suc w.phase) w s done here [] q f k) in
      running
      record {
        first = first;
        good = good;
        type = type;
        parts = q;
        is_due = due-next w.phase (plan_for F w.type_id) (many l least q) tt is_due;
        done = done;
        reach = reach-list F.memo_most p H b l least q reach es gx;
        stays = begun-stays q _ _ _ next;
      }

  finish-keeps : Keeps (finish_at F)
  unfolding finish_at closable answered
  finish-keeps first good shut w s b type is_due reach stays = still first good shut w s b type is_due reach stays
  finish-keeps first good end w s b type is_due reach stays =
      answered-keeps Kept (guarded true w s (judged (unsigned F) (given (take w.at s)) (room_for (w.at + length (closing F w.at s)) s)))
      w s (opened w.type_id (suc w.phase) (w.at + length (closing F w.at s)) shut) (overwrite s w.at (closing F w.at s))
      (still first good end w s b type is_due reach stays) λ e.
      running
      record {
        first = first;
        good = good;
        type = type;
        parts = shut;
        is_due = due-next w.phase (plan_for F w.type_id) end tt is_due;
        done = b;
        reach = reach-shut F.memo_most (F.plan first.type) ((head F).write first) b reach;
        stays = tt;
      }
  finish-keeps first good (field f q) w s b type is_due reach stays = still first good (field f q) w s b type is_due reach stays
  finish-keeps first good (many l least q) w s b type is_due reach stays = still first good (many l least q) w s b type is_due reach stays

  -- before the start nothing is due, so a step by the plan keeps the invariant in every state
  by-due : (T : Plan → Writer → List ℕ → Turn) → Keeps T → ((w : Writer) (s : List ℕ) → T shut w s ≡ not_due w s) → (w : Writer) (s : List ℕ) → Kept w s
      → Kept (T (due_for F w) w s).step.next (T (due_for F w) w s).buffer
  unfolding answered
  by-due T keep none w s (waiting e) =
      subst (λ (k : ℕ). Kept (T (due k (plan_for F w.type_id)) w s).step.next (T (due k (plan_for F w.type_id)) w s).buffer) (sym e)
      (subst (λ (t : Turn). Kept t.step.next t.buffer) (sym (none w s)) (waiting e))
  by-due T keep none w s (running r) =
      subst (λ (q : Plan). Kept (T q w s).step.next (T q w s).buffer) (sym r.is_due)
      (keep r.first r.good r.parts w s r.done r.type r.is_due r.reach r.stays)

  -- ---- the start

  -- the type of a head is the one that it was written with
  code_of : (h : Head F.TransactionType) (type network : ℕ) (chain : List ℕ) → (head F).Good h → type < 256 ^ 4
      → (head F).write h ≡ head_bytes type network chain
      → F.type_id h.type ≡ type
  unfolding head named and_then constant guard tag integer
  code_of h type network chain g fits e =
      let four : (k : ℕ) (r : List ℕ) → take 4 (drop 2 (digits 2 0 ++ (digits 4 k ++ r))) ≡ digits 4 k =
      λ k r. ap (take 4) (drop_at (digits 2 0) (digits 4 k ++ r) 2 (length_digits 2 0)) ∙ take_at (digits 4 k) r 4 (length_digits 4 k) in
      let same : digits 4 (F.type_id h.type) ≡ digits 4 type =
      sym (four (F.type_id h.type) (digits 4 h.network ++ (blob 32).write h.chain))
      ∙ ap (λ (z : List ℕ). take 4 (drop 2 z)) e ∙ four type (digits 4 network ++ chain) in
      sym (value-digits 4 (F.type_id h.type) g.1.0.0) ∙ ap value same ∙ value-digits 4 type fits

  start-keeps : (type network : ℕ) (chain : List ℕ) → Fair (starts type network chain) → (w : Writer) (s : List ℕ) → Kept w s
      → Kept (start F w s type network chain).step.next (start F w s type network chain).buffer
  unfolding start
  start-keeps type network chain (fk, fn, long, bs) w s i =
      answered-keeps Kept _ w s _ _ i λ e.
      let ys : List ℕ = head_bytes type network chain in
      let q : Plan = plan_for F type in
      let (_, _, e₁) = guarded-inv (eqb w.phase 0) w s _ e in
      let (f, k) = room-inv (length (ys ++ opening q)) s (judged-then (head F) (given ys) _ e₁) in
      let by : Bytes ys =
      bytes-append (digits 2 0) (digits 4 type ++ (digits 4 network ++ chain)) (bytes-digits 2 0 (omega arith))
      (bytes-append (digits 4 type) (digits 4 network ++ chain) (bytes-digits 4 type fk)
      (bytes-append (digits 4 network) chain (bytes-digits 4 network fn) bs)) in
      let (h, gh, eh) = judged-inv (head F) (given ys) _ e₁ by in
      let is_type : F.type_of type ≡ h.type = ap F.type_of (sym (code_of h type network chain gh fk eh)) ∙ F.type_of-id h.type in
      let here : Here fresh s [] = record { fits = omega arith; small = omega arith; stands = refl } in
      let next : Begun q (opened type 1 (length ys) q) (overwrite s 0 (ys ++ opening q)) ys =
      rw zero-add at (begin type 1 fresh s [] here ys q (omega arith) (omega arith)) in
      running
      record {
        first = h;
        good = gh;
        type = is_type;
        parts = F.plan h.type;
        is_due = ap F.plan is_type;
        done = ys;
        reach = λ v g. (v, g, ap (λ (z : List ℕ). z ++ (form F.memo_most (F.plan h.type)).write v) eh);
        stays =
            subst (λ (p : Plan). Stays p (opened type 1 (length ys) q) (overwrite s 0 (ys ++ opening q)) ys) (ap F.plan is_type)
            (begun-stays q _ _ _ next);
      }

  -- ---- every sequence of steps

  act-keeps : (a : Act) → Fair a → (w : Writer) (s : List ℕ) → Kept w s → Kept (act F a w s).step.next (act F a w s).buffer
  unfolding put_field put_element close finish put_field_at put_element_at close_at finish_at
  act-keeps (starts type network chain) f w s i = start-keeps type network chain f w s i
  act-keeps (puts_field h g) f w s i = by-due (λ q w s. put_field_at F.memo_most q w s h g) (field-keeps h g f) (λ w s. refl) w s i
  act-keeps (puts_element l g) f w s i = by-due (λ q w s. put_element_at q w s l g) (element-keeps l g f) (λ w s. refl) w s i
  act-keeps closes f w s i = by-due close_at close-keeps (λ w s. refl) w s i
  act-keeps finishes f w s i = by-due (finish_at F) finish-keeps (λ w s. refl) w s i

  run-keeps : (l : List Act) → AllFair l → (w : Writer) (s : List ℕ) → Kept w s → Kept (run F l w s).0 (run F l w s).1
  unfolding run
  run-keeps [] f w s i = i
  run-keeps (a ∷ l) (f, fs) w s i = run-keeps l fs (act F a w s).step.next (act F a w s).buffer (act-keeps a f w s i)

  -- ---- finishing

  abbrev pub blank_signed : Unsigned F → List (List ℕ)
  blank_signed u = blanks (layout (wants F u))

  -- the unsigned part is written completely
  module _ (w : Writer) (s b : List ℕ) (h : Here w s b) (u : Unsigned F) (g : (unsigned F).Good u) (e : (unsigned F).write u ≡ b) where
    stands-own : (unsigned F).write u ≡ take w.at s
    stands-own = e ∙ sym h.stands

    closing-is : closing F w.at s ≡ blank_of F u
    unfolding closing
    closing-is =
        ap (blank_after F)
        (subst (λ (z : List ℕ). read (unsigned F) z 0 ≡ took u (0 + length ((unsigned F).write u))) stands-own
        (read-complete (unsigned F) ((unsigned F).write u) 0 u [] g (sym (append-nil ((unsigned F).write u)))))

    pub finish-is : finish_at F end w s
        ≡ answered (room_for (w.at + length (blank_of F u)) s)
        w s (opened w.type_id (suc w.phase) (w.at + length (blank_of F u)) shut) (overwrite s w.at (blank_of F u))
    unfolding finish_at closable
    finish-is =
        let ys : List ℕ = closing F w.at s in
        let v : Result (Unit {0}) Refusal = room_for (w.at + length ys) s in
        let rules : judged (unsigned F) (given (take w.at s)) v ≡ v =
        subst (λ (z : List ℕ). judged (unsigned F) (given z) v ≡ v) stands-own (judged-own (unsigned F) u v g) in
        ap (λ (x : Result (Unit {0}) Refusal). answered x w s (opened w.type_id (suc w.phase) (w.at + length ys) shut) (overwrite s w.at ys))
        (guarded-fine true w s (judged (unsigned F) (given (take w.at s)) v) refl h.fits ∙ rules)
        ∙ ap (λ (z : List ℕ). answered (room_for (w.at + length z) s)
        w s (opened w.type_id (suc w.phase) (w.at + length z) shut) (overwrite s w.at z)) closing-is

    pub finished-parts : w.at + length (blank_of F u) ≤ length s → w.at + length (blank_of F u) ≤ most_bytes
        → AnySigned.Parts (unsigned F) (wants F) (take (w.at + length (blank_of F u)) (overwrite s w.at (blank_of F u))) u (blank_signed u)
    unfolding AnySigned.assemble
    finished-parts f k =
        let n : ℕ = w.at + length (blank_of F u) in
        let s' : List ℕ = overwrite s w.at (blank_of F u) in
        record {
          unsigned-good = g;
          signatures-good = blank-good (wants F u) (omega arith);
          same = take-overwrite s (blank_of F u) w.at h.fits ∙ ap (λ (z : List ℕ). z ++ blank_of F u) (sym stands-own);
          short = omega (arith, length-take-le n s' (omega (arith, length-overwrite s (blank_of F u) w.at f)));
        }

  -- the ways in which finish can end
  pub data Outcome (t : Turn) : Type 0 where
    not-due : t.step.answer ≡ Err (refusal step_not_due 0) → Outcome t
    room_missing : t.step.answer ≡ Err (refusal no_room 0) → Outcome t
    finished : (n : ℕ) → t.step.answer ≡ Ok n → (u : Unsigned F) → AnySigned.Parts (unsigned F) (wants F) (take n t.buffer) u (blank_signed u)
        → Outcome t

  whole-outcome : (w : Writer) (s b : List ℕ) → Here w s b → (u : Unsigned F) → (unsigned F).Good u → (unsigned F).write u ≡ b
      → Outcome (finish_at F end w s)
  unfolding answered
  whole-outcome w s b h u g e =
      let n : ℕ = w.at + length (blank_of F u) in
      let w' : Writer = opened w.type_id (suc w.phase) n shut in
      let s' : List ℕ = overwrite s w.at (blank_of F u) in
      subst Outcome (sym (finish-is w s b h u g e))
      (by-room n s (λ (v : Result (Unit {0}) Refusal). Outcome (answered v w s w' s'))
      (λ r.
      let (f, k) = room-inv n s r in
      finished (n + 0) refl u
      (subst (λ (i : ℕ). AnySigned.Parts (unsigned F) (wants F) (take i s') u (blank_signed u)) (sym (add-zero n)) (finished-parts w s b h u g e f k)))
      (room_missing refl))

  due-outcome : (first : Head F.TransactionType) → (head F).Good first → (q : Plan) (w : Writer) (s b : List ℕ)
      → Reach F.memo_most (F.plan first.type) ((head F).write first) q b → Stays q w s b
      → Outcome (finish_at F q w s)
  unfolding finish_at answered unsigned and_then form only
  due-outcome first good shut w s b reach stays = not-due refl
  due-outcome first good end w s b reach stays =
      let (v, gv, e) = reach tt refl in
      whole-outcome w s b stays (first, v) (good, gv) (e ∙ append-nil b)
  due-outcome first good (field f q) w s b reach stays = not-due refl
  due-outcome first good (many l least q) w s b reach stays = not-due refl

  finish-outcome : (w : Writer) (s : List ℕ) → Kept w s → Outcome (finish F w s)
  unfolding finish finish_at answered
  finish-outcome w s (waiting e) = subst (λ (k : ℕ). Outcome (finish_at F (due k (plan_for F w.type_id)) w s)) (sym e) (not-due refl)
  finish-outcome w s (running r) =
      subst (λ (q : Plan). Outcome (finish_at F q w s)) (sym r.is_due)
      (due-outcome r.first r.good r.parts w s r.done r.reach r.stays)

  -- finish after any sequence of steps
  run-outcome : (l : List Act) → AllFair l → (s : List ℕ) → Outcome (finish_after F l s)
  run-outcome l f s = finish-outcome (run F l fresh s).0 (run F l fresh s).1 (run-keeps l f fresh s (waiting refl))

  done-accepted : (t : Turn) (n : ℕ) → Outcome t → t.step.answer ≡ Ok n → accepted F (take n t.buffer) ≡ true
  done-accepted t n (not-due e) h = let c = sym e ∙ h in let z : ◌≡◌ {A = ℕ} 0 1 = cc in absurd (omega arith)
  done-accepted t n (room_missing e) h = let c = sym e ∙ h in let z : ◌≡◌ {A = ℕ} 0 1 = cc in absurd (omega arith)
  done-accepted t n (finished m e u p) h =
      let c = sym e ∙ h in
      let i : m ≡ n = cc in
      subst (λ (k : ℕ). accepted F (take k t.buffer) ≡ true) i (accepted-of (unsigned F) (wants F) (take m t.buffer) u (blank_signed u) p)

  refused-only : (t : Turn) (e : Refusal) → Outcome t → t.step.answer ≡ Err e → (e.rule ≡ no_room) ⊎ (e.rule ≡ step_not_due)
  refused-only t e (not-due d) h = let c = sym d ∙ h in let i : refusal step_not_due 0 ≡ e = cc in inr (ap (λ (r : Refusal). r.rule) (sym i))
  refused-only t e (room_missing d) h = let c = sym d ∙ h in let i : refusal no_room 0 ≡ e = cc in inl (ap (λ (r : Refusal). r.rule) (sym i))
  refused-only t e (finished m d u p) h = let c = sym d ∙ h in let z : ◌≡◌ {A = ℕ} 0 1 = cc in absurd (omega arith)

  pub finished-is-accepted : FinishedIsAccepted F
  finished-is-accepted =
      record {
        is-accepted = λ l f s n h. done-accepted (finish_after F l s) n (run-outcome l f s) h;
        refused-by = λ l f s e h. refused-only (finish_after F l s) e (run-outcome l f s) h;
      }
