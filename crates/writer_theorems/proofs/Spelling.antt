-- The steps that write a reading are all done, and leave its bytes. Assumes nothing.
use Rattle.std.specs.Prelude.{Ok, Result}
use Rattle.wire.specs.declared.Refusal.{Refusal}
use Prim.Native.Nat.{ℕ, suc, ◌+◌, ◌≤◌}
use mathlib.Core.Path.{◌≡◌, refl, sym, ap, ◌∙◌, subst}
use mathlib.Core.Bool.{true, ◌&&◌}
use mathlib.Core.List.{List, [], ◌∷◌, ◌++◌, append_assoc, append-nil}
use native.Mathlib.Omega.{arith}
use native.Mathlib.Nat.{add-zero}
use lib.ListN.{length, length-append}
use lib.Seq.{append_snoc}
use borrow.Author.Tests.{le-leb, lt-ltb, eq-eqb}
use Rattle.wire.specs.Bytes.{digits}
use Rattle.wire.specs.laws.Bytes.{length_digits}
use Rattle.wire.specs.Format.{Format}
use Rattle.wire.specs.Sequence.{and_then, only}
use Rattle.wire.specs.Series.{left}
use Rattle.wire.specs.Parsers.{Chain, list_write}
use Rattle.transaction.specs.Signed.{most_bytes}
use Rattle.transaction.specs.Plan.{Content, content_of, elements_of, Plan, shut, end, field, many}
use Rattle.transaction.specs.Form.{list_of, Value, form}
use Rattle.transaction.specs.Family.{Family}
use Rattle.transaction.specs.declared.FieldName.{FieldName}
use Rattle.transaction.specs.declared.ListName.{ListName}
use Rattle.writer_rules.specs.Judged.{judged}
use Rattle.writer_rules.specs.Given.{given}
use Rattle.writer_rules.proofs.Verdicts.{judged-own}
use Rattle.plan.specs.Due.{field_code, list_code}
use Rattle.plan.proofs.RowLaws.{due-next}
use Rattle.writer_buffer.specs.Stores.{room_for, overwrite}
use Rattle.writer_buffer.proofs.Stores.{room-fine, length-overwrite}
use Rattle.writer.specs.declared.Writer.{Writer}
use Rattle.writer.specs.Steps.{turn, answered, sane, grown, appended, opening, opened, same_field, same_list}
use Rattle.writer.specs.Steps.{put_field_at, put_element_at, close_at, plan_for, due_for, put_field, put_element, close}
use Rattle.writer.proofs.Laws.{guarded-fine}
use Rattle.writer_theorems.specs.Runs.{Act, puts_field, puts_element, closes, act, run, AllDone, element_acts, plan_acts, Ends}
use Rattle.writer_theorems.proofs.Keeping.{leaves, leaves-snoc, listed, list-inv, list-write, Here, here-at, Open, Begun}
use Rattle.writer_theorems.proofs.Keeping.{open_at, open-few, open_more, closed, begin}

-- ---- steps that are done

module _ (most : ℕ) (f : FieldName) (w : Writer) (s b : List ℕ) where
  put-field : (q : Plan) (v : Content f) → (content_of most f).Good v → Here w s b → (ys : List ℕ) → (content_of most f).write v ≡ ys
      → w.at + length (ys ++ opening q) ≤ length s → w.at + length (ys ++ opening q) ≤ most_bytes
      → put_field_at most (field f q) w s f (given ys)
      ≡ answered (Ok tt) w s (opened w.type_id (suc w.phase) (w.at + length ys) q) (overwrite s w.at (ys ++ opening q))
  unfolding put_field_at
  put-field q v g h ys e fits k =
      let R : Result (Unit {0}) Refusal = room_for (w.at + length (ys ++ opening q)) s in
      ap (λ (x : Result (Unit {0}) Refusal). answered x w s (opened w.type_id (suc w.phase) (w.at + length ys) q) (overwrite s w.at (ys ++ opening q)))
      (guarded-fine (same_field f f) w s _ (eq-eqb (field_code f) (field_code f) refl) h.fits
      ∙ subst (λ (z : List ℕ). judged (content_of most f) (given z) R ≡ R) e (judged-own (content_of most f) v R g)
      ∙ room-fine (w.at + length (ys ++ opening q)) s fits k)

module _ (l : ListName) (w : Writer) (s b : List ℕ) (least : ℕ) (q : Plan) (es : List (elements_of l).Element) (o : Open (elements_of l) w s b es) where
  abbrev E : List ℕ → Format (elements_of l).Element
  E = (elements_of l).element

  open-sane : (same_list l l && sane w) ≡ true
  open-sane =
      let few = open-few (elements_of l) w s b es o in
      rw (
        eq-eqb (list_code l) (list_code l) refl,
        le-leb (w.list + 4) w.at (omega (arith, o.place)),
        le-leb w.last w.at o.inside,
        lt-ltb w.count most_bytes (omega (arith, o.number, o.here.small)),
      )

  put-element : (v : (elements_of l).Element) → (E (leaves E [] es)).Good v → (ys : List ℕ) → (E (leaves E [] es)).write v ≡ ys
      → w.at + length ys ≤ length s → w.at + length ys ≤ most_bytes
      → put_element_at (many l least q) w s l (given ys) ≡ answered (Ok tt) w s (grown w (length ys)) (appended w s ys)
  unfolding put_element_at
  put-element v g ys e f k =
      let R : Result (Unit {0}) Refusal = room_for (w.at + length ys) s in
      ap (λ (x : Result (Unit {0}) Refusal). answered x w s (grown w (length ys)) (appended w s ys))
      (guarded-fine (same_list l l && sane w) w s _ open-sane o.here.fits
      ∙ ap (λ (z : List ℕ). judged (E z) (given ys) R) o.before
      ∙ subst (λ (z : List ℕ). judged (E (leaves E [] es)) (given z) R ≡ R) e (judged-own (E (leaves E [] es)) v R g)
      ∙ room-fine (w.at + length ys) s f k)

  close-list : least ≤ w.count → w.at + length (opening q) ≤ length s → w.at + length (opening q) ≤ most_bytes
      → close_at (many l least q) w s ≡ answered (Ok tt) w s (opened w.type_id (suc w.phase) w.at q) (overwrite s w.at (opening q))
  unfolding close_at
  close-list n f k =
      ap (λ (x : Result (Unit {0}) Refusal). answered x w s (opened w.type_id (suc w.phase) w.at q) (overwrite s w.at (opening q)))
      (guarded-fine true w s _ refl o.here.fits ∙ rw (le-leb least w.count n) (room-fine (w.at + length (opening q)) s f k))

length-appended : (w : Writer) (s ys : List ℕ) → w.at + length ys ≤ length s → w.list + 4 ≤ length s → length (appended w s ys) ≡ length s
unfolding appended
length-appended w s ys f k =
    length-overwrite (overwrite s w.at ys) (digits 4 (w.count + 1)) w.list
    (omega (arith, length-overwrite s ys w.at f, length_digits 4 (w.count + 1)))
    ∙ length-overwrite s ys w.at f

-- ---- from one segment to the next

-- a list's count is among the bytes still to come
pub opening-le : (most : ℕ) (q : Plan) (v : Value q) → length (opening q) ≤ length ((form most q).write v)
unfolding form only and_then
opening-le most shut v = omega arith
opening-le most end v = omega arith
opening-le most (field f q) v = omega arith
opening-le most (many l least q) v =
    omega (
      arith,
      length-append ((list_of l least).write v.0) ((form most q).write v.1),
      ap length (list-write (elements_of l) least v.0),
      length-append (digits 4 (length v.0)) (listed (elements_of l) v.0),
      length_digits 4 0,
      length_digits 4 (length v.0),
    )

module _ (F : Family) where
  -- each step is done, and the last leaves w' and s'
  abbrev pub Does : List Act → Writer → List ℕ → Writer → List ℕ → Type 0
  Does [] w s w' s' = (w ≡ w') × (s ≡ s')
  Does (a ∷ l) w s w' s' = (w₁ : Writer) × (s₁ : List ℕ) × (act F a w s ≡ turn w₁ (Ok w₁.at) s₁) × Does l w₁ s₁ w' s'

  does-append : (l m : List Act) (w : Writer) (s : List ℕ) (w₁ : Writer) (s₁ : List ℕ) (w₂ : Writer) (s₂ : List ℕ) → Does l w s w₁ s₁ → Does m w₁ s₁ w₂ s₂
      → Does (l ++ m) w s w₂ s₂
  does-append [] m w s w₁ s₁ w₂ s₂ (a, b) k = rw (a, b) k
  does-append (a ∷ l) m w s w₁ s₁ w₂ s₂ (w', s', e, h) k = (w', s', e, does-append l m w' s' w₁ s₁ w₂ s₂ h k)

  pub does-run : (l : List Act) (w : Writer) (s : List ℕ) (w' : Writer) (s' : List ℕ) → Does l w s w' s' → AllDone F l w s × (run F l w s ≡ (w', s'))
  unfolding AllDone run
  does-run [] w s w' s' (a, b) = (tt, rw (a, b))
  does-run (a ∷ l) w s w' s' (w₁, s₁, e, h) =
      let (d, r) = does-run l w₁ s₁ w' s' h in
      ((rw e, rw e d), rw e r)

  -- the steps are done, b is written, and q is due
  abbrev pub Reached : Plan → List ℕ → List Act → Writer → List ℕ → Type 0
  Reached q b l w s = (w' : Writer) × (s' : List ℕ) × Does l w s w' s' × Begun q w' s' b × (due_for F w' ≡ q) × (length s' ≡ length s)

  -- two sequences of steps, one after the other; the state and the buffer between them are variables
  onward : (q r : Plan) (b c : List ℕ) (l m : List Act) (w : Writer) (s : List ℕ) → Reached q b l w s
      → ((w₁ : Writer) (s₁ : List ℕ) → Begun q w₁ s₁ b → due_for F w₁ ≡ q → length s₁ ≡ length s → Reached r c m w₁ s₁)
      → Reached r c (l ++ m) w s
  onward q r b c l m w s (w₁, s₁, does, h, d, e) k =
      let (w₂, s₂, does₂, h₂, d₂, e₂) = k w₁ s₁ h d e in
      (w₂, s₂, does-append l m w s w₁ s₁ w₂ s₂ does does₂, h₂, d₂, e₂ ∙ e)

  field-reached : (f : FieldName) (q : Plan) (v : Content f) (w : Writer) (s b : List ℕ) → due_for F w ≡ field f q → Here w s b
      → (content_of F.memo_most f).Good v → (ys : List ℕ) → (content_of F.memo_most f).write v ≡ ys
      → w.at + length (ys ++ opening q) ≤ length s → w.at + length (ys ++ opening q) ≤ most_bytes
      → Reached q (b ++ ys) (puts_field f (given ys) ∷ []) w s
  unfolding put_field answered
  field-reached f q v w s b d h g ys e fits k = (
    opened w.type_id (suc w.phase) (w.at + length ys) q,
    overwrite s w.at (ys ++ opening q),
    (_, _, ap (λ (r : Plan). put_field_at F.memo_most r w s f (given ys)) d ∙ put-field F.memo_most f w s b q v g h ys e fits k, (refl, refl)),
    begin w.type_id (suc w.phase) w s b h ys q fits k,
    due-next w.phase (plan_for F w.type_id) (field f q) tt d,
    length-overwrite s (ys ++ opening q) w.at fits,
  )

  -- ---- the elements of a list, one by one

  module _ (l : ListName) (least : ℕ) (q : Plan) (b : List ℕ) where
    abbrev Element : Type 0
    Element = (elements_of l).Element

    abbrev element : List ℕ → Format Element
    element = (elements_of l).element

    abbrev Holds : Writer → List ℕ → List Element → Type 0
    Holds w s es = Open (elements_of l) w s b es

    added : (w : Writer) (s : List ℕ) (es : List Element) (v : Element) (ys : List ℕ) → (element (leaves element [] es)).write v ≡ ys
        → due_for F w ≡ many l least q → Holds w s es → (element (leaves element [] es)).Good v
        → w.at + length ys ≤ length s → w.at + length ys ≤ most_bytes
        → put_element F w s l (given ys) ≡ turn (grown w (length ys)) (Ok (grown w (length ys)).at) (appended w s ys)
    unfolding put_element answered
    added w s es v ys e d o g f k =
        ap (λ (r : Plan). put_element_at r w s l (given ys)) d ∙ put-element l w s b least q es o v g ys e f k

    abbrev Grew : List Element → List Act → Writer → List ℕ → Type 0
    Grew es m w s = (w' : Writer) × (s' : List ℕ) × Does m w s w' s' × Holds w' s' es × (due_for F w' ≡ many l least q) × (length s' ≡ length s)

    one_more : (v : Element) (es more : List Element) (m : List Act) (w : Writer) (s : List ℕ)
        → due_for F w ≡ many l least q → Holds w s es → (element (leaves element [] es)).Good v
        → (ys : List ℕ) → (element (leaves element [] es)).write v ≡ ys → w.at + length ys ≤ length s → w.at + length ys ≤ most_bytes
        → length (appended w s ys) ≡ length s
        → Grew ((es ++ (v ∷ [])) ++ more) m (grown w (length ys)) (appended w s ys)
        → Grew (es ++ (v ∷ more)) (puts_element l (given ys) ∷ m) w s
    one_more v es more m w s d o g ys ey f k len (w', s', does, o', d', el) = (
      w',
      s',
      (grown w (length ys), appended w s ys, added w s es v ys ey d o g f k, does),
      subst (Holds w' s') (append_snoc es v more) o',
      d',
      el ∙ len,
    )

    adds : (more es : List Element) (p : List ℕ) (w : Writer) (s : List ℕ) → leaves element [] es ≡ p → due_for F w ≡ many l least q → Holds w s es
        → Chain element (left element) p more → w.at + length (list_write element (left element) p more) ≤ length s
        → w.at + length (list_write element (left element) p more) ≤ most_bytes
        → Grew (es ++ more) (element_acts l p more) w s
    unfolding grown list_write element_acts
    adds [] es p w s ep d o c f k = (w, s, (refl, refl), subst (Holds w s) (sym (append-nil es)) o, d, refl)
    adds (v ∷ more) es p w s ep d o (c, cs) f k =
        let ys : List ℕ = (element p).write v in
        let n = length-append ys (list_write element (left element) ys more) in
        let ey : (element (leaves element [] es)).write v ≡ ys = ap (λ (z : List ℕ). (element z).write v) ep in
        let good : (element (leaves element [] es)).Good v = subst (λ (z : List ℕ). (element z).Good v) (sym ep) c in
        let fits : w.at + length ys ≤ length s = omega arith in
        let small : w.at + length ys ≤ most_bytes = omega arith in
        let len : length (appended w s ys) ≡ length s = length-appended w s ys fits (omega (arith, open-few (elements_of l) w s b es o, o.place)) in
        one_more v es more (element_acts l ys more) w s d o good ys ey fits small len
        (adds more (es ++ (v ∷ [])) ys (grown w (length ys)) (appended w s ys) (leaves-snoc element [] es v ∙ ey) d
        (open_more (elements_of l) w s b es o v good ys ey fits small) cs (omega arith) (omega arith))

    -- the elements are written, and then the list is closed
    closed_after : (es : List Element) (m : List Act) (w : Writer) (s : List ℕ) → least ≤ length es
        → length b + length ((list_of l least).write es) + length (opening q) ≤ length s
        → length b + length ((list_of l least).write es) + length (opening q) ≤ most_bytes
        → Grew es m w s → Reached q (b ++ (list_of l least).write es) (m ++ (closes ∷ [])) w s
    unfolding close answered
    closed_after es m w s enough f k (w₁, s₁, does, o, d, el) =
        let (_, here) = closed (elements_of l) w₁ s₁ b es o least (omega (arith, o.number)) in
        let c : List ℕ = b ++ (list_of l least).write es in
        let a = here-at w₁ s₁ c here in
        let j = length-append b ((list_of l least).write es) in
        let fits : w₁.at + length (opening q) ≤ length s₁ = omega arith in
        let small : w₁.at + length (opening q) ≤ most_bytes = omega arith in
        let w₂ : Writer = opened w₁.type_id (suc w₁.phase) w₁.at q in
        let s₂ : List ℕ = overwrite s₁ w₁.at (opening q) in
        let next : Begun q w₂ s₂ c = rw (add-zero, append-nil) at (begin w₁.type_id (suc w₁.phase) w₁ s₁ c here [] q fits small) in
        let done = ap (λ (r : Plan). close_at r w₁ s₁) d ∙ close-list l w₁ s₁ b least q es o (omega (arith, o.number)) fits small in (
          w₂,
          s₂,
          does-append m (closes ∷ []) w s w₁ s₁ w₂ s₂ does (w₂, s₂, done, (refl, refl)),
          next,
          due-next w₁.phase (plan_for F w₁.type_id) (many l least q) tt d,
          length-overwrite s₁ (opening q) w₁.at fits ∙ el,
        )

    list-reached : (es : List Element) (w : Writer) (s : List ℕ) → due_for F w ≡ many l least q → Holds w s [] → (list_of l least).Good es
        → length b + length ((list_of l least).write es) + length (opening q) ≤ length s
        → length b + length ((list_of l least).write es) + length (opening q) ≤ most_bytes
        → Reached q (b ++ (list_of l least).write es) (element_acts l [] es ++ (closes ∷ [])) w s
    unfolding list_write
    list-reached es w s d o g f k =
        let (c, enough) = list-inv (elements_of l) least es g in
        let a = open_at (elements_of l) w s b [] o in
        let bytes : List ℕ = listed (elements_of l) es in
        let whole : length ((list_of l least).write es) ≡ 4 + length bytes =
        omega (arith, ap length (list-write (elements_of l) least es), length-append (digits 4 (length es)) bytes, length_digits 4 (length es)) in
        closed_after es (element_acts l [] es) w s enough f k (adds es [] [] w s refl d o c (omega arith) (omega arith))

  -- ---- the segments of a plan

  pub plan-reached : (q : Plan) (v : Value q) → Ends q → (w : Writer) (s b : List ℕ) → due_for F w ≡ q → Begun q w s b → (form F.memo_most q).Good v
      → length b + length ((form F.memo_most q).write v) ≤ length s → length b + length ((form F.memo_most q).write v) ≤ most_bytes
      → Reached end (b ++ (form F.memo_most q).write v) (plan_acts F.memo_most q v) w s
  unfolding form only and_then plan_acts
  plan-reached shut v ends w s b d h g f k = absurd ends
  plan-reached end v ends w s b d h g f k = (w, s, (refl, refl), subst (Here w s) (sym (append-nil b)) h, d, refl)
  plan-reached (field i q) (x, v) ends w s b d h (g, gs) f k =
      let ys : List ℕ = (content_of F.memo_most i).write x in
      let zs : List ℕ = (form F.memo_most q).write v in
      let acts : List Act = plan_acts F.memo_most q v in
      let a = here-at w s b h in
      let o = opening-le F.memo_most q v in
      let n = length-append ys zs in
      let m = length-append ys (opening q) in
      let j = length-append b ys in
      onward q end (b ++ ys) (b ++ (ys ++ zs)) (puts_field i (given ys) ∷ []) acts w s
      (field-reached i q x w s b d h g ys refl (omega arith) (omega arith))
      (λ w₁ s₁ h₁ d₁ e₁. subst (λ (z : List ℕ). Reached end z acts w₁ s₁) (append_assoc b ys zs)
      (plan-reached q v ends w₁ s₁ (b ++ ys) d₁ h₁ gs (omega arith) (omega arith)))
  plan-reached (many l least q) (x, v) ends w s b d h (g, gs) f k =
      let ys : List ℕ = (list_of l least).write x in
      let zs : List ℕ = (form F.memo_most q).write v in
      let acts : List Act = plan_acts F.memo_most q v in
      let o = opening-le F.memo_most q v in
      let n = length-append ys zs in
      let j = length-append b ys in
      subst (λ (z : List Act). Reached end (b ++ (ys ++ zs)) z w s) (append_assoc (element_acts l [] x) (closes ∷ []) acts)
      (onward q end (b ++ ys) (b ++ (ys ++ zs)) (element_acts l [] x ++ (closes ∷ [])) acts w s
      (list-reached l least q b x w s d h g (omega arith) (omega arith))
      (λ w₁ s₁ h₁ d₁ e₁. subst (λ (z : List ℕ). Reached end z acts w₁ s₁) (append_assoc b ys zs)
      (plan-reached q v ends w₁ s₁ (b ++ ys) d₁ h₁ gs (omega arith) (omega arith))))
