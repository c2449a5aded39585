-- Laws of the steps from one wanted credential to the next, in an unsigned part that was read. Assumes nothing.
use Rattle.std.specs.Prelude.{Ok, Err, Option, Result, None, Some}
use Rattle.std.specs.Result.{result_ok}
use Prim.Native.Nat.{ℕ, suc, ◌+◌, ◌-◌, ◌^◌, ◌<◌}
use mathlib.Core.Logic.{◌⊎◌}
use mathlib.Core.Path.{◌≡◌, refl, sym, ap, ◌∙◌, subst, subst₂}
use mathlib.Core.List.{List, [], ◌∷◌, ◌++◌}
use native.Mathlib.Omega.{arith}
use native.Mathlib.Nat.{not-suc-le-zero}
use lib.Dec.{leb}
use Rattle.wire.specs.declared.Refusal.{Refusal}
use Rattle.wire.specs.Bytes.{pick}
use Rattle.wire.specs.Numbers.{by, empty_list}
use Rattle.wire.specs.Format.{Format, took, refused, read}
use Rattle.wire.specs.laws.Format.{parse-inv, pick_inv, took-refused}
use Rattle.wire.specs.Fields.{integer}
use Rattle.wire.specs.Sequence.{and_then, items}
use Rattle.wire.specs.Series.{left, series_from}
use Rattle.wire.specs.Parsers.{list_parse}
use Rattle.wire.specs.code.Answer.{valued}
use Rattle.wire.proofs.Bytes.{found}
use Rattle.wire.proofs.Reading as W
use Rattle.transaction.specs.Credentials.{CredentialType, credential_code, Want}
use Rattle.transaction.specs.Plan.{Content, content_of, want_of, field_credential, field_signatures, elements_of, Plan, field, many, plan_of}
use Rattle.transaction.specs.Form.{at_least, list_of, Value, form, field_asks, element_asks, asked, wanted}
use Rattle.transaction.specs.declared.FieldName.{FieldName}
use Rattle.transaction.specs.declared.ListName.{ListName}
use Rattle.transaction.specs.declared.ListName.TheVariants as L
use Rattle.plan.specs.declared.Due.{Due}
use Rattle.plan.specs.declared.Due.TheVariants as D
use Rattle.plan.specs.Due.{tail, due, due_of}
use Rattle.plan.specs.code.Rows.{last_phase, Live, credential_asked, FieldPast, FieldSigns, ElementTells, ElementsPast, AskingTells}
use Rattle.plan.proofs.Passing.{FirstOf, first_of}
use Rattle.plan.proofs.RowLaws.{live-phase, live-next, if-over, if-field, if-list}
use Rattle.credentials.specs.declared.Wanting.{Wanting}
use Rattle.credentials.specs.declared.Begun.{Begun}
use Rattle.credentials.specs.declared.Begun.TheVariants as B
use Rattle.credentials.specs.declared.Wanted.{Wanted}
use Rattle.credentials.specs.code.Wanted.{WantsFrom, WantsIn, BegunAs, Wants, ListBegins, Begins, BegunLive, ElementWants, NextWants}
use Rattle.credentials.proofs.Asked.{none-wanted, none-asked}
use Rattle.wire.proofs.Trying.{same-parts, ok-some, ok-none}

-- ---- the credential that an element or a field asks for

pub one-want : (c : Option CredentialType) (t n : ℕ) → t ≡ credential_asked c → (t ≡ 0 → ⊥)
    → (w : Want) × (want_of c n ≡ w ∷ []) × (t ≡ credential_code w.type) × (n ≡ w.signatures)
one-want None t n i z = absurd (z i)
one-want (Some c) t n i z = (record { type = c; signatures = n }, refl, i, refl)

-- ---- the current element

module _ (s : List ℕ) (from : Wanting) (x : Result (ℕ × ℕ) Refusal) (h : AskingTells from.asks s from.at x) where
  answered : (most type_id : ℕ) (ws : List Want) (w : Wants most s type_id from ws) → 0 < from.left → ElementTells w.list s from.at x
  answered most type_id ws w o = h w.list (w.type o) (w.asking o)

  firstly : (most type_id c : ℕ) (ws : List Want) (w : Wants most s type_id from ws) → from.left ≡ suc c
      → FirstOf w.list c w.prev s from.at w.elements w.next
  firstly most type_id c ws w i =
      first_of w.list c w.prev s from.at w.elements w.next
      (subst (λ (n : ℕ). read (series_from (elements_of w.list).element w.prev n) s from.at ≡ took w.elements w.next) i w.stands)

  -- an element that was read is not refused
  pub element-unread : (y : Option (ℕ × ℕ)) → y ≡ result_ok x → 0 < from.left → y ≡ None → (z : Option Wanted) → ElementWants s from z
  element-unread y i o j z type_id most ws w =
      let (e, q) = ok-none x y i j in
      let f = firstly most type_id (from.left - 1) ws w (omega arith) in
      let g = answered most type_id ws w o w.prev f.element f.next f.first in
      let z : ◌≡◌ {A = ℕ} 0 1 = cc in absurd (omega arith)

  pub element-wanted : (k m : ℕ) → 0 < from.left → (y : Option (ℕ × ℕ)) → y ≡ result_ok x → y ≡ Some (k, m)
      → ElementWants s from
      (Some record { credential = from.asks; signatures = k; next = record { phase = from.phase; asks = from.asks; at = m; left = from.left - 1 } })
  unfolding asked
  element-wanted k m o y i j type_id most ws w =
      let q = ok-some x y i (k, m) j in
      let l : ListName = w.list in
      let f = firstly most type_id (from.left - 1) ws w (omega arith) in
      let g = answered most type_id ws w o w.prev f.element f.next f.first in
      let (signs, next) = same-parts (sym g ∙ q) in
      let (d, asks, type, count) = one-want (elements_of l).credential from.asks ((elements_of l).signatures f.element) (w.type o) (w.asking o) in
      let E : List ℕ → Format (elements_of l).Element = (elements_of l).element in
      record {
        want = d;
        others = asked (element_asks l) f.others ++ w.later;
        all =
            w.wants
            ∙ ap (λ (v : List (elements_of l).Element). asked (element_asks l) v ++ w.later) f.all
            ∙ ap (λ (us : List Want). (us ++ asked (element_asks l) f.others) ++ w.later) asks;
        type = type;
        signatures = sym signs ∙ count;
        after =
            record {
              list = l;
              type = λ h. w.type o;
              asking = λ h. w.asking o;
              prev = (E w.prev).write f.element;
              elements = f.others;
              next = w.next;
              later = w.later;
              stands =
                  subst (λ (i : ℕ). read (series_from E ((E w.prev).write f.element) (from.left - 1)) s i ≡ took f.others w.next) next f.rest;
              after = w.after;
              wants = refl;
            };
      }

-- ---- after a list

-- no element is left: the next segments start here
list_done : (most : ℕ) (s : List ℕ) (asks : ℕ) (p : Plan) (at : ℕ) (ws : List Want) → WantsIn most s asks 0 p at ws → WantsFrom most s p at ws
unfolding items list_parse asked
list_done most s asks p at ws w =
    let l : ListName = w.list in
    let empty : [] ≡ w.elements = cc in
    let here : w.next ≡ at = cc in
    subst₂ (λ (j : ℕ) (us : List Want). WantsFrom most s p j us) here
    (sym (w.wants ∙ ap (λ (v : List (elements_of l).Element). asked (element_asks l) v ++ w.later) (sym empty))) w.after

-- the converse, for any list
pub list_over : (most : ℕ) (s : List ℕ) (asks : ℕ) (p : Plan) (at : ℕ) (ws : List Want) → WantsFrom most s p at ws → WantsIn most s asks 0 p at ws
unfolding items list_parse asked
list_over most s asks p at ws w =
    record {
      list = L.Output;
      type = λ o. absurd (not-suc-le-zero o);
      asking = λ o. absurd (not-suc-le-zero o);
      prev = [];
      elements = [];
      next = at;
      later = ws;
      stands = refl;
      after = w;
      wants = refl;
    }

-- a segment that was read, and the rest of the plan after it
pub record Front {A : Type 0} (most : ℕ) (G : Format A) (p : Plan) (s : List ℕ) (at : ℕ) (v : A × Value p) (n : ℕ) : Type 0 where
  pub between : A
  pub others : Value p
  pub next : ℕ
  pub all : v ≡ (between, others)
  pub first : read G s at ≡ took between next
  pub rest : read (form most p) s next ≡ took others n

pub front_of : {A : Type 0} (most : ℕ) (G : Format A) (p : Plan) (s : List ℕ) (at : ℕ) (v : A × Value p) (n : ℕ)
    → read (and_then G (λ a. form most p)) s at ≡ took v n → Front most G p s at v n
unfolding and_then
front_of most G p s at v n e =
    let (a, i, ea, e₁) = parse-inv G s at (λ a i. (form most p).parse s i refused (λ u k. took (a, u) k)) v n e in
    let (u, k, eu, e₂) = parse-inv (form most p) s i (λ u k. took (a, u) k) v n e₁ in
    let j : k ≡ n = cc in
    record { between = a; others = u; next = i; all = cc; first = ea; rest = subst (λ (k : ℕ). read (form most p) s i ≡ took u k) j eu }

module _ (most : ℕ) (s : List ℕ) (at : ℕ) (ws : List Want) where
  -- a field that was read, and what comes after it
  module _ (f : FieldName) (y : ℕ) (g : FieldPast f s at y) where
    field-passed : (p : Plan) → WantsFrom most s (field f p) at ws
        → (v : Content f) × (us : List Want) × (read (content_of most f) s at ≡ took v y) × (ws ≡ want_of (field_credential f) (field_signatures f v) ++ us)
        × WantsFrom most s p y us
    unfolding form wanted
    field-passed p w =
        let r = front_of most (content_of most f) p s at w.value w.next w.stands in
        let next : r.next ≡ y = sym (g most r.between r.next r.first) in (
          r.between,
          wanted p r.others,
          r.first ∙ ap (took r.between) next,
          w.wants ∙ ap (λ (v : Content f × Value p). field_asks f v.0 ++ wanted p v.1) r.all,
          record {
            value = r.others;
            next = w.next;
            stands = subst (λ (i : ℕ). read (form most p) s i ≡ took r.others w.next) next r.rest;
            wants = refl;
          },
        )

  -- the count of a list that was read is not refused
  list_read : (l : ListName) (least : ℕ) (p : Plan) (y : Result (ℕ × ℕ) Refusal) (e : Refusal) → y ≡ valued (integer 4) s at
      → WantsFrom most s (many l least p) at ws
      → y ≡ Err e → ⊥
  unfolding form at_least
  list_read l least p y e h w q =
      let E : List ℕ → Format (elements_of l).Element = (elements_of l).element in
      let r = front_of most (list_of l least) p s at w.value w.next w.stands in
      let (d, k, ed, _) = parse-inv (integer 4) s at (λ d k. pick (leb least d) ((items E (left E) [] d).parse s k refused took) (refused (by empty_list at)))
      r.between r.next r.first in
      took-refused d k e (sym ed ∙ W.integer-refused-inv (read (integer 4) s at) e (sym ((integer 4).same s at Err (λ v n. Ok (v, n))) ∙ found h q))

  -- the elements of a list that was read, and what comes after them
  record Entered (l : ListName) (c : ℕ) (p : Plan) (m : ℕ) : Type 0 where
    elements : List (elements_of l).Element
    next : ℕ
    later : List Want
    stands : read (series_from (elements_of l).element [] c) s m ≡ took elements next
    after : WantsFrom most s p next later
    wants : ws ≡ asked (element_asks l) elements ++ later

  list-entered : (l : ListName) (least : ℕ) (p : Plan) (y : Result (ℕ × ℕ) Refusal) (c m : ℕ) → y ≡ valued (integer 4) s at
      → WantsFrom most s (many l least p) at ws
      → y ≡ Ok (c, m) → Entered l c p m
  unfolding form wanted at_least
  list-entered l least p y c m h w q =
      let E : List ℕ → Format (elements_of l).Element = (elements_of l).element in
      let r = front_of most (list_of l least) p s at w.value w.next w.stands in
      let (d, k, ed, e₁) = parse-inv (integer 4) s at (λ d k. pick (leb least d) ((items E (left E) [] d).parse s k refused took) (refused (by empty_list at)))
      r.between r.next r.first in
      let (_, e₂) = pick_inv (leb least d) (by empty_list at) ((items E (left E) [] d).parse s k refused took) r.between r.next e₁ in
      let t : took d k ≡ took c m = sym ed ∙ W.integer-value-inv (read (integer 4) s at) c m (sym ((integer 4).same s at Err (λ v n. Ok (v, n))) ∙ found h q) in
      let dc : d ≡ c = cc in
      let km : k ≡ m = cc in
      record {
        elements = r.between;
        next = r.next;
        later = wanted p r.others;
        stands = subst₂ (λ (d k : ℕ). read (series_from E [] d) s k ≡ took r.between r.next) dc km e₂;
        after = record { value = r.others; next = w.next; stands = r.rest; wants = refl };
        wants = w.wants ∙ ap (λ (v : List (elements_of l).Element × Value p). asked (element_asks l) v.0 ++ wanted p v.1) r.all;
      }

-- ---- into a list

module _ (s : List ℕ) (at : ℕ) (l : ListName) (y : Result (ℕ × ℕ) Refusal) (g : y ≡ valued (integer 4) s at) where
  pub list-uncounted : (o : Option (ℕ × ℕ)) → o ≡ result_ok y → o ≡ None → (z : Option Begun) → ListBegins l s at z
  list-uncounted o j k z most least p ws w = let (e, i) = ok-none y o j k in absurd (list_read most s at ws l least p y e g w i)

  module _ (c m : ℕ) (o : Option (ℕ × ℕ)) (j : o ≡ result_ok y) (k : o ≡ Some (c, m)) (t : ℕ) (ht : t ≡ credential_asked (elements_of l).credential) where
    i : y ≡ Ok (c, m)
    i = ok-some y o j (c, m) k

    pub list-asking : (t ≡ 0 → ⊥) → ListBegins l s at (Some (B.Into t c m))
    list-asking z most least p ws w =
        let r = list-entered most s at ws l least p y c m g w i in
        record {
          list = l;
          type = λ o. ht;
          asking = λ o. z;
          prev = [];
          elements = r.elements;
          next = r.next;
          later = r.later;
          stands = r.stands;
          after = r.after;
          wants = r.wants;
        }

    module _ (z : t ≡ 0) (x : Result ℕ Refusal) (h : ElementsPast l c s m x) where
      pub list-unread : (u : Option ℕ) → u ≡ result_ok x → u ≡ None → (a : Option Begun) → ListBegins l s at a
      list-unread u f b a most least p ws w =
          let (e, q) = ok-none x _ f b in
          let r = list-entered most s at ws l least p y c m g w i in
          let d = h [] r.elements r.next r.stands in
          let z : ◌≡◌ {A = ℕ} 0 1 = cc in absurd (omega arith)

      pub list-passed : (n : ℕ) (u : Option ℕ) → u ≡ result_ok x → u ≡ Some n → ListBegins l s at (Some (B.Into 0 0 n))
      list-passed n u f b most least p ws w =
          let q = ok-some x _ f n b in
          let r = list-entered most s at ws l least p y c m g w i in
          let d = h [] r.elements r.next r.stands in
          let next : r.next ≡ n = cc in
          let same : r.later ≡ ws =
          sym (r.wants ∙ ap (λ (us : List Want). us ++ r.later) (none-asked (elements_of l).credential (elements_of l).signatures t ht z r.elements)) in
          list_over most s 0 p n ws (subst₂ (λ (j : ℕ) (us : List Want). WantsFrom most s p j us) next same r.after)

pub ruleset listing = (list-uncounted, list-asking, list-unread, list-passed)

-- ---- into the next segment

module _ (s : List ℕ) (p : Plan) (at : ℕ) (x : Due) (h : x ≡ due_of p) where
  abbrev Answers : Option Begun → Plan → Type 0
  Answers r p = Begins p s at r

  pub begun-over : (x ≡ D.Nothing) ⊎ (x ≡ D.Finish) → Begins p s at None
  unfolding wanted
  begun-over q = if-over x (Answers None) p h q (λ most ws w. w.wants) (λ most ws w. w.wants)

  pub begun-list : (l : ListName) (least : ℕ) (r : Option Begun) → x ≡ D.List l least → ListBegins l s at r → Begins p s at r
  begun-list l least r q g = if-list x (Answers r) p h l least q (λ p most ws w. g most least p ws w)

  module _ (f : FieldName) (q : x ≡ D.Field f) (y : ℕ) (g : FieldPast f s at y) (t : ℕ) (ht : t ≡ credential_asked (field_credential f)) where
    pub begun-field : t ≡ 0 → Begins p s at (Some (B.Into 0 0 y))
    begun-field z =
        if-field x (Answers (Some (B.Into 0 0 y))) p h f q (λ p most ws w.
        let (v, us, e, i, b) = field-passed most s at ws f y g p w in
        let same : us ≡ ws = sym (i ∙ ap (λ (vs : List Want). vs ++ us) (none-wanted (field_credential f) t (field_signatures f v) ht z)) in
        list_over most s 0 p y ws (subst (λ (us : List Want). WantsFrom most s p y us) same b))

    pub begun-asking : (k : ℕ) → FieldSigns f s at k → (t ≡ 0 → ⊥) → Begins p s at (Some (B.Asks t k y))
    begun-asking k signs z =
        if-field x (Answers (Some (B.Asks t k y))) p h f q (λ p most ws w.
        let (v, us, e, i, b) = field-passed most s at ws f y g p w in
        let (d, asks, type, count) = one-want (field_credential f) t (field_signatures f v) ht z in
        record {
          want = d;
          others = us;
          all = i ∙ ap (λ (vs : List Want). vs ++ us) asks;
          type = type;
          signatures = signs most v y e ∙ count;
          after = b;
        })

  field-live : (f : FieldName) → x ≡ D.Field f → Live p
  field-live f q = if-field x Live p h f q (λ p. tt)

  pub live-list : (l : ListName) (least : ℕ) → x ≡ D.List l least → (r : Option Begun) → BegunLive p r
  live-list l least q None = tt
  live-list l least q (Some (B.Into a c m)) = if-list x Live p h l least q (λ p. tt)
  live-list l least q (Some (B.Asks t n m)) = if-list x Live p h l least q (λ p. tt)

  pub live-into : (f : FieldName) (a c m : ℕ) → x ≡ D.Field f → BegunLive p (Some (B.Into a c m))
  live-into f a c m q = field-live f q

  pub live-asks : (f : FieldName) (t n m : ℕ) → x ≡ D.Field f → BegunLive p (Some (B.Asks t n m))
  live-asks f t n m q = field-live f q

pub ruleset beginning = (begun-over, begun-list, begun-field, begun-asking, live-list, live-into, live-asks)

-- ---- the next credential: what is wanted from the start on is what is wanted from the current state on

module _ (type_id : ℕ) (s : List ℕ) (from : Wanting) where
  unfoldable pub Onward : ℕ → ℕ → ℕ → ℕ → Type 0
  Onward phase asks at left =
      (most : ℕ) (ws : List Want) → Wants most s type_id from ws → WantsIn most s asks left (due phase (plan_of type_id)) at ws

  pub next_start : Onward from.phase from.asks from.at from.left
  unfolding Onward
  next_start most ws w = w

  pub next-element : (phase asks at left : ℕ) → Onward phase asks at left → (r : Option Wanted)
      → ElementWants s record { phase = phase; asks = asks; at = at; left = left } r → NextWants type_id s from r
  unfolding Onward
  next-element phase asks at left o r h most ws w = h type_id most ws (o most ws w)

module _ (type_id phase : ℕ) (r : Option Begun) (l : BegunLive (due phase (plan_of type_id)) r) where
  abbrev rest : Plan
  rest = tail (due phase (plan_of type_id))

  module _ (b : Begun) (q : r ≡ Some b) where
    -- a segment is entered only if one is due, so only in the phases up to the last
    entered : (d : Begun) → b ≡ d → BegunLive (due phase (plan_of type_id)) (Some d)
    entered d e = subst (BegunLive (due phase (plan_of type_id))) (q ∙ ap Some e) l

    pub into-fits : (a c m : ℕ) → b ≡ B.Into a c m → phase + 1 < 2 ^ 32
    into-fits a c m e = omega (arith, live-phase type_id phase (entered (B.Into a c m) e))

    pub into_less : (a c m : ℕ) → b ≡ B.Into a c m → last_phase + 1 - (phase + 1) < last_phase + 1 - phase
    into_less a c m e = omega (arith, live-phase type_id phase (entered (B.Into a c m) e))

    pub asks-fits : (t n m : ℕ) → b ≡ B.Asks t n m → phase + 1 < 2 ^ 32
    asks-fits t n m e = omega (arith, live-phase type_id phase (entered (B.Asks t n m) e))

  module _ (s : List ℕ) (from : Wanting) (asks at left : ℕ) (o : Onward type_id s from phase asks at left) (over : left ≡ 0)
      (h : Begins (due phase (plan_of type_id)) s at r) where
    begun : (most : ℕ) (ws : List Want) → Wants most s type_id from ws → (d : Option Begun) → r ≡ d → BegunAs most s rest ws d
    unfolding Onward
    begun most ws w d q =
        let p : Plan = due phase (plan_of type_id) in
        subst (λ (r : Option Begun). BegunAs most s rest ws r) q
        (h most ws (list_done most s asks p at ws (subst (λ (c : ℕ). WantsIn most s asks c p at ws) over (o most ws w))))

    pub next-end : r ≡ None → (z : Option Wanted) → z ≡ None → NextWants type_id s from z
    next-end q z i most ws w = rw i (begun most ws w None q)

    module _ (b : Begun) (q : r ≡ Some b) where
      pub next-into : (a c m : ℕ) → b ≡ B.Into a c m → Onward type_id s from (phase + 1) a m c
      unfolding Onward
      next-into a c m e most ws w =
          rw (live-next type_id phase (entered b q (B.Into a c m) e)) (begun most ws w (Some (B.Into a c m)) (q ∙ ap Some e))

      pub next-asks : (t n m : ℕ) → b ≡ B.Asks t n m
          → NextWants type_id s from
          (Some record { credential = t; signatures = n; next = record { phase = phase + 1; asks = t; at = m; left = 0 } })
      next-asks t n m e most ws w =
          let f = begun most ws w (Some (B.Asks t n m)) (q ∙ ap Some e) in
          record {
            want = f.want;
            others = f.others;
            all = f.all;
            type = f.type;
            signatures = f.signatures;
            after = rw (live-next type_id phase (entered b q (B.Asks t n m) e)) (list_over most s t rest m f.others f.after);
          }

pub ruleset nexts = (next_start, next-element, into-fits, into_less, asks-fits, next-end, next-into, next-asks)
