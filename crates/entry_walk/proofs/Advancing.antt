-- Laws of the steps from one entry to the next: what was read is taken apart as the code takes it. Assumes nothing.
use Rattle.std.specs.Prelude.{Ok, Err, Result}
use Prim.Native.Nat.{ℕ, zero, suc, ◌+◌, ◌-◌, ◌*◌, ◌≤◌, ◌<◌}
use mathlib.Core.Path.{◌≡◌, refl, sym, ap, ap₂, ◌∙◌, subst, subst₂}
use mathlib.Core.Bool.{not}
use mathlib.Core.Logic.{◌⊎◌, inl, inr}
use mathlib.Core.List.{List, [], ◌∷◌, ◌++◌, append_assoc}
use native.Mathlib.Omega.{arith}
use native.Mathlib.Numerals.{sub-one}
use native.Mathlib.Nat.{add-zero, mul-zero, mul-suc, mul_comm, add_comm, not-suc-le-zero}
use lib.ListN.{length, take, drop, length-append, length-drop}
use lib.Dec.{eqb}
use borrow.Author.Tests.{eqb-true}
use Rattle.wire.specs.declared.Refusal.{Refusal}
use Rattle.wire.specs.Bytes.{below}
use Rattle.wire.specs.Numbers.{by, out_of_order, unknown_type, wrong_count}
use Rattle.wire.specs.Format.{Format, took, refused, read}
use Rattle.wire.specs.laws.Format.{parse-inv, pick_inv}
use Rattle.wire.proofs.Format.{read-complete}
use Rattle.wire.specs.Fields.{integer, blob, constant}
use Rattle.wire.specs.laws.Sizes.{blob-sized, length-integer}
use Rattle.wire.specs.Sequence.{guard, tag, and_then, «as», items}
use Rattle.wire.specs.Series.{left, series_from, not_below}
use Rattle.wire.specs.Parsers.{list_parse}
use Rattle.wire.specs.laws.Items.{list-inv}
use Rattle.wire.specs.code.Answer.{ended, valued, Passes}
use Rattle.wire.proofs.Bytes.{Slice, slice-bytes, found}
use Rattle.wire.proofs.Trying.{same-parts}
use Rattle.wire.proofs.Reading as W
use Rattle.element.specs.Outputs.{Output, output}
use Rattle.element.specs.Operations.{InitialState, Fx, secp_fx, fx_code, fx_outputs, fx_id, state_outputs, initial_state_after, initial_state}
use Rattle.transaction.specs.Slots.{signature_width}
use Rattle.transaction.specs.Credentials.{Want, credential_code, Piece, signatures, each, cons, pieces}
use Rattle.transaction.specs.Entries.{EntryAt, entries_from, state_output_entry, credential_entry, credential_entries}
use Rattle.transaction.specs.Plan.{elements_of, Plan, shut, end, field, many, plan_of}
use Rattle.transaction.specs.declared.FieldName.{FieldName}
use Rattle.transaction.specs.declared.ListName.{ListName}
use Rattle.transaction.specs.declared.ListName.TheVariants as L
use Rattle.transaction.proofs.Reading.{written_next}
use Rattle.plan.specs.declared.Due.{Due}
use Rattle.plan.specs.declared.Due.TheVariants as D
use Rattle.plan.specs.Due.{tail, due, due_of}
use Rattle.plan.specs.code.Rows.{last_phase, Live, entry_of, FieldPast, ElementTells}
use Rattle.plan.proofs.RowLaws.{live-phase, live-next, if-nothing, if-end, if-field, if-list}
use Rattle.entry_walk.specs.code.Walk.{Below, Shorter, Entered, located, credential_bytes, Followed, Rest, Credentials, PlanAhead, ListAhead}
use Rattle.entry_walk.specs.code.Walk.{StateAhead, AheadIn, Ahead, First, Advances, AdvanceAhead, ElementAdvance, StateOutputAdvance, CredentialAdvance}
use Rattle.entry_walk.specs.code.Walk.{LaterAdvance, CountedAdvance}
use Rattle.entry_walk.specs.declared.Cursor.{Cursor}
use Rattle.entry_walk.specs.declared.Advance.{Advance}
use Rattle.entry_walk.specs.declared.Advance.TheVariants as T

-- ---- elements that are left of a list

module _ {A : Type 0} (E : List ℕ → Format A) (entry : ℕ → ℕ → A → List EntryAt) (Later : ℕ → List EntryAt → Type 0) (s : List ℕ) where
  -- no element is left: what comes after the list
  pub rest-done : (c at : ℕ) (es : List EntryAt) → c ≤ 0 → Rest s E entry Later c at es → Later at es
  unfolding items list_parse entries_from
  rest-done zero at es z r =
      let v : [] ≡ r.values = cc in
      let n : at ≡ r.next = cc in
      let same : es ≡ r.later = r.entries ∙ ap (λ (v : List A). entries_from E entry r.prev at v ++ r.later) (sym v) in
      subst₂ Later (sym n) (sym same) r.after
  rest-done (suc c) at es z r = absurd (not-suc-le-zero z)

  rest-none : (at : ℕ) (es : List EntryAt) → Later at es → Rest s E entry Later 0 at es
  unfolding items list_parse entries_from
  rest-none at es h = record { prev = []; values = []; next = at; later = es; stands = refl; after = h; entries = refl }

  -- the first element, and the others
  pub record One (c at : ℕ) (es : List EntryAt) : Type 0 where
    pub prev : List ℕ
    pub value : A
    pub next : ℕ
    pub others : List EntryAt
    pub stands : read (E prev) s at ≡ took value next
    pub after : Rest s E entry Later c next others
    pub entries : es ≡ entry at next value ++ others

  pub one_of : (b : Slice s) (c at : ℕ) (es : List EntryAt) → 0 < c → Rest s E entry Later c at es → One (c - 1) at es
  unfolding items list_parse entries_from
  one_of b zero at es z r = absurd (not-suc-le-zero z)
  one_of b (suc c) at es z r =
      let p : List ℕ = r.prev in
      let (v, m, ev, e₁) =
      parse-inv (E p) s at (λ a m. list_parse E (left E) c (left E p a) s m refused (λ l k. took (a ∷ l) k)) r.values r.next r.stands in
      let (l, k, el, e₂) = list-inv E (left E) c (left E p v) s m (λ l k. took (v ∷ l) k) r.values r.next e₁ in
      let same : v ∷ l ≡ r.values = cc in
      let there : k ≡ r.next = cc in
      let place : m ≡ at + length ((E p).write v) = written_next (E p) s at v m b ev in
      let w : List ℕ = (E p).write v in
      rw (sub-one (suc c))
      record {
        prev = p;
        value = v;
        next = m;
        others = entries_from E entry w m l ++ r.later;
        stands = ev;
        after =
            record {
              prev = w;
              values = l;
              next = k;
              later = r.later;
              stands = el;
              after = subst (λ (j : ℕ). Later j r.later) (sym there) r.after;
              entries = refl;
            };
        entries =
            r.entries ∙ ap (λ (x : List A). entries_from E entry p at x ++ r.later) (sym same)
            ∙ ap (λ (j : ℕ). (entry at j v ++ entries_from E entry w j l) ++ r.later) (sym place)
            ∙ append_assoc (entry at m v) (entries_from E entry w m l) r.later;
      }

-- ---- an answer agrees with what was read

module _ (s : List ℕ) (at : ℕ) (x : Result (ℕ × ℕ) Refusal) (p : x ≡ valued (integer 4) s at) where
  integer-same : (c n d m : ℕ) → x ≡ Ok (c, n) → read (integer 4) s at ≡ took d m → (c ≡ d) × (n ≡ m)
  integer-same c n d m q e =
      same-parts (found q p ∙ W.parse-took (integer 4) s at Err (λ v n. Ok (v, n)) d m e)

  integer-never : (e : Refusal) (d m : ℕ) → x ≡ Err e → read (integer 4) s at ≡ took d m → ⊥
  integer-never e d m q h =
      let i : ◌≡◌ {A = Result (ℕ × ℕ) Refusal} (Err e) (Ok (d, m)) = found q p ∙ W.parse-took (integer 4) s at Err (λ v n. Ok (v, n)) d m h in
      let z : ◌≡◌ {A = ℕ} 0 1 = cc in
      omega arith

next-same : (x : Result ℕ Refusal) (n m : ℕ) → x ≡ Ok n → x ≡ Ok m → n ≡ m
next-same x n m p q = cc

next-never : (x : Result ℕ Refusal) (e : Refusal) (m : ℕ) → x ≡ Err e → x ≡ Ok m → ⊥
next-never x e m p q = let z : ◌≡◌ {A = ℕ} 0 1 = cc in omega arith

value_same : (x : Result (ℕ × ℕ) Refusal) (c n d m : ℕ) → x ≡ Ok (c, n) → x ≡ Ok (d, m) → n ≡ m
value_same x c n d m p q = (same-parts (sym p ∙ q)).1

value-never : (x : Result (ℕ × ℕ) Refusal) (e : Refusal) (d m : ℕ) → x ≡ Err e → x ≡ Ok (d, m) → ⊥
value-never x e d m p q = let z : ◌≡◌ {A = ℕ} 0 1 = cc in omega arith

pub integer-next : (s : List ℕ) (b : Slice s) (at v n : ℕ) → read (integer 4) s at ≡ took v n → n ≡ at + 4
integer-next s b at v n h = written_next (integer 4) s at v n b h ∙ ap (λ j. at + j) (length-integer 4 v)

-- ---- into a list

module _ (phase : ℕ) (s : List ℕ) (at : ℕ) (x : Result (ℕ × ℕ) Refusal) (p : x ≡ valued (integer 4) s at) where
  pub counted-short : (e : Refusal) (r : Advance) → x ≡ Err e → CountedAdvance phase s at r
  unfolding CountedAdvance
  counted-short e r q d m h = absurd (integer-never s at x p e d m q h)

  pub counted-into : (c n : ℕ) → x ≡ Ok (c, n) → CountedAdvance phase s at (T.Moved record { phase = phase; at = n; left = c; inner = 0 })
  unfolding CountedAdvance
  counted-into c n q d m h =
      let (i, j) = integer-same s at x p c n d m q h in
      ap₂ (λ (n c : ℕ). T.Moved record { phase = phase; at = n; left = c; inner = 0 }) j i

-- ---- what is due, and what is ahead of a cursor there

module _ (s : List ℕ) (most : ℕ) (later : Plan) (c : Cursor) (es : List EntryAt) (p : Plan) (x : Due) (h : x ≡ due_of p) where
  in-nothing : x ≡ D.Nothing → AheadIn s most p later c es → PlanAhead s most later c.at es
  in-nothing q = if-nothing x (λ (p : Plan). AheadIn s most p later c es → PlanAhead s most later c.at es) p h q (λ a. a)

  in_field : (f : FieldName) → x ≡ D.Field f → AheadIn s most p later c es → PlanAhead s most later c.at es
  in_field f q = if-field x (λ (p : Plan). AheadIn s most p later c es → PlanAhead s most later c.at es) p h f q (λ p a. a)

  in_end : x ≡ D.Finish → AheadIn s most p later c es → Credentials s c.left c.at es
  in_end q = if-end x (λ (p : Plan). AheadIn s most p later c es → Credentials s c.left c.at es) p h q (λ a. a)

  of_end : x ≡ D.Finish → Credentials s c.left c.at es → AheadIn s most p later c es
  of_end q = if-end x (λ (p : Plan). Credentials s c.left c.at es → AheadIn s most p later c es) p h q (λ a. a)

  in_list : (l : ListName) (n : ℕ) → x ≡ D.List l n → AheadIn s most p later c es → StateAhead s most l c.inner c.left later c.at es
  in_list l n q =
      if-list x (λ (p : Plan). AheadIn s most p later c es → StateAhead s most l c.inner c.left later c.at es) p h l n q (λ p a. a)

  of-list : (l : ListName) (n : ℕ) → x ≡ D.List l n → StateAhead s most l c.inner c.left later c.at es → AheadIn s most p later c es
  of-list l n q =
      if-list x (λ (p : Plan). StateAhead s most l c.inner c.left later c.at es → AheadIn s most p later c es) p h l n q (λ p a. a)

-- no output of an initial state is left
module _ (s : List ℕ) (most : ℕ) (l : ListName) (c : ℕ) (later : Plan) (at : ℕ) (es : List EntryAt) where
  outside : ListAhead s most l c later at es → StateAhead s most l 0 c later at es
  outside h = (secp_fx, rest-none (not_below (output (fx_outputs secp_fx))) state_output_entry (ListAhead s most l c later) s at es h)

  inside-none : (i : ℕ) → i ≤ 0 → StateAhead s most l i c later at es → ListAhead s most l c later at es
  inside-none i z (fx, r) = rest-done (not_below (output (fx_outputs fx))) state_output_entry (ListAhead s most l c later) s i at es z r

-- ---- into the next segment

ahead-live : (s : List ℕ) (most : ℕ) (p : Plan) (at : ℕ) (es : List EntryAt) → PlanAhead s most p at es → Live p
ahead-live s most shut at es h = h
ahead-live s most end at es h = tt
ahead-live s most (field f p) at es h = tt
ahead-live s most (many l least p) at es h = tt

module _ (type_id : ℕ) (s : List ℕ) (c : Cursor) where
  pub later-over : last_phase < c.phase → LaterAdvance type_id s c T.Done
  unfolding LaterAdvance
  later-over z most es h =
      absurd (omega (arith, live-phase type_id (c.phase + 1) (ahead-live s most (due (c.phase + 1) (plan_of type_id)) c.at es h)))

  module _ (x : Due) (p : x ≡ due_of (due (c.phase + 1) (plan_of type_id))) where
    pub later-nothing : (r : Advance) → x ≡ D.Nothing → LaterAdvance type_id s c r
    unfolding LaterAdvance
    later-nothing r q most es h =
        absurd (if-nothing x (λ (p : Plan). PlanAhead s most p c.at es → ⊥) (due (c.phase + 1) (plan_of type_id)) p q (λ a. a) h)

    module _ (r : Advance) (h : CountedAdvance (c.phase + 1) s c.at r) where
      abbrev into : ℕ → ℕ → Cursor
      into n k = record { phase = c.phase + 1; at = n; left = k; inner = 0 }

      later-end : x ≡ D.Finish → LaterAdvance type_id s c r
      unfolding LaterAdvance CountedAdvance
      later-end q most es a =
          let q' = due (c.phase + 1) (plan_of type_id) in
          let b = if-end x (λ (p : Plan). PlanAhead s most p c.at es → Followed s (integer 4) c.at (λ k n. Credentials s k n es)) q' p q (λ a. a) a in
          subst (Advances s most type_id es) (sym (h b.value b.next b.stands))
          (of_end s most (due (c.phase + 1 + 1) (plan_of type_id)) (into b.next b.value) es q' x p q b.after)

      later-list : (l : ListName) (n : ℕ) → x ≡ D.List l n → LaterAdvance type_id s c r
      unfolding LaterAdvance CountedAdvance
      later-list l n q most es a =
          let q' = due (c.phase + 1) (plan_of type_id) in
          let L = due (c.phase + 1 + 1) (plan_of type_id) in
          let b =
          if-list x (λ (p : Plan). L ≡ tail p → PlanAhead s most p c.at es → Followed s (integer 4) c.at (λ k n. ListAhead s most l k L n es)) q' p l n q
          (λ p i a. subst (λ (p : Plan). Followed s (integer 4) c.at (λ k n. ListAhead s most l k p n es)) (sym i) a)
          (live-next type_id (c.phase + 1) (ahead-live s most q' c.at es a)) a in
          subst (Advances s most type_id es) (sym (h b.value b.next b.stands))
          (of-list s most L (into b.next b.value) es q' x p l n q (outside s most l b.value L b.next es b.after))

      pub later-counted : (x ≡ D.Finish) ⊎ ((l : ListName) × (n : ℕ) × (x ≡ D.List l n)) → LaterAdvance type_id s c r
      later-counted (inl q) = later-end q
      later-counted (inr (l, n, q)) = later-list l n q

    pub later-field : (f : FieldName) → x ≡ D.Field f → (n : ℕ) → FieldPast f s c.at n
        → LaterAdvance type_id s c (T.Moved record { phase = c.phase + 1; at = n; left = 0; inner = 0 })
    unfolding LaterAdvance
    later-field f q n t most es a =
        let q' = due (c.phase + 1) (plan_of type_id) in
        let L = due (c.phase + 1 + 1) (plan_of type_id) in
        let d : Cursor = record { phase = c.phase + 1; at = n; left = 0; inner = 0 } in
        if-field x (λ (p : Plan). L ≡ tail p → PlanAhead s most p c.at es → AheadIn s most p L d es) q' p f q
        (λ p j a. subst₂ (λ (p : Plan) (m : ℕ). PlanAhead s most p m es) (sym j) (sym (t most a.value a.next a.stands)) a.after)
        (live-next type_id (c.phase + 1) (ahead-live s most q' c.at es a)) a

pub ruleset leading = (later-over, later-nothing, later-counted, later-field)

-- ---- an element of a list

-- an initial state that was read: its FxID, its count, and its outputs
fx-number : (s : List ℕ) (b : Slice s) (at : ℕ) (k : Fx) (i : ℕ) → read fx_id s at ≡ took k i → read (integer 4) s at ≡ took (fx_code k) i
unfolding fx_id tag
fx-number s b at k i h =
    let (g, st) = fx_id.sound s at k i (slice-bytes s b) h in
    read-complete (integer 4) s at (fx_code k) (drop i s) g.0 st.there ∙ ap (took (fx_code k)) (sym st.ends)

pub record State (s : List ℕ) (at : ℕ) (v : InitialState) (m : ℕ) : Type 0 where
  pub count_at : ℕ
  pub count : ℕ
  pub first : ℕ
  pub id : read (integer 4) s at ≡ took (fx_code v.fx) count_at
  pub counts : read (integer 4) s count_at ≡ took count first
  pub place : first ≡ at + 8
  pub stands : read (series_from (not_below (output (fx_outputs v.fx))) [] count) s first ≡ took v.outputs m

pub state-of : (s : List ℕ) (b : Slice s) (prev : List ℕ) (at : ℕ) (v : InitialState) (m : ℕ) → read (initial_state prev) s at ≡ took v m → State s at v m
unfolding initial_state_after guard state_outputs
state-of s b prev at v m h =
    let (k, i, ek, e₁) = parse-inv fx_id s at _ v m h in
    let (_, e₂) = pick_inv (below (take 4 prev) (fx_id.write k)) (by out_of_order at) _ v m e₁ in
    let (c, f, ec, e₃) = parse-inv (integer 4) s i _ v m e₂ in
    let (l, j, el, e₄) = parse-inv (series_from (not_below (output (fx_outputs k))) [] c) s f _ v m e₃ in
    let same : record { fx = k; outputs = l } ≡ v = cc in
    let there : j ≡ m = cc in
    let id : read (integer 4) s at ≡ took (fx_code k) i = fx-number s b at k i ek in
    subst (λ (v : InitialState). State s at v m) same
    record {
      count_at = i;
      count = c;
      first = f;
      id = id;
      counts = ec;
      place = omega (arith, integer-next s b i c f ec, integer-next s b at (fx_code k) i id);
      stands = el ∙ ap (took l) there;
    }

-- every element but an initial state is one entry
record Single (l : ListName) (at m : ℕ) (v : (elements_of l).Element) : Type 0 where
  entry : EntryAt
  all : (elements_of l).entries at m v ≡ entry ∷ []
  row : record { kind = entry_of l; start = at; end = m } ≡ located entry

single : (l : ListName) → (entry_of l ≡ 6 → ⊥) → (at m : ℕ) (v : (elements_of l).Element) → Single l at m v
single L.Output z at m v = record { entry = _; all = refl; row = refl }
single L.Input z at m v = record { entry = _; all = refl; row = refl }
single L.State z at m v = absurd (z refl)
single L.Operation z at m v = record { entry = _; all = refl; row = refl }
single L.Imported z at m v = record { entry = _; all = refl; row = refl }
single L.Exported z at m v = record { entry = _; all = refl; row = refl }

state-name : (l : ListName) → entry_of l ≡ 6 → l ≡ L.State
state-name L.Output z = absurd (omega arith)
state-name L.Input z = absurd (omega arith)
state-name L.State z = refl
state-name L.Operation z = absurd (omega arith)
state-name L.Imported z = absurd (omega arith)
state-name L.Exported z = absurd (omega arith)

pub element-state : (l : ListName) (s : List ℕ) (c : Cursor) (r : Advance) (k : ℕ) → k ≡ entry_of l → k ≡ 6 → ElementAdvance L.State s c r
    → ElementAdvance l s c r
element-state l s c r k i z h = subst (λ (l : ListName). ElementAdvance l s c r) (sym (state-name l (sym i ∙ z))) h

module _ (s : List ℕ) (c : Cursor) (b : Slice s) (more : 0 < c.left) where
  -- the current element
  abbrev Hand : ListName → ℕ → Plan → List EntryAt → Type 0
  Hand l most p es = One (elements_of l).element (elements_of l).entries (PlanAhead s most p) s (c.left - 1) c.at es

  hand : (l : ListName) (most : ℕ) (p : Plan) (es : List EntryAt) → ListAhead s most l c.left p c.at es → Hand l most p es
  hand l most p es = one_of (elements_of l).element (elements_of l).entries (PlanAhead s most p) s b c.left c.at es more

  -- what is ahead of a cursor in a list of that name, after the element
  module _ (type_id least most : ℕ) (l : ListName) (q : due_of (due c.phase (plan_of type_id)) ≡ D.List l least) (n i : ℕ) (es : List EntryAt) where
    after-it : StateAhead s most l i (c.left - 1) (due (c.phase + 1) (plan_of type_id)) n es
        → Ahead s most type_id record { phase = c.phase; at = n; left = c.left - 1; inner = i } es
    after-it =
        of-list s most (due (c.phase + 1) (plan_of type_id)) record { phase = c.phase; at = n; left = c.left - 1; inner = i } es
        (due c.phase (plan_of type_id)) (due_of (due c.phase (plan_of type_id))) refl l least q

  module _ (l : ListName) (y : Result (ℕ × ℕ) Refusal) (t : ElementTells l s c.at y) where
    pub element-refused : (e : Refusal) (r : Advance) → y ≡ Err e → ElementAdvance l s c r
    unfolding ElementAdvance
    element-refused e r i type_id least most es q a =
        let o = hand l most (due (c.phase + 1) (plan_of type_id)) es a in
        absurd (value-never y e _ _ i (t o.prev o.value o.next o.stands))

    pub element-found : (g n k : ℕ) → y ≡ Ok (g, n) → k ≡ entry_of l → (k ≡ 6 → ⊥)
        → ElementAdvance l s c (T.Found record { kind = k; start = c.at; end = n } record { phase = c.phase; at = n; left = c.left - 1; inner = 0 })
    unfolding ElementAdvance
    element-found g n k i j z type_id least most es q a =
        let p = due (c.phase + 1) (plan_of type_id) in
        let o = hand l most p es a in
        let same : o.next ≡ n = value_same y _ _ g n (t o.prev o.value o.next o.stands) i in
        let e = single l (λ w. z (j ∙ w)) c.at o.next o.value in
        record {
          entry = e.entry;
          others = o.others;
          all = o.entries ∙ ap (λ (x : List EntryAt). x ++ o.others) e.all;
          row = ap₂ (λ (k n : ℕ). record { kind = k; start = c.at; end = n }) j (sym same) ∙ e.row;
          ahead = after-it type_id least most l q n 0 o.others
              (outside s most l (c.left - 1) p n o.others (subst (λ (m : ℕ). ListAhead s most l (c.left - 1) p m o.others) same o.after));
        }

  module _ (x : Result (ℕ × ℕ) Refusal) (p : x ≡ valued (integer 4) s c.at) where
    pub state-short : (e : Refusal) (r : Advance) → x ≡ Err e → ElementAdvance L.State s c r
    unfolding ElementAdvance
    state-short e r i type_id least most es q a =
        let o = hand L.State most (due (c.phase + 1) (plan_of type_id)) es a in
        let st = state-of s b o.prev c.at o.value o.next o.stands in
        absurd (integer-never s c.at x p e _ _ i st.id)

    module _ (v m : ℕ) (i : x ≡ Ok (v, m)) (y : Result (ℕ × ℕ) Refusal) (t : y ≡ valued (integer 4) s m) where
      pub state-short-count : (e : Refusal) (r : Advance) → y ≡ Err e → ElementAdvance L.State s c r
      unfolding ElementAdvance
      state-short-count e r j type_id least most es q a =
          let o = hand L.State most (due (c.phase + 1) (plan_of type_id)) es a in
          let st = state-of s b o.prev c.at o.value o.next o.stands in
          let (_, same) = integer-same s c.at x p v m _ _ i st.id in
          absurd (integer-never s m y t e _ _ j (subst (λ (m : ℕ). read (integer 4) s m ≡ took st.count st.first) (sym same) st.counts))

      pub state-into : (k n : ℕ) → y ≡ Ok (k, n) → ElementAdvance L.State s c (T.Moved record { phase = c.phase; at = n; left = c.left - 1; inner = k })
      unfolding ElementAdvance
      state-into k n j type_id least most es q a =
          let p' = due (c.phase + 1) (plan_of type_id) in
          let o = hand L.State most p' es a in
          let st = state-of s b o.prev c.at o.value o.next o.stands in
          let (_, same) = integer-same s c.at x p v m _ _ i st.id in
          let (count, first) = integer-same s m y t k n _ _ j
          (subst (λ (m : ℕ). read (integer 4) s m ≡ took st.count st.first) (sym same) st.counts) in
          let fx = o.value.fx in
          after-it type_id least most L.State q n k es
          (subst₂ (λ (k n : ℕ). StateAhead s most L.State k (c.left - 1) p' n es) (sym count) (sym first) (
            fx,
            record {
              prev = [];
              values = o.value.outputs;
              next = o.next;
              later = o.others;
              stands = st.stands;
              after = o.after;
              entries =
                  o.entries
                  ∙ ap (λ (j : ℕ). entries_from (not_below (output (fx_outputs fx))) state_output_entry [] j o.value.outputs ++ o.others) (sym st.place);
            },
          ))

pub ruleset entering = (element-state, element-refused, element-found, state-short, state-short-count, state-into)

-- ---- an output of an initial state

module _ (s : List ℕ) (c : Cursor) (b : Slice s) (more : 0 < c.inner) (y : Result ℕ Refusal) (t : (fx : Fx) → Passes (output (fx_outputs fx)) s c.at y) where
  passed : (fx : Fx) (prev : List ℕ) (v : Output) (m : ℕ) → read (not_below (output (fx_outputs fx)) prev) s c.at ≡ took v m → y ≡ Ok m
  unfolding guard
  passed fx prev v m h =
      let (a, k, ea, e₁) = parse-inv (output (fx_outputs fx)) s c.at _ v m h in
      let (_, e₂) = pick_inv (not (below ((output (fx_outputs fx)).write a) prev)) (by out_of_order c.at) (took a k) v m e₁ in
      t fx v m (ea ∙ e₂)

  abbrev Output-hand : Fx → (ℕ → List EntryAt → Type 0) → List EntryAt → Type 0
  Output-hand fx Later es = One (not_below (output (fx_outputs fx))) state_output_entry Later s (c.inner - 1) c.at es

  output-hand : (fx : Fx) (Later : ℕ → List EntryAt → Type 0) (es : List EntryAt)
      → Rest s (not_below (output (fx_outputs fx))) state_output_entry Later c.inner c.at es → Output-hand fx Later es
  output-hand fx Later es = one_of (not_below (output (fx_outputs fx))) state_output_entry Later s b c.inner c.at es more

  pub output-refused : (e : Refusal) (r : Advance) → y ≡ Err e → StateOutputAdvance s c r
  unfolding StateOutputAdvance AdvanceAhead
  output-refused e r i type_id least l q most es a =
      let p = due (c.phase + 1) (plan_of type_id) in
      let (fx, h) = in_list s most p c es (due c.phase (plan_of type_id)) (due_of (due c.phase (plan_of type_id))) refl l least q a in
      let o = output-hand fx (ListAhead s most l c.left p) es h in
      absurd (next-never y e _ i (passed fx o.prev o.value o.next o.stands))

  pub output-found : (n : ℕ) → y ≡ Ok n
      → StateOutputAdvance s c (T.Found record { kind = 6; start = c.at; end = n } record { phase = c.phase; at = n; left = c.left; inner = c.inner - 1 })
  unfolding StateOutputAdvance AdvanceAhead
  output-found n i type_id least l q most es a =
      let p = due (c.phase + 1) (plan_of type_id) in
      let (fx, h) = in_list s most p c es (due c.phase (plan_of type_id)) (due_of (due c.phase (plan_of type_id))) refl l least q a in
      let o = output-hand fx (ListAhead s most l c.left p) es h in
      let same : o.next ≡ n = next-same y _ n (passed fx o.prev o.value o.next o.stands) i in
      record {
        entry = _;
        others = o.others;
        all = o.entries;
        row = ap (λ (n : ℕ). record { kind = 6; start = c.at; end = n }) (sym same);
        ahead = of-list s most p record { phase = c.phase; at = n; left = c.left; inner = c.inner - 1 } o.others
            (due c.phase (plan_of type_id)) (due_of (due c.phase (plan_of type_id))) refl l least q (
              fx,
              subst (λ (m : ℕ). Rest s (not_below (output (fx_outputs fx))) state_output_entry (ListAhead s most l c.left p) (c.inner - 1) m o.others) same
                  o.after,
            );
      }

-- ---- a credential

module _ (s : List ℕ) (b : Slice s) where
  blob-next : (at : ℕ) (x : List ℕ) (m : ℕ) → read (blob signature_width) s at ≡ took x m → m ≡ at + signature_width
  unfolding blob
  blob-next at x m ex =
      written_next (blob signature_width) s at x m b ex
      ∙ ap (λ j. at + j) (blob-sized signature_width x ((blob signature_width).sound s at x m (slice-bytes s b) ex).0)

  blob-room : (at : ℕ) (x : List ℕ) (m : ℕ) → read (blob signature_width) s at ≡ took x m → signature_width + (length s - m) ≡ length s - at
  unfolding blob
  blob-room at x m ex =
      let (g, st) = (blob signature_width).sound s at x m (slice-bytes s b) ex in
      omega (arith, g.0, ap length st.there, length-append x (drop m s), length-drop at s, length-drop m s)

  -- n signatures that were read have 65 * n bytes, and the other pieces follow
  signatures-inv : (n : ℕ) (ps : List Piece) (at : ℕ) (l : List (List ℕ)) (e : ℕ) → read (pieces (signatures n ps)) s at ≡ took l e
      → (l' : List (List ℕ)) × (read (pieces ps) s (at + signature_width * n) ≡ took l' e) × (signature_width * n ≤ length s - at)
  unfolding pieces signatures cons «as» and_then
  signatures-inv zero ps at l e h = (l, rw (mul-zero signature_width, add-zero at) h, rw (mul-zero signature_width) (omega arith))
  signatures-inv (suc n) ps at l e h =
      let (x, m, ex, e₁) = parse-inv (blob signature_width) s at _ l e h in
      let (l₁, k, el, e₂) = parse-inv (pieces (signatures n ps)) s m _ l e e₁ in
      let there : k ≡ e = cc in
      let place : m ≡ at + signature_width = blob-next at x m ex in
      let (l', r, q) = signatures-inv n ps m l₁ k el in
      let wide : signature_width * suc n ≡ signature_width + signature_width * n = mul-suc signature_width n ∙ add_comm (signature_width * n) signature_width in
      let same : at + signature_width * suc n ≡ m + signature_width * n = omega arith in
      (l', ap (λ (j : ℕ). read (pieces ps) s j) same ∙ r ∙ ap (took l') there, omega (arith, blob-room at x m ex))

  -- the first of the credentials that were read: type, count, signatures
  pub record Leading (w : Want) (ws : List Want) (at m : ℕ) : Type 0 where
    pub slots : List (List ℕ)
    pub type : read (integer 4) s at ≡ took (credential_code w.type) (at + 4)
    pub count : read (integer 4) s (at + 4) ≡ took w.signatures (at + 8)
    pub room : signature_width * w.signatures ≤ length s - (at + 8)
    pub stands : read (pieces (each ws)) s (at + (8 + w.signatures * signature_width)) ≡ took slots m

  pub leading-of : (w : Want) (ws : List Want) (at : ℕ) (l : List (List ℕ)) (m : ℕ) → read (pieces (each (w ∷ ws))) s at ≡ took l m → Leading w ws at m
  unfolding each pieces constant
  leading-of w ws at l m h =
      let (t, i, et, e₁) = parse-inv (integer 4) s at _ l m h in
      let (g, e₂) = pick_inv (eqb t (credential_code w.type)) (by unknown_type at) _ l m e₁ in
      let (c, f, ec, e₃) = parse-inv (integer 4) s i _ l m e₂ in
      let (j, e₄) = pick_inv (eqb c w.signatures) (by wrong_count i) _ l m e₃ in
      let (l₁, k, el, e₅) = parse-inv (pieces (signatures w.signatures (each ws))) s f _ l m e₄ in
      let n : ℕ = w.signatures in
      let type : t ≡ credential_code w.type = eqb-true t (credential_code w.type) g in
      let count : c ≡ n = eqb-true c n j in
      let second : i ≡ at + 4 = integer-next s b at t i et in
      let third : f ≡ at + 8 = omega (arith, integer-next s b i c f ec) in
      let there : k ≡ m = cc in
      let (l', r, room) = signatures-inv n (each ws) (at + 8) l₁ k (ap (λ (j : ℕ). read (pieces (signatures n (each ws))) s j) (sym third) ∙ el) in
      let next : at + 8 + signature_width * n ≡ at + (8 + n * signature_width) = omega (arith, mul_comm n signature_width) in
      record {
        slots = l';
        type = et ∙ ap₂ took type second;
        count = ap (λ (j : ℕ). read (integer 4) s j) (sym second) ∙ ec ∙ ap₂ took count third;
        room = room;
        stands = ap (λ (j : ℕ). read (pieces (each ws)) s j) (sym next) ∙ r ∙ ap (took l') there;
      }

  -- that credential is skipped by its length
  leading-ends : (w : Want) (ws : List Want) (at m : ℕ) → Leading w ws at m → ended credential_bytes s at ≡ Ok (at + (8 + w.signatures * signature_width))
  unfolding and_then
  leading-ends w ws at m f =
      let n : ℕ = w.signatures in
      let next : at + 8 + signature_width * n ≡ at + (8 + n * signature_width) = omega (arith, mul_comm n signature_width) in
      W.parse-took (integer 4) s at Err _ (credential_code w.type) (at + 4) f.type
      ∙ W.parse-took (integer 4) s (at + 4) Err _ n (at + 8) f.count
      ∙ sym (W.blob-has (signature_width * n) s (at + 8) (Ok (at + 8 + signature_width * n)) Err _ f.room refl)
      ∙ ap Ok next

module _ (s : List ℕ) (c : Cursor) (b : Slice s) (more : 0 < c.left) (y : Result ℕ Refusal) (t : y ≡ ended credential_bytes s c.at) where
  pub credential-refused : (e : Refusal) (r : Advance) → y ≡ Err e → CredentialAdvance s c r
  unfolding CredentialAdvance AdvanceAhead
  credential-refused e r i type_id q most es a =
      let h = in_end s most (due (c.phase + 1) (plan_of type_id)) c es (due c.phase (plan_of type_id))
      (due_of (due c.phase (plan_of type_id))) refl q a in
      absurd (go h.wants h.slots h.next h.count h.stands)
    where
      go : (ws : List Want) (l : List (List ℕ)) (m : ℕ) → c.left ≡ length ws → read (pieces (each ws)) s c.at ≡ took l m → ⊥
      go [] l m z h = omega arith
      go (w ∷ ws) l m z h = next-never y e _ i (t ∙ leading-ends s b w ws c.at m (leading-of s b w ws c.at l m h))

  pub credential-found : (n : ℕ) → y ≡ Ok n
      → CredentialAdvance s c (T.Found record { kind = 7; start = c.at; end = n } record { phase = c.phase; at = n; left = c.left - 1; inner = 0 })
  unfolding CredentialAdvance AdvanceAhead credential_entries
  credential-found n i type_id q most es a =
      let h = in_end s most (due (c.phase + 1) (plan_of type_id)) c es (due c.phase (plan_of type_id))
      (due_of (due c.phase (plan_of type_id))) refl q a in
      go type_id q most es h.wants h.slots h.next h.count h.stands h.entries
    where
      go : (type_id : ℕ) → due_of (due c.phase (plan_of type_id)) ≡ D.Finish → (most : ℕ) (es : List EntryAt) (ws : List Want) (l : List (List ℕ)) (m : ℕ)
          → c.left ≡ length ws → read (pieces (each ws)) s c.at ≡ took l m → es ≡ credential_entries ws c.at
          → First s most type_id record { kind = 7; start = c.at; end = n } record { phase = c.phase; at = n; left = c.left - 1; inner = 0 } es
      go type_id q most es [] l m z h k = absurd (omega arith)
      go type_id q most es (w ∷ ws) l m z h k =
          let f = leading-of s b w ws c.at l m h in
          let e : ℕ = c.at + (8 + w.signatures * signature_width) in
          let same : n ≡ e = next-same y n e i (t ∙ leading-ends s b w ws c.at m f) in
          record {
            entry = credential_entry w c.at;
            others = credential_entries ws e;
            all = k;
            row = ap (λ (n : ℕ). record { kind = 7; start = c.at; end = n }) same;
            ahead =
                of_end s most (due (c.phase + 1) (plan_of type_id)) record { phase = c.phase; at = n; left = c.left - 1; inner = 0 }
                (credential_entries ws e)
                (due c.phase (plan_of type_id)) (due_of (due c.phase (plan_of type_id))) refl q
                (subst (λ (n : ℕ). Credentials s (c.left - 1) n (credential_entries ws e)) (sym same)
                record { wants = ws; slots = f.slots; next = m; stands = f.stands; count = omega arith; entries = refl });
          }

pub ruleset crediting = (output-refused, output-found, credential-refused, credential-found)

-- ---- one advance

module _ (type_id : ℕ) (s : List ℕ) (c : Cursor) (r : Advance) (x : Due) (p : x ≡ due_of (due c.phase (plan_of type_id))) where
  abbrev at-hand : Plan
  at-hand = due c.phase (plan_of type_id)

  abbrev after-hand : Plan
  after-hand = due (c.phase + 1) (plan_of type_id)

  advance-nothing : x ≡ D.Nothing → LaterAdvance type_id s c r → AdvanceAhead type_id s c r
  unfolding AdvanceAhead LaterAdvance
  advance-nothing q h most es a = h most es (in-nothing s most after-hand c es at-hand x p q a)

  advance-field : (f : FieldName) → x ≡ D.Field f → LaterAdvance type_id s c r → AdvanceAhead type_id s c r
  unfolding AdvanceAhead LaterAdvance
  advance-field f q h most es a = h most es (in_field s most after-hand c es at-hand x p f q a)

  pub advance-none : (x ≡ D.Nothing) ⊎ ((f : FieldName) × (x ≡ D.Field f)) → LaterAdvance type_id s c r → AdvanceAhead type_id s c r
  advance-none (inl q) = advance-nothing q
  advance-none (inr (f, q)) = advance-field f q

  pub advance-credential : x ≡ D.Finish → CredentialAdvance s c r → AdvanceAhead type_id s c r
  unfolding CredentialAdvance
  advance-credential q h = h type_id (sym p ∙ q)

  module _ (l : ListName) (n : ℕ) (q : x ≡ D.List l n) where
    pub advance-output : StateOutputAdvance s c r → AdvanceAhead type_id s c r
    unfolding StateOutputAdvance
    advance-output h = h type_id n l (sym p ∙ q)

    pub advance-element : c.inner ≤ 0 → ElementAdvance l s c r → AdvanceAhead type_id s c r
    unfolding AdvanceAhead ElementAdvance
    advance-element z h most es a =
        h type_id n most es (sym p ∙ q)
        (inside-none s most l c.left after-hand c.at es c.inner z (in_list s most after-hand c es at-hand x p l n q a))

    pub advance-list-later : c.inner ≤ 0 → c.left ≤ 0 → LaterAdvance type_id s c r → AdvanceAhead type_id s c r
    unfolding AdvanceAhead LaterAdvance
    advance-list-later z w h most es a =
        h most es
        (rest-done (elements_of l).element (elements_of l).entries (PlanAhead s most after-hand) s c.left c.at es w
        (inside-none s most l c.left after-hand c.at es c.inner z (in_list s most after-hand c es at-hand x p l n q a)))

pub advance-done : (type_id : ℕ) (s : List ℕ) (c : Cursor) (x : Due) → x ≡ due_of (due c.phase (plan_of type_id)) → x ≡ D.Finish → c.left ≡ 0
    → AdvanceAhead type_id s c T.Done
unfolding AdvanceAhead credential_entries
advance-done type_id s c x p q z most es a =
    let h = in_end s most (due (c.phase + 1) (plan_of type_id)) c es (due c.phase (plan_of type_id)) x p q a in
    none h.wants h.entries h.count
  where
    none : (ws : List Want) → es ≡ credential_entries ws c.at → c.left ≡ length ws → es ≡ []
    none [] i j = i
    none (w ∷ ws) i j = absurd (omega arith)

pub ruleset stepping = (advance-none, advance-credential, advance-output, advance-element, advance-list-later, advance-done)

-- ---- every advance leaves less ahead of the cursor

pub below_more : (m n : ℕ) (r : Advance) → Below m r → m ≤ n → Below n r
below_more m n (T.Found r c) h l = omega arith
below_more m n (T.Moved c) h l = omega arith
below_more m n T.Done h l = tt

module _ (s : List ℕ) (at : ℕ) (b : Slice s) (x : Result (ℕ × ℕ) Refusal) (p : x ≡ valued (integer 4) s at) (k n : ℕ) (q : x ≡ Ok (k, n)) where
  pub counted-entered : (phase : ℕ) → Entered phase (T.Moved record { phase = phase; at = n; left = k; inner = 0 })
  counted-entered phase = omega (arith, W.value-small 4 s at x k n p q b)

  pub state-shorter : (c : Cursor) → 0 < c.left → Shorter c (T.Moved record { phase = c.phase; at = n; left = c.left - 1; inner = k })
  state-shorter c h = omega (arith, W.value-small 4 s at x k n p q b)
