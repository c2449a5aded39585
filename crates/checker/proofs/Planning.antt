-- The loop over a plan: each turn reads the segment that is due, and the rest of the plan gives the same answer as the whole. Assumes nothing.
use Rattle.std.specs.Prelude.{Ok, Err, Some, None, Option, Result}
use Prim.Native.Nat.{ℕ, ◌+◌, ◌-◌, ◌*◌, ◌^◌, ◌≤◌, ◌<◌}
use mathlib.Core.Logic.{◌⊎◌}
use mathlib.Core.Path.{◌≡◌, refl, sym, ap, ◌∙◌}
use mathlib.Core.List.{List, [], ◌∷◌}
use native.Mathlib.Omega.{arith}
use native.Mathlib.Nat.{add-zero}
use lib.ListN.{length, length-append}
use Rattle.wire.specs.declared.Refusal.{Refusal}
use Rattle.wire.specs.Format.{Format, took, read}
use Rattle.wire.proofs.Format.{parse-alike}
use Rattle.wire.specs.Sequence.{guard}
use Rattle.wire.specs.Fields.{integer}
use Rattle.wire.specs.code.Answer.{ended}
use Rattle.wire.proofs.Bytes.{Slice, slice-bytes}
use Rattle.wire.proofs.Reading as W
use Rattle.wire.proofs.Trying.{passed-on}
use Rattle.element.proofs.Reading.{answer-took, on-whole, on-refused}
use Rattle.transaction.specs.Credentials.{CredentialType, Want}
use Rattle.transaction.specs.Plan.{content_of, want_of, field_credential, field_signatures, elements_of, Plan, shut, end, field, many, plan_of}
use Rattle.transaction.specs.Form.{at_least, list_of, form, field_asks, element_asks, asked, wanted}
use Rattle.transaction.specs.code.Answer.{list_at}
use Rattle.transaction.specs.declared.FieldName.{FieldName}
use Rattle.transaction.specs.declared.ListName.{ListName}
use Rattle.transaction.specs.declared.Layout.{Layout}
use Rattle.transaction.proofs.Reading.{on-answered, on-answered-refused}
use Rattle.plan.specs.declared.Due.{Due}
use Rattle.plan.specs.declared.Due.TheVariants as D
use Rattle.plan.specs.Due.{tail, due, due_of}
use Rattle.plan.specs.code.Rows.{last_phase, Live, credential_asked}
use Rattle.plan.proofs.RowLaws.{live-phase, live-next, if-over, if-field, if-list}
use Rattle.credentials.proofs.Asked.{none-wanted, one_wanted, none-asked, each-asked}
use Rattle.checker.specs.code.Segments.{passed_at, plan_at}

some-parts : {a b c d : ℕ} → ◌≡◌ {A = Result (Option (ℕ × ℕ)) Refusal} (Ok (Some (a, b))) (Ok (Some (c, d))) → (a ≡ c) × (b ≡ d)
some-parts {a} {b} {c} {d} e =
    let p : ◌≡◌ {A = ℕ × ℕ} (a, b) (c, d) = cc in
    (ap (λ (q : ℕ × ℕ). q.0) p, ap (λ (q : ℕ × ℕ). q.1) p)

-- ---- how many credentials are asked for: at most one for each value

wanted-few : (c : Option CredentialType) (n : ℕ) → length (want_of c n) ≤ 1
wanted-few None n = omega arith
wanted-few (Some t) n = omega arith

asked-few : {A : Type 0} (c : Option CredentialType) (f : A → ℕ) (v : List A) → length (asked (λ a. want_of c (f a)) v) ≤ length v
unfolding asked
asked-few c f [] = omega arith
asked-few c f (a ∷ v) =
    omega (arith, length-append (want_of c (f a)) (asked (λ a. want_of c (f a)) v), wanted-few c (f a), asked-few c f v)

-- ---- the segment that is due

module _ (most : ℕ) (p : Plan) (s : List ℕ) (at : ℕ) (x : Due) (h : x ≡ due_of p) where
  abbrev Passes : Result (Option (ℕ × ℕ)) Refusal → Plan → Type 0
  Passes z p = z ≡ passed_at most p s at

  pub passed-over : (x ≡ D.Nothing) ⊎ (x ≡ D.Finish) → Ok None ≡ passed_at most p s at
  passed-over q = if-over x (Passes (Ok None)) p h q refl refl

  module _ (f : FieldName) (q : x ≡ D.Field f) (y : Result ℕ Refusal) (w : y ≡ ended (content_of most f) s at) where
    pub passed-field-silent : (n t : ℕ) → y ≡ Ok n → t ≡ credential_asked (field_credential f) → t ≡ 0 → Ok (Some (0, n)) ≡ passed_at most p s at
    passed-field-silent n t i j o =
        if-field x (Passes (Ok (Some (0, n)))) p h f q (λ q. W.ends (content_of most f) (Result (Option (ℕ × ℕ)) Refusal) s at _ Err _ y n w i (λ v.
        ap (λ (ws : List Want). Ok (Some (length ws, n))) (sym (none-wanted (field_credential f) t (field_signatures f v) j o))))

    pub passed-field-asking : (n t : ℕ) → y ≡ Ok n → t ≡ credential_asked (field_credential f) → (t ≡ 0 → ⊥) → Ok (Some (1, n)) ≡ passed_at most p s at
    passed-field-asking n t i j o =
        if-field x (Passes (Ok (Some (1, n)))) p h f q (λ q. W.ends (content_of most f) (Result (Option (ℕ × ℕ)) Refusal) s at _ Err _ y n w i (λ v.
        ap (λ k. Ok (Some (k, n))) (sym (one_wanted (field_credential f) t (field_signatures f v) j o))))

    pub passed-field-refused : (e : Refusal) → y ≡ Err e → (z : Result (Option (ℕ × ℕ)) Refusal) → z ≡ Err e → z ≡ passed_at most p s at
    passed-field-refused e i z j = if-field x (Passes z) p h f q (λ q. W.stops (content_of most f) (Result (Option (ℕ × ℕ)) Refusal) s at z Err _ y e w i j)

  module _ (l : ListName) (least : ℕ) (q : x ≡ D.List l least) (y : Result (ℕ × ℕ) Refusal) (w : y ≡ list_at l least s at) where
    counting : (c n : ℕ) (z : Result (Option (ℕ × ℕ)) Refusal) → y ≡ Ok (c, n)
        → ((v : List (elements_of l).Element) → c ≡ length v → z ≡ Ok (Some (length (asked (element_asks l) v), n))) → z ≡ passed_at most p s at
    counting c n z i j = if-list x (Passes z) p h l least q (λ q. on-answered (list_of l least) length s at z Err _ y w c n i (λ v e t. j v e))

    pub passed-silent : (c n t : ℕ) → y ≡ Ok (c, n) → t ≡ credential_asked (elements_of l).credential → t ≡ 0 → Ok (Some (0, n)) ≡ passed_at most p s at
    passed-silent c n t i j o =
        counting c n (Ok (Some (0, n))) i
        (λ v e. ap (λ (ws : List Want). Ok (Some (length ws, n))) (sym (none-asked (elements_of l).credential (elements_of l).signatures t j o v)))

    pub passed-asking : (c n t : ℕ) → y ≡ Ok (c, n) → t ≡ credential_asked (elements_of l).credential → (t ≡ 0 → ⊥)
        → Ok (Some (c, n)) ≡ passed_at most p s at
    passed-asking c n t i j o =
        counting c n (Ok (Some (c, n))) i (λ v e. ap (λ k. Ok (Some (k, n))) (e
        ∙ sym (each-asked (elements_of l).credential (elements_of l).signatures t j o v)))

    pub passed-list-refused : (e : Refusal) → y ≡ Err e → (z : Result (Option (ℕ × ℕ)) Refusal) → z ≡ Err e → z ≡ passed_at most p s at
    passed-list-refused e i z j =
        if-list x (Passes z) p h l least q (λ q. on-answered-refused (list_of l least) length s at z Err _ y w e i j)

pub ruleset passing =
    (passed-over, passed-field-silent, passed-field-asking, passed-field-refused, passed-silent, passed-asking, passed-list-refused, passed-on)

-- ---- the loop

-- a segment F, each value of which asks for credentials, and what comes after it
module _ {A : Type 0} (F : Format A) (asks : A → List Want) (s : List ℕ) (at : ℕ) (x : Result (Option (ℕ × ℕ)) Refusal)
    (h : x ≡ F.parse s at Err (λ v n. Ok (Some (length (asks v), n)))) where
  abbrev past : A → ℕ → Result (Option (ℕ × ℕ)) Refusal
  past v n = Ok (Some (length (asks v), n))

  never-end : {R : Type 0} (z : R) (stop : Refusal → R) (go : A → ℕ → R) → x ≡ Ok None → z ≡ F.parse s at stop go
  never-end z stop go q =
      on-whole F Err past s at z stop go x h (Ok None) at q (λ d i. cc) (λ v m i. let z : ◌≡◌ {A = ℕ} 0 1 = cc in absurd (omega arith))
      (λ v i t. let z : ◌≡◌ {A = ℕ} 0 1 = cc in absurd (omega arith))

  on-stop : {R : Type 0} (stop : Refusal → R) (go : A → ℕ → R) (e : Refusal) → x ≡ Err e → stop e ≡ F.parse s at stop go
  on-stop stop go e q = on-refused F Err past s at _ stop go x h e q (λ v m i. cc) (λ d i. cc) refl

  on-past : {R : Type 0} (z : R) (stop : Refusal → R) (go : A → ℕ → R) (c n : ℕ) → x ≡ Ok (Some (c, n))
      → ((v : A) → c ≡ length (asks v) → read F s at ≡ took v n → z ≡ go v n) → z ≡ F.parse s at stop go
  on-past z stop go c n q e =
      on-whole F Err past s at z stop go x h (Ok (Some (c, n))) n q (λ d i. cc) (λ v m i. (some-parts i).1) (λ v i t. e v (sym (some-parts i).0) t)

abbrev layout_of : ℕ → ℕ → ℕ → ℕ → Layout
layout_of type_id inputs w at = record { type_id = type_id; inputs_at = inputs; credentials_count = w; credentials_at = at }

module _ (most type_id inputs w : ℕ) (s : List ℕ) (at : ℕ) (x : Result (Option (ℕ × ℕ)) Refusal) where
  pub plan-end : (p : Plan) → x ≡ passed_at most p s at → x ≡ Ok None → Ok (layout_of type_id inputs w at) ≡ plan_at most type_id inputs w p s at
  unfolding form wanted
  plan-end shut h q = rw add-zero
  plan-end end h q = rw add-zero
  plan-end (field f p) h q = never-end (content_of most f) (field_asks f) s at x h _ Err _ q
  plan-end (many l least p) h q = never-end (list_of l least) (asked (element_asks l)) s at x h _ Err _ q

  pub plan-refused : (p : Plan) (e : Refusal) → x ≡ passed_at most p s at → x ≡ Err e → Err e ≡ plan_at most type_id inputs w p s at
  unfolding form wanted
  plan-refused shut e h q = let z : ◌≡◌ {A = ℕ} 0 1 = cc in absurd (omega arith)
  plan-refused end e h q = let z : ◌≡◌ {A = ℕ} 0 1 = cc in absurd (omega arith)
  plan-refused (field f p) e h q = on-stop (content_of most f) (field_asks f) s at x h Err _ e q
  plan-refused (many l least p) e h q = on-stop (list_of l least) (asked (element_asks l)) s at x h Err _ e q

  pub plan-past : (p : Plan) (c n : ℕ) → x ≡ passed_at most p s at → x ≡ Ok (Some (c, n))
      → plan_at most type_id inputs (w + c) (tail p) s n ≡ plan_at most type_id inputs w p s at
  unfolding form wanted
  plan-past shut c n h q = let z : ◌≡◌ {A = ℕ} 0 1 = cc in absurd (omega arith)
  plan-past end c n h q = let z : ◌≡◌ {A = ℕ} 0 1 = cc in absurd (omega arith)
  plan-past (field f p) c n h q =
      on-past (content_of most f) (field_asks f) s at x h _ Err _ c n q (λ v e t.
      parse-alike (form most p) s n Err _ _
      (λ u m. ap (λ k. Ok (layout_of type_id inputs k m)) (omega (arith, length-append (field_asks f v) (wanted p u)))))
  plan-past (many l least p) c n h q =
      on-past (list_of l least) (asked (element_asks l)) s at x h _ Err _ c n q (λ v e t.
      parse-alike (form most p) s n Err _ _
      (λ u m. ap (λ k. Ok (layout_of type_id inputs k m)) (omega (arith, length-append (asked (element_asks l) v) (wanted p u)))))

-- if something was skipped, something was due, in a phase up to the last
past-live : (most : ℕ) (s : List ℕ) (at : ℕ) (x : Result (Option (ℕ × ℕ)) Refusal) (c n : ℕ) → x ≡ Ok (Some (c, n)) → (p : Plan) → x ≡ passed_at most p s at
    → Live p
past-live most s at x c n q shut h = let z : ◌≡◌ {A = ℕ} 0 1 = cc in absurd (omega arith)
past-live most s at x c n q end h = tt
past-live most s at x c n q (field f p) h = tt
past-live most s at x c n q (many l least p) h = tt

sized : {A : Type 0} (least : ℕ) (E : List ℕ → Format A) (v : List A) → (at_least least E).Good v → length v < 2 ^ 32
unfolding at_least guard integer
sized least E v g = omega (arith, g.0.0)

few : (most : ℕ) (s : List ℕ) (at : ℕ) (x : Result (Option (ℕ × ℕ)) Refusal) (c n : ℕ) → Slice s → x ≡ Ok (Some (c, n)) → (p : Plan)
    → x ≡ passed_at most p s at → c < 2 ^ 32
few most s at x c n b q shut h = let z : ◌≡◌ {A = ℕ} 0 1 = cc in absurd (omega arith)
few most s at x c n b q end h = let z : ◌≡◌ {A = ℕ} 0 1 = cc in absurd (omega arith)
few most s at x c n b q (field f p) h =
    let (v, m, t, i) = answer-took (content_of most f) s at Err (λ v n. Ok (Some (length (field_asks f v), n))) x h (Ok (Some (c, n))) q
    (λ e i. let z : ◌≡◌ {A = ℕ} 0 1 = cc in omega arith) in
    let e : length (field_asks f v) ≡ c = (some-parts i).0 in
    omega (arith, wanted-few (field_credential f) (field_signatures f v))
few most s at x c n b q (many l least p) h =
    let (v, m, t, i) = answer-took (list_of l least) s at Err (λ v n. Ok (Some (length (asked (element_asks l) v), n))) x h (Ok (Some (c, n))) q
    (λ e i. let z : ◌≡◌ {A = ℕ} 0 1 = cc in omega arith) in
    let e : length (asked (element_asks l) v) ≡ c = (some-parts i).0 in
    omega (
      arith,
      asked-few (elements_of l).credential (elements_of l).signatures v,
      sized least (elements_of l).element v ((list_of l least).sound s at v m (slice-bytes s b) t).0,
    )

module _ (most type_id phase : ℕ) (s : List ℕ) (at : ℕ) (x : Result (Option (ℕ × ℕ)) Refusal) (c n : ℕ)
    (h : x ≡ passed_at most (due phase (plan_of type_id)) s at)
    (o : Option (ℕ × ℕ)) (r : x ≡ Ok o) (j : o ≡ Some (c, n)) where
  q : x ≡ Ok (Some (c, n))
  q = r ∙ ap Ok j

  live : Live (due phase (plan_of type_id))
  live = past-live most s at x c n q (due phase (plan_of type_id)) h

  pub past_fits : phase + 1 < 2 ^ 32
  past_fits = omega (arith, live-phase type_id phase live)

  pub past-less : last_phase + 1 - (phase + 1) < last_phase + 1 - phase
  past-less = omega (arith, live-phase type_id phase live)

  -- the segments of each phase up to this one want fewer than 2 ^ 32 credentials
  module _ (w : ℕ) (before : w ≤ phase * 4294967296) (b : Slice s) where
    pub past-count : w + c < 2 ^ 64
    past-count = omega (arith, live-phase type_id phase live, few most s at x c n b q (due phase (plan_of type_id)) h)

    pub past-few : w + c ≤ (phase + 1) * 4294967296
    past-few = omega (arith, few most s at x c n b q (due phase (plan_of type_id)) h)

  past_next : due (phase + 1) (plan_of type_id) ≡ tail (due phase (plan_of type_id))
  past_next = live-next type_id phase live

-- parsing what is left of the plan gives y
module _ (most type_id inputs phase w : ℕ) (s : List ℕ) (at : ℕ) (x : Result (Option (ℕ × ℕ)) Refusal) (y : Result Layout Refusal)
    (i : plan_at most type_id inputs w (due phase (plan_of type_id)) s at ≡ y) (h : x ≡ passed_at most (due phase (plan_of type_id)) s at) where
  pub turn_end : (o : Option (ℕ × ℕ)) → x ≡ Ok o → o ≡ None → Ok (layout_of type_id inputs w at) ≡ y
  turn_end o q j = plan-end most type_id inputs w s at x (due phase (plan_of type_id)) h (q ∙ ap Ok j) ∙ i

  pub turn-refused : (e : Refusal) → x ≡ Err e → (z : Result Layout Refusal) → z ≡ Err e → z ≡ y
  turn-refused e q z j = j ∙ plan-refused most type_id inputs w s at x (due phase (plan_of type_id)) e h q ∙ i

  pub turn-past : (c n : ℕ) (o : Option (ℕ × ℕ)) → x ≡ Ok o → o ≡ Some (c, n)
      → plan_at most type_id inputs (w + c) (due (phase + 1) (plan_of type_id)) s n ≡ y
  turn-past c n o q j =
      rw (past_next most type_id phase s at x c n h o q j)
      (plan-past most type_id inputs w s at x (due phase (plan_of type_id)) c n h (q ∙ ap Ok j) ∙ i)

pub ruleset turns = (past_fits, past-less, past-count, past-few, turn_end, turn-refused, turn-past, passed-on)
