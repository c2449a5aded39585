-- The entries ahead of the first cursor are those of the transaction that was read. Assumes nothing.
use Prim.Native.Nat.{ℕ, ◌+◌}
use mathlib.Core.Path.{◌≡◌, sym, ap, ap₂, ◌∙◌, subst, subst₂}
use mathlib.Core.List.{List, [], ◌++◌, append_assoc}
use native.Mathlib.Omega.{arith}
use lib.ListN.{length, length-append}
use lib.Dec.{eqb, leb}
use borrow.Author.Tests.{eqb-true}
use Rattle.wire.specs.Bytes.{pick}
use Rattle.wire.specs.Numbers.{by, empty_list, refusal, too_long, bytes_after_end, wrong_count}
use Rattle.wire.specs.Format.{Format, took, refused, read}
use Rattle.wire.specs.laws.Format.{parse-inv, pick_inv}
use Rattle.wire.specs.Fields.{integer, constant, blob}
use Rattle.wire.specs.laws.Sizes.{length-integer}
use Rattle.wire.specs.Sequence.{and_then, tag}
use Rattle.wire.specs.Series.{series_from}
use Rattle.wire.proofs.Bytes.{Slice, slice-bytes}
use Rattle.transaction.specs.Signed as AnySigned
use Rattle.transaction.specs.Credentials.{Want, layout, pieces, credentials}
use Rattle.transaction.specs.Entries.{EntryAt, entries_from, credential_entries}
use Rattle.transaction.specs.Plan.{content_of, elements_of, Plan, shut, end, field, many, own_plan, plan, plan_of, type_id, type_of-id}
use Rattle.transaction.specs.Form.{at_least, list_of, Value, form, plan_entries}
use Rattle.transaction.specs.Avm.{avm}
use Rattle.transaction.specs.Family.{Head, head, Unsigned, unsigned, wants, Signed, check, entries}
use Rattle.transaction.specs.declared.TransactionType.{TransactionType}
use Rattle.transaction.specs.declared.TransactionType.TheVariants as K
use Rattle.transaction.proofs.Reading.{written_next}
use Rattle.entry_walk.specs.code.Walk.{start, PlanAhead, Ahead}
use Rattle.entry_walk.proofs.Advancing.{integer-next}

-- the head has 42 bytes, so the outputs' count starts at 42
head-long : (most : ℕ) (h : Head TransactionType) → (head (avm most)).Good h → length ((head (avm most)).write h) ≡ 42
unfolding head constant tag blob
head-long most h g =
    omega (
      arith,
      g.1.1.1.0,
      length-append ((integer 2).write 0) ((integer 4).write (type_id h.type) ++ ((integer 4).write h.network ++ h.chain)),
      length-append ((integer 4).write (type_id h.type)) ((integer 4).write h.network ++ h.chain),
      length-append ((integer 4).write h.network) h.chain,
      length-integer 2 0,
      length-integer 4 (type_id h.type),
      length-integer 4 h.network,
    )

-- a list that was read: its count, and its elements after it
counted-inv : {A : Type 0} (least : ℕ) (E : List ℕ → Format A) (s : List ℕ) (at : ℕ) (v : List A) (m : ℕ) → read (at_least least E) s at ≡ took v m
    → (c f : ℕ) × (read (integer 4) s at ≡ took c f) × (read (series_from E [] c) s f ≡ took v m)
unfolding at_least
counted-inv least E s at v m e =
    let (c, f, ec, e₁) = parse-inv (integer 4) s at
    (λ c f. pick (leb least c) ((series_from E [] c).parse s f refused took) (refused (by empty_list at))) v m e in
    let (_, e₂) = pick_inv (leb least c) (by empty_list at) ((series_from E [] c).parse s f refused took) v m e₁ in
    (c, f, ec, e₂)

-- a plan that is followed by the credentials
abbrev Ends : Plan → Type 0
Ends shut = ⊥
Ends end = Unit {0}
Ends (field f p) = Ends p
Ends (many l least p) = Ends p

own-ends : (k : TransactionType) → Ends (own_plan k)
own-ends K.Base = tt
own-ends K.CreateAsset = tt
own-ends K.Operation = tt
own-ends K.Import = tt
own-ends K.Export = tt

module _ (s : List ℕ) (b : Slice s) (most : ℕ) where
  plan-ahead : (p : Plan) → Ends p → (at : ℕ) (v : Value p) (n : ℕ) → read (form most p) s at ≡ took v n → (later : List EntryAt)
      → PlanAhead s most end n later → PlanAhead s most p at (plan_entries most p v at ++ later)
  unfolding form plan_entries and_then
  plan-ahead shut d at v n e later h = d
  plan-ahead end d at v n e later h = let i : at ≡ n = cc in subst (λ (j : ℕ). PlanAhead s most end j later) (sym i) h
  plan-ahead (field f p) d at v n e later h =
      let (x, m, ex, e₁) = parse-inv (content_of most f) s at _ v n e in
      let (w, k, ew, e₂) = parse-inv (form most p) s m _ v n e₁ in
      let same : (x, w) ≡ v = cc in
      let there : k ≡ n = cc in
      let place : m ≡ at + length ((content_of most f).write x) = written_next (content_of most f) s at x m b ex in
      subst (λ (v : Value (field f p)). PlanAhead s most (field f p) at (plan_entries most (field f p) v at ++ later)) same
      record {
        value = x;
        next = m;
        stands = ex;
        after = subst (λ (j : ℕ). PlanAhead s most p m (plan_entries most p w j ++ later)) place
            (plan-ahead p d m w n (ew ∙ ap (took w) there) later h);
      }
  plan-ahead (many l least p) d at v n e later h =
      let (x, m, ex, e₁) = parse-inv (list_of l least) s at _ v n e in
      let (w, k, ew, e₂) = parse-inv (form most p) s m _ v n e₁ in
      let same : (x, w) ≡ v = cc in
      let there : k ≡ n = cc in
      let place : m ≡ at + length ((list_of l least).write x) = written_next (list_of l least) s at x m b ex in
      let (c, f, ec, el) = counted-inv least (elements_of l).element s at x m ex in
      let ys : List EntryAt = plan_entries most p w m in
      subst (λ (v : Value (many l least p)). PlanAhead s most (many l least p) at (plan_entries most (many l least p) v at ++ later)) same
      record {
        value = c;
        next = f;
        stands = ec;
        after =
            record {
              prev = [];
              values = x;
              next = m;
              later = ys ++ later;
              stands = el;
              after = plan-ahead p d m w n (ew ∙ ap (took w) there) later h;
              entries =
                  ap₂ (λ (i j : ℕ). (entries_from (elements_of l).element (elements_of l).entries [] i x ++ plan_entries most p w j) ++ later)
                  (sym (integer-next s b at c f ec)) (sym place)
                  ∙ append_assoc (entries_from (elements_of l).element (elements_of l).entries [] f x) ys later;
            };
      }

  credentials-ahead : (ws : List Want) (c : ℕ) (l : List (List ℕ)) (n : ℕ) → read (credentials ws) s c ≡ took l n
      → PlanAhead s most end c (credential_entries ws (c + 4))
  unfolding credentials layout pieces constant
  credentials-ahead ws c l n h =
      let (x, f, ex, e₁) = parse-inv (integer 4) s c _ l n h in
      let (g, e₂) = pick_inv (eqb x (length ws)) (by wrong_count c) _ l n e₁ in
      record {
        value = x;
        next = f;
        stands = ex;
        after =
            record {
              wants = ws;
              slots = _;
              next = _;
              stands = e₂;
              count = eqb-true x (length ws) g;
              entries = ap (credential_entries ws) (sym (integer-next s b c x f ex));
            };
      }

  body-ahead : (u : Unsigned (avm most)) (c : ℕ) (l : List (List ℕ)) (n : ℕ) → read (unsigned (avm most)) s 0 ≡ took u c
      → read (credentials (wants (avm most) u)) s c ≡ took l n → Ahead s most (type_id u.0.type) start (entries (avm most) (u, l))
  unfolding unsigned entries and_then
  body-ahead u c l n eu el =
      let (d, a, ed, e₁) = parse-inv (head (avm most)) s 0 _ u c eu in
      let (w, m, ew, e₂) = parse-inv (form most (plan d.type)) s a _ u c e₁ in
      let same : (d, w) ≡ u = cc in
      let there : m ≡ c = cc in
      let h : ℕ = length ((head (avm most)).write d) in
      let long : h ≡ 42 = head-long most d ((head (avm most)).sound s 0 d a (slice-bytes s b) ed).0 in
      let place : a ≡ h = omega (arith, written_next (head (avm most)) s 0 d a b ed) in
      let body : read (form most (plan d.type)) s h ≡ took w c =
      subst (λ (j : ℕ). read (form most (plan d.type)) s j ≡ took w c) place (ew ∙ ap (took w) there) in
      let ends : c ≡ length ((unsigned (avm most)).write u) = omega (arith, written_next (unsigned (avm most)) s 0 u c b eu) in
      let ws : List Want = wants (avm most) u in
      let later : List EntryAt = credential_entries ws (length ((unsigned (avm most)).write u) + 4) in
      subst (λ (x : Unsigned (avm most)).
      PlanAhead s most (plan_of (type_id x.0.type)) 42 (plan_entries most (plan x.0.type) x.1 (length ((head (avm most)).write x.0)) ++ later)) same
      (subst₂ (λ (k : TransactionType) (j : ℕ). PlanAhead s most (plan k) j (plan_entries most (plan d.type) w h ++ later)) (sym (type_of-id d.type)) long
      (plan-ahead (plan d.type) (own-ends d.type) h w c body later
      (subst (λ (j : ℕ). PlanAhead s most end c (credential_entries ws (j + 4))) ends (credentials-ahead ws c l n el))))

  -- the entries of an accepted transaction are ahead of the first cursor
  pub started : (v : Signed (avm most)) (n : ℕ) → check (avm most) s ≡ took v n → Ahead s most (type_id v.0.0.type) start (entries (avm most) v)
  unfolding AnySigned.check AnySigned.signed
  started v n h =
      let (_, e₁) = pick_inv (leb (length s) 65536) (refusal too_long 0) _ v n h in
      let (u, c, eu, e₂) = parse-inv (unsigned (avm most)) s 0 _ v n e₁ in
      let (l, k, el, e₃) = parse-inv (credentials (wants (avm most) u)) s c _ v n e₂ in
      let (_, e₄) = pick_inv (eqb k (length s)) (refusal bytes_after_end k) (took (u, l) k) v n e₃ in
      let same : (u, l) ≡ v = cc in
      subst (λ (w : Signed (avm most)). Ahead s most (type_id w.0.0.type) start (entries (avm most) w)) same (body-ahead u c l k eu el)
