-- How a grouping ends, by induction over it: its result carries each draft used (`upper`) and holds no signature that no draft holds (`lower`); or
-- a call of it met the conflict refusal, and two drafts of the list conflict. Assumes nothing but `Laws`.
use Rattle.std.specs.Prelude.{Ok, Option, Result, IsSome, None, Some}
use Rattle.wire.specs.declared.Refusal.{Refusal}
use mathlib.Core.Path.{◌≡◌, refl, sym, ap, ap₂, ◌∙◌, subst⁻¹}
use mathlib.Core.Logic.{◌⊎◌, inl, inr, ⊎_elim}
use mathlib.Core.List.{List, ◌++◌}
use Prim.Native.Nat.{ℕ, ◌≤◌, ◌<◌}
use native.Mathlib.Omega.{arith}
use lib.ListN.{length, drop, get_or, length-append, length-drop}
use lib.Seq.{take-append_seam, drop-append_seam}
use Rattle.wire.specs.Numbers.{conflict}
use Rattle.transaction.specs.Slots.{slot_at}
use Rattle.draft_slots.specs.Joining.{Filled, Clash, join}
use Rattle.draft_slots.proofs.Comparing.{join-filled, join_one, join-second}
use Rattle.draft.specs.Reader.{Reader, Draft, slot_count, slot}
use Rattle.draft.specs.Calls.{answer_number, answer_place, merged, refuse}
use Rattle.draft_theorems.specs.Groupings.{at, Drafts, Sides, first_before, second_before, both_anyway, Grouping, draft, call, Uses, Fits, Call}
use Rattle.draft_theorems.specs.Groupings.{answered, result_of, above, result, Above, Made, Meets}
use Rattle.draft_theorems.specs.Demand.{Conflict, FirstClash, Done, Refused}
use Rattle.draft_theorems.proofs.Laws.{Laws, Like, like-read, on}
use Rattle.draft_theorems.proofs.Merging.{merged-like, merged_on, Ends, joins, clash, ends}

-- ---- which calls are made

-- a call that is made belongs to one side, or is the call above both; that one is made if both sides have results
module _ (R : Reader) (ds : List (List ℕ)) where
  parts : (o : Sides) (out : List ℕ) (g h : Grouping) (c : Call) → Made R ds (call o out g h) c → Made R ds g c ⊎ Made R ds h c ⊎ Above R ds out g h c
  parts first_before out g h c (inl w) = inl w
  parts first_before out g h c (inr (inl w)) = inr (inl w.1)
  parts first_before out g h c (inr (inr w)) = inr (inr w)
  parts second_before out g h c (inl w) = inl w.1
  parts second_before out g h c (inr w) = inr w
  parts both_anyway out g h c w = w

  made-above : (o : Sides) (out : List ℕ) (g h : Grouping) (c : Call) → Above R ds out g h c → Made R ds (call o out g h) c
  made-above first_before out g h c w = inr (inr w)
  made-above second_before out g h c w = inr (inr w)
  made-above both_anyway out g h c w = inr (inr w)

  -- a side's calls are made if the other side has a result
  made-first : (o : Sides) (out : List ℕ) (g h : Grouping) (c : Call) → IsSome (result R ds h) → Made R ds g c → Made R ds (call o out g h) c
  made-first first_before out g h c i w = inl w
  made-first second_before out g h c i w = inl (i, w)
  made-first both_anyway out g h c i w = inl w

  made-second : (o : Sides) (out : List ℕ) (g h : Grouping) (c : Call) → IsSome (result R ds g) → Made R ds h c → Made R ds (call o out g h) c
  made-second first_before out g h c i w = inr (inl (i, w))
  made-second second_before out g h c i w = inr (inl w)
  made-second both_anyway out g h c i w = inr (inl w)

  -- if both sides meet n, the grouping meets it on the side whose calls come first
  meets-either : (o : Sides) (out : List ℕ) (g h : Grouping) (n : ℕ) → Meets R ds g n → Meets R ds h n → Meets R ds (call o out g h) n
  meets-either first_before out g h n a b = record { asked = a.asked; made = inl a.made; answers = a.answers }
  meets-either second_before out g h n a b = record { asked = b.asked; made = inr (inl b.made); answers = b.answers }
  meets-either both_anyway out g h n a b = record { asked = a.asked; made = inl a.made; answers = a.answers }

  -- the call above is on the sides' results
  above-is : (g h : Grouping) (out x y : List ℕ) (c : Call) → result R ds g ≡ Some x → result R ds h ≡ Some y
      → Above R ds out g h c → c ≡ record { first = x; second = y; out = out }
  above-is g h out x y c ex ey m =
      let e₁ : c.first ≡ x = cc in
      let e₂ : c.second ≡ y = cc in
      λ i. record { first = e₁ i; second = e₂ i; out = m.2 i }

-- ---- how a grouping ends

pub record Joined (R : Reader) (ds : List (List ℕ)) (g : Grouping) (x : List ℕ) : Type 0 where
  pub like : Like R (at ds 0) x
  pub upper : (k : ℕ) → k < length (R.slots (at ds 0)) → (i : ℕ) → Uses g i
      → Filled (on R (at ds 0) (at ds i) k) → on R (at ds 0) x k ≡ on R (at ds 0) (at ds i) k
  pub lower : (k : ℕ) → k < length (R.slots (at ds 0)) → Filled (on R (at ds 0) x k)
      → (i : ℕ) × (i < length ds) × (on R (at ds 0) (at ds i) k ≡ on R (at ds 0) x k)

pub data Ended (R : Reader) (ds : List (List ℕ)) (g : Grouping) : Type 0 where
  gives : (x : List ℕ) → result R ds g ≡ Some x → Joined R ds g x → ((c : Call) → Made R ds g c → Done R ds c) → Ended R ds g
  stops : result R ds g ≡ None → Conflict R ds → Meets R ds g 20 → ((c : Call) → Made R ds g c → Done R ds c ⊎ Refused R c) → Ended R ds g

module _ (R : Reader) (L : Laws R) (ds : List (List ℕ)) (D : Drafts R ds) where
  pub first-draft : Draft R (at ds 0)
  first-draft = D.drafts 0 D.one-or-more

  pub like_at : (i : ℕ) → i < length ds → Like R (at ds 0) (at ds i)
  like_at i b = like-read R L (at ds 0) (at ds i) first-draft (D.drafts i b) (D.same-unsigned 0 i D.one-or-more b)

  pub conflict-of : (k i j : ℕ) → k < length (R.slots (at ds 0)) → i < length ds → j < length ds
      → Clash (on R (at ds 0) (at ds i) k) (on R (at ds 0) (at ds j) k) → Conflict R ds
  unfolding slot_count slot
  conflict-of k i j b bi bj c =
      record {
        k = k;
        i = i;
        j = j;
        i-in = bi;
        j-in = bj;
        k-in = subst⁻¹ (λ (ps : List ℕ). k < length ps) (like_at i bi).slots b;
        clash = subst⁻¹ (λ (ps : List ℕ). Clash (slot_at (at ds i) (get_or ps k 0)) (slot_at (at ds j) (get_or (R.slots (at ds j)) k 0))) (like_at i bi).slots
            (subst⁻¹ (λ (ps : List ℕ). Clash (on R (at ds 0) (at ds i) k) (slot_at (at ds j) (get_or ps k 0))) (like_at j bj).slots c);
      }

  leaf : (i : ℕ) → i < length ds → Ended R ds (draft i)
  unfolding result
  leaf i b =
      gives (at ds i) refl
      (record {
        like = like_at i b;
        upper = λ k bk j u f. ap (λ (n : ℕ). on R (at ds 0) (at ds n) k) u;
        lower = λ k bk f. (i, b, refl);
      })
      (λ c m. absurd m)

  -- ---- the call above two results

  module _ (o : Sides) (out : List ℕ) (g h : Grouping) (x y : List ℕ) (ex : result R ds g ≡ Some x) (ey : result R ds h ≡ Some y)
      (jx : Joined R ds g x) (jy : Joined R ds h y) where
    joined : ((k : ℕ) → k < length (R.slots (at ds 0)) → Clash (on R (at ds 0) x k) (on R (at ds 0) y k) → ⊥)
        → Joined R ds (call o out g h) (merged R x y)
    joined nc =
        record {
          like = merged-like R L (at ds 0) first-draft x y jx.like jy.like;
          upper = λ k b i u f. it k b ∙ up k b i f u;
          lower = λ k b f. down k b (λ e. f (it k b ∙ e)) (join_one (on R (at ds 0) x k) (on R (at ds 0) y k));
        }
      where
        it : (k : ℕ) → k < length (R.slots (at ds 0)) → on R (at ds 0) (merged R x y) k ≡ join (on R (at ds 0) x k) (on R (at ds 0) y k)
        it k b = merged_on R L (at ds 0) first-draft x y jx.like jy.like k b

        up : (k : ℕ) → k < length (R.slots (at ds 0)) → (i : ℕ) → Filled (on R (at ds 0) (at ds i) k) → Uses g i ⊎ Uses h i
            → join (on R (at ds 0) x k) (on R (at ds 0) y k) ≡ on R (at ds 0) (at ds i) k
        up k b i f (inl u) =
            let e = jx.upper k b i u f in join-filled (on R (at ds 0) x k) (on R (at ds 0) y k) (λ z. f (sym e ∙ z)) ∙ e
        up k b i f (inr u) =
            let e = jy.upper k b i u f in join-second (on R (at ds 0) x k) (on R (at ds 0) y k) (nc k b) (λ z. f (sym e ∙ z)) ∙ e

        down : (k : ℕ) → k < length (R.slots (at ds 0)) → Filled (join (on R (at ds 0) x k) (on R (at ds 0) y k))
            → (join (on R (at ds 0) x k) (on R (at ds 0) y k) ≡ on R (at ds 0) x k) ⊎ (join (on R (at ds 0) x k) (on R (at ds 0) y k) ≡ on R (at ds 0) y k)
            → (i : ℕ) × (i < length ds) × (on R (at ds 0) (at ds i) k ≡ on R (at ds 0) (merged R x y) k)
        down k b f (inl e) = let w = jx.lower k b (λ z. f (e ∙ z)) in (w.0, w.1, w.2 ∙ sym e ∙ sym (it k b))
        down k b f (inr e) = let w = jy.lower k b (λ z. f (e ∙ z)) in (w.0, w.1, w.2 ∙ sym e ∙ sym (it k b))

    collide : (k : ℕ) → k < length (R.slots (at ds 0)) → Clash (on R (at ds 0) x k) (on R (at ds 0) y k) → Conflict R ds
    collide k b c =
        let v = jx.lower k b c.first in
        let w = jy.lower k b c.second in
        conflict-of k v.0 w.0 b v.1 w.1
        (record { first = λ z. c.first (sym v.2 ∙ z); second = λ z. c.second (sym w.2 ∙ z); differ = λ z. c.differ (sym v.2 ∙ z ∙ w.2) })

    me : Call
    me = record { first = x; second = y; out = out }

    result-me : result R ds (call o out g h) ≡ above R (Some x) (Some y) out
    unfolding result
    result-me = ap₂ (λ (s t : Option (List ℕ)). above R s t out) ex ey

    result-joined : answered R me ≡ (Ok (length (merged R x y)), merged R x y ++ drop (length (merged R x y)) out)
        → above R (Some x) (Some y) out ≡ Some (merged R x y)
    unfolding me
    result-joined e = ap result_of e ∙ ap {B = Option (List ℕ)} Some (take-append_seam (merged R x y) (drop (length (merged R x y)) out))

    done-me : length (at ds 0) ≤ length out → answered R me ≡ (Ok (length (merged R x y)), merged R x y ++ drop (length (merged R x y)) out) → Done R ds me
    unfolding me
    done-me room e =
        let m : List ℕ = merged R x y in
        let lm : length m ≡ length (at ds 0) = (merged-like R L (at ds 0) first-draft x y jx.like jy.like).frame.long in
        let p : answer_place (answered R me).0 ≡ length m = ap (λ (a : Result ℕ Refusal × List ℕ). answer_place a.0) e in
        let b : (answered R me).1 ≡ m ++ drop (length m) out = ap (λ (a : Result ℕ Refusal × List ℕ). a.1) e in
        record {
          number = ap (λ (a : Result ℕ Refusal × List ℕ). answer_number a.0) e;
          place = λ i bi. p ∙ lm ∙ sym (like_at i bi).frame.long;
          long = ap length b ∙ omega (arith, length-append m (drop (length m) out), length-drop (length m) out);
          after = ap₂ (λ (n : ℕ) (s : List ℕ). drop n s) p b ∙ drop-append_seam m (drop (length m) out) ∙ ap (λ (n : ℕ). drop n out) (sym p);
        }

    refused-me : (k : ℕ) → FirstClash R x y k → answered R me ≡ (refuse conflict k, out) → Refused R me
    unfolding me
    refused-me k f e =
        record {
          number = ap (λ (a : Result ℕ Refusal × List ℕ). answer_number a.0) e;
          place = subst⁻¹ (FirstClash R x y) (ap (λ (a : Result ℕ Refusal × List ℕ). answer_place a.0) e) f;
          buffer = ap (λ (a : Result ℕ Refusal × List ℕ). a.1) e;
        }

    node : length (at ds 0) ≤ length out → ((c : Call) → Made R ds g c → Done R ds c) → ((c : Call) → Made R ds h c → Done R ds c)
        → Ends R (at ds 0) x y out → Ended R ds (call o out g h)
    unfolding me
    node room cx cy (joins nc e) =
        gives (merged R x y) (result-me ∙ result-joined e) (joined nc)
        (λ c w. ⊎_elim (cx c) (⊎_elim (cy c) (λ a. subst⁻¹ (Done R ds) (above-is R ds g h out x y c ex ey a) (done-me room e))) (parts R ds o out g h c w))
    node room cx cy (clash k f b c e) =
        stops (result-me ∙ ap result_of e) (collide k b c)
        (record { asked = me; made = made-above R ds o out g h me (ex, ey, refl); answers = ap (λ (a : Result ℕ Refusal × List ℕ). answer_number a.0) e })
        (λ q w. ⊎_elim (λ u. inl (cx q u))
        (⊎_elim (λ u. inl (cy q u)) (λ a. inr (subst⁻¹ (Refused R) (above-is R ds g h out x y q ex ey a) (refused-me k f e)))) (parts R ds o out g h q w))

  -- ---- if a side has no result, the call above is not made

  never-above : (out : List ℕ) (g h : Grouping) → (result R ds g ≡ None) ⊎ (result R ds h ≡ None)
      → ((c : Call) → Made R ds g c → Done R ds c ⊎ Refused R c) → ((c : Call) → Made R ds h c → Done R ds c ⊎ Refused R c)
      → (o : Sides) (c : Call) → Made R ds (call o out g h) c → Done R ds c ⊎ Refused R c
  never-above out g h e cg ch o c w = ⊎_elim (cg c) (⊎_elim (ch c) (λ a. absurd (go e a))) (parts R ds o out g h c w)
    where
      never : {x : List ℕ} → None ≡ Some x → ⊥
      never p = let y : ◌≡◌ {A = ℕ} 0 1 = cc in omega arith

      go : (result R ds g ≡ None) ⊎ (result R ds h ≡ None) → Above R ds out g h c → ⊥
      go (inl e) a = never (sym e ∙ a.0)
      go (inr e) a = never (sym e ∙ a.1)

  none-second : (s : Option (List ℕ)) (out : List ℕ) → above R s None out ≡ None
  none-second None out = refl
  none-second (Some x) out = refl

  step : (o : Sides) (out : List ℕ) (g h : Grouping) → length (at ds 0) ≤ length out → Ended R ds g → Ended R ds h → Ended R ds (call o out g h)
  unfolding result
  step o out g h room (gives x ex jx cx) (gives y ey jy cy) =
      node o out g h x y ex ey jx jy room cx cy (ends R L (at ds 0) first-draft x y jx.like jy.like out room)
  step o out g h room (gives x ex jx cx) (stops e q m cs) =
      stops (ap (λ (s : Option (List ℕ)). above R (result R ds g) s out) e ∙ none-second (result R ds g) out) q
      (record { asked = m.asked; made = made-second R ds o out g h m.asked (subst⁻¹ IsSome ex refl) m.made; answers = m.answers })
      (never-above out g h (inr e) (λ c w. inl (cx c w)) cs o)
  step o out g h room (stops e q m cs) (gives y ey jy cy) =
      stops (ap (λ (s : Option (List ℕ)). above R s (result R ds h) out) e) q
      (record { asked = m.asked; made = made-first R ds o out g h m.asked (subst⁻¹ IsSome ey refl) m.made; answers = m.answers })
      (never-above out g h (inl e) cs (λ c w. inl (cy c w)) o)
  step o out g h room (stops e q m cs) (stops e₂ q₂ m₂ cs₂) =
      stops (ap (λ (s : Option (List ℕ)). above R s (result R ds h) out) e) q (meets-either R ds o out g h 20 m m₂) (never-above out g h (inl e) cs cs₂ o)

  pub ended : (g : Grouping) → Fits ds g → Ended R ds g
  ended (draft i) f = leaf i f
  ended (call o out g h) f =
      let (i, b, r) = f.0 in
      step o out g h (omega (arith, (like_at i b).frame.long)) (ended g f.1) (ended h f.2)
