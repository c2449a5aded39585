-- Neither order, nor grouping, nor repetition matters. Assumes nothing but demand 3.
use Rattle.std.specs.Prelude.{IsSome, Option, None, Some}
use mathlib.Core.Bool.{false≢true}
use mathlib.Core.Path.{◌≡◌, refl, sym, ap, ◌∙◌, subst, subst⁻¹}
use mathlib.Core.Logic.{◌⊎◌, ◌↔◌, inl, inr, ⊎_elim}
use mathlib.Core.List.{List, [], ◌∷◌}
use Prim.Native.Nat.{ℕ, zero, suc, ◌≤◌, ◌<◌}
use native.Mathlib.Nat.{le_of_suc-le-suc, not-suc-le-zero}
use native.Mathlib.Omega.{arith}
use lib.ListN.{length}
use Rattle.transaction.specs.Slots.{blank}
use Rattle.draft_slots.specs.Joining.{Filled, Clash}
use Rattle.draft.specs.Reader.{Reader, Draft, body, slot_count, slot}
use Rattle.draft.specs.Calls.{merge_call}
use Rattle.draft_theorems.specs.Groupings.{at, Drafts, both_anyway, Grouping, draft, call, Uses, Fits, Call, result_of, above, result, Meets}
use Rattle.draft_theorems.specs.Demand.{Conflict, merge_of, Frame, IsMerge, Promise, Demand3}
use Rattle.draft_theorems.specs.Order.{Within, Alike, AllMade, Answers, Evaluation, Of, Orders}

-- ---- two lists with the same drafts

module _ (R : Reader) (ds es : List (List ℕ)) (w : Within ds es) where
  conflict-within : Conflict R ds → Conflict R es
  conflict-within c =
      let (i, bi, ei) = w c.i c.i-in in
      let (j, bj, ej) = w c.j c.j-in in
      record {
        k = c.k;
        i = i;
        j = j;
        i-in = bi;
        j-in = bj;
        k-in = subst⁻¹ (λ (x : List ℕ). c.k < slot_count R x) ei c.k-in;
        clash = subst⁻¹ (λ (x : List ℕ). Clash (slot R x c.k) (slot R (at es j) c.k)) ei
            (subst⁻¹ (λ (y : List ℕ). Clash (slot R (at ds c.i) c.k) (slot R y c.k)) ej c.clash);
      }

  module _ (v : Within es ds) where
    merge-within : (m : List ℕ) → IsMerge R ds m → IsMerge R es m
    merge-within m M =
        record {
          draft = M.draft;
          same-unsigned = λ j b. let (i, bi, e) = v j b in subst (λ (x : List ℕ). body R m ≡ body R x) e (M.same-unsigned i bi);
          same-slots = λ j b. let (i, bi, e) = v j b in subst (λ (x : List ℕ). R.slots m ≡ R.slots x) e (M.same-slots i bi);
          outside = λ j b. let (i, bi, e) = v j b in subst (λ (x : List ℕ). Frame (R.slots x) x m) e (M.outside i bi);
          holds = λ k bk j b. let (i, bi, e) = v j b in subst (λ (x : List ℕ). Filled (slot R x k) → slot R m k ≡ slot R x k) e (M.holds k bk i bi);
          empty = λ k bk. (
            λ z j b. let (i, bi, e) = v j b in subst (λ (x : List ℕ). slot R x k ≡ blank) e ((M.empty k bk).0 z i bi),
            λ all. (M.empty k bk).1 (λ i bi. let (j, b, e) = w i bi in subst (λ (x : List ℕ). slot R x k ≡ blank) e (all j b)),
          );
        }

    drafts-within : Drafts R ds → Drafts R es
    drafts-within D =
        record {
          one-or-more = let (j, b, e) = w 0 D.one-or-more in omega arith;
          drafts = λ j b. let (i, bi, e) = v j b in subst (Draft R) e (D.drafts i bi);
          same-unsigned = λ j j' b b'.
              let (i, bi, e) = v j b in
              let (i', bi', e') = v j' b' in
              sym (ap (body R) e) ∙ D.same-unsigned i i' bi bi' ∙ ap (body R) e';
        }

-- ---- a list of one draft, and a list with one draft more

pub drafts-one : (R : Reader) (d : List ℕ) → Draft R d → Drafts R (d ∷ [])
drafts-one R d h =
    record {
      one-or-more = omega arith;
      drafts = λ i b. go i b;
      same-unsigned = λ i j bi bj. ap (body R) (same i bi ∙ sym (same j bj));
    }
  where
    same : (i : ℕ) → i < 1 → at (d ∷ []) i ≡ d
    same zero b = refl
    same (suc i) b = absurd (not-suc-le-zero (le_of_suc-le-suc b))

    go : (i : ℕ) → i < 1 → Draft R (at (d ∷ []) i)
    go i b = subst⁻¹ (Draft R) (same i b) h

pub drafts-more : (R : Reader) (ds : List (List ℕ)) (e : List ℕ) → Drafts R ds → Of R (at ds 0) e → Drafts R (e ∷ ds)
drafts-more R ds e D h =
    record { one-or-more = omega arith; drafts = λ i b. all i b; same-unsigned = λ i j bi bj. same i bi ∙ sym (same j bj) }
  where
    all : (i : ℕ) → i < length (e ∷ ds) → Draft R (at (e ∷ ds) i)
    all zero b = h.0
    all (suc i) b = D.drafts i (le_of_suc-le-suc b)

    same : (i : ℕ) → i < length (e ∷ ds) → body R (at (e ∷ ds) i) ≡ body R (at ds 0)
    same zero b = h.1
    same (suc i) b = D.same-unsigned i 0 (le_of_suc-le-suc b) D.one-or-more

within-self : (ds : List (List ℕ)) → Within ds ds
within-self ds i b = (i, b, refl)

-- ---- the claims

module _ (R : Reader) (T : Demand3 R) where
  never : {x : List ℕ} → None ≡ Some x → ⊥
  never p = let y : ◌≡◌ {A = ℕ} 0 1 = cc in omega arith

  module _ (ds es : List (List ℕ)) (D : Drafts R ds) (w : Within ds es) (v : Within es ds)
      (g : Grouping) (fg : Fits ds g) (ug : (i : ℕ) → i < length ds → Uses g i)
      (h : Grouping) (fh : Fits es h) (uh : (i : ℕ) → i < length es → Uses h i) where
    of-g : Promise R ds g
    of-g = T.groupings ds D g fg ug

    drafts-es : Drafts R es
    drafts-es = drafts-within R ds es w v D

    of-h : Promise R es h
    of-h = T.groupings es drafts-es h fh uh

    groupings-alike : Alike R ds g es h
    groupings-alike = go of-g.ends of-h.ends
      where
        free : result R ds g ≡ Some (merge_of R ds) → Conflict R ds → ⊥
        free e c = never (sym (of-g.no_result c) ∙ e)

        go : (result R ds g ≡ Some (merge_of R ds)) ⊎ Meets R ds g 20 → (result R es h ≡ Some (merge_of R es)) ⊎ Meets R es h 20 → Alike R ds g es h
        go (inl e) (inl f) =
            let M : IsMerge R es (merge_of R ds) = merge-within R ds es w v (merge_of R ds) ((T.merges ds D).merge (free e)) in
            inl (merge_of R ds, e, f ∙ ap {B = Option (List ℕ)} Some (sym ((T.merges es drafts-es).one (merge_of R ds) M)))
        go (inl e) (inr m) = absurd (free e (conflict-within R es ds v (of-h.conflict.0 m)))
        go (inr m) q = inr (m, of-h.conflict.1 (conflict-within R ds es w (of-g.conflict.0 m)))

    same-result : result R ds g ≡ result R es h
    same-result = go groupings-alike
      where
        go : Alike R ds g es h → result R ds g ≡ result R es h
        go (inl (m, e, f)) = e ∙ sym f
        go (inr (m, n)) = of-g.no_result (of-g.conflict.0 m) ∙ sym (of-h.no_result (of-h.conflict.0 n))

  any-run : (ds : List (List ℕ)) → Drafts R ds → (g : Grouping) → Fits ds g → ((i : ℕ) → i < length ds → Uses g i)
      → (cs : List Call) → Evaluation R ds g cs → Answers R cs 20 ↔ Conflict R ds
  any-run ds D g f u cs r = (λ a. P.conflict.0 (met 20 cs r.made a), λ q. go q r.ended)
    where
      P : Promise R ds g
      P = T.groupings ds D g f u

      met : (n : ℕ) (cs : List Call) → AllMade R ds g cs → Answers R cs n → Meets R ds g n
      met n [] m a = absurd a
      met n (c ∷ cs) m (inl e) = record { asked = c; made = m.0; answers = e }
      met n (c ∷ cs) m (inr a) = met n cs m.1 a

      go : Conflict R ds → ((n : ℕ) × (n ≡ 0 → ⊥) × Answers R cs n) ⊎ IsSome (result R ds g) → Answers R cs 20
      go q (inl (n, z, a)) = ⊎_elim (λ e. absurd (z e)) (λ e. subst (Answers R cs) e a) (P.no_other n (met n cs r.made a))
      go q (inr i) = absurd (false≢true (subst IsSome (P.no_result q) i))

  idempotent : (d out : List ℕ) → Draft R d → length d ≤ length out → result_of (merge_call R d d out) ≡ Some d
  unfolding result
  idempotent d out hd room =
      let ds : List (List ℕ) = d ∷ [] in
      same-result ds ds (drafts-one R d hd) (within-self ds) (within-self ds)
      (call both_anyway out (draft 0) (draft 0)) ((0, omega arith, room), omega arith, omega arith) (λ i b. inl (omega arith))
      (draft 0) (omega arith) (λ i b. omega arith)

  commutative : (d e o₁ o₂ : List ℕ) → Draft R d → Of R d e → length d ≤ length o₁ → length d ≤ length o₂
      → result_of (merge_call R d e o₁) ≡ result_of (merge_call R e d o₂)
  unfolding result
  commutative d e o₁ o₂ hd he r₁ r₂ =
      let ds : List (List ℕ) = e ∷ d ∷ [] in
      same-result ds ds (drafts-more R (d ∷ []) e (drafts-one R d hd) he) (within-self ds) (within-self ds)
      (call both_anyway o₁ (draft 1) (draft 0)) ((1, omega arith, r₁), omega arith, omega arith) (λ i b. two i b)
      (call both_anyway o₂ (draft 0) (draft 1)) ((1, omega arith, r₂), omega arith, omega arith) (λ i b. owt i b)
    where
      two : (i : ℕ) → i < 2 → (◌≡◌ {A = ℕ} 1 i) ⊎ (◌≡◌ {A = ℕ} 0 i)
      two zero b = inr refl
      two (suc i) b = inl (omega arith)

      owt : (i : ℕ) → i < 2 → (◌≡◌ {A = ℕ} 0 i) ⊎ (◌≡◌ {A = ℕ} 1 i)
      owt zero b = inl refl
      owt (suc i) b = inr (omega arith)

  associative : (d e f o₁ o₂ o₃ o₄ : List ℕ) → Draft R d → Of R d e → Of R d f
      → length d ≤ length o₁ → length d ≤ length o₂ → length d ≤ length o₃ → length d ≤ length o₄
      → above R (result_of (merge_call R d e o₁)) (Some f) o₂ ≡ above R (Some d) (result_of (merge_call R e f o₃)) o₄
  unfolding result
  associative d e f o₁ o₂ o₃ o₄ hd he hf r₁ r₂ r₃ r₄ =
      let ds : List (List ℕ) = f ∷ e ∷ d ∷ [] in
      same-result ds ds (drafts-more R (e ∷ d ∷ []) f (drafts-more R (d ∷ []) e (drafts-one R d hd) he) (hf.0, hf.1 ∙ sym he.1)) (within-self ds)
      (within-self ds)
      (call both_anyway o₂ (call both_anyway o₁ (draft 2) (draft 1)) (draft 0))
      ((2, omega arith, r₂), ((2, omega arith, r₁), omega arith, omega arith), omega arith) (λ i b. left i b)
      (call both_anyway o₄ (draft 2) (call both_anyway o₃ (draft 1) (draft 0)))
      ((2, omega arith, r₄), omega arith, ((2, omega arith, r₃), omega arith, omega arith)) (λ i b. right i b)
    where
      left : (i : ℕ) → i < 3 → ((◌≡◌ {A = ℕ} 2 i) ⊎ (◌≡◌ {A = ℕ} 1 i)) ⊎ (◌≡◌ {A = ℕ} 0 i)
      left zero b = inr refl
      left (suc zero) b = inl (inr refl)
      left (suc (suc i)) b = inl (inl (omega arith))

      right : (i : ℕ) → i < 3 → (◌≡◌ {A = ℕ} 2 i) ⊎ ((◌≡◌ {A = ℕ} 1 i) ⊎ (◌≡◌ {A = ℕ} 0 i))
      right zero b = inr (inr refl)
      right (suc zero) b = inr (inl refl)
      right (suc (suc i)) b = inl (omega arith)

  pub orders : Orders R
  orders =
      record {
        alike = λ ds es D w v g fg ug h fh uh. groupings-alike ds es D w v g fg ug h fh uh;
        runs = any-run;
        idempotent = idempotent;
        commutative = commutative;
        associative = associative;
      }
