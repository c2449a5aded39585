-- DEMAND 3 for any reader that has the laws. Assumes nothing but `Laws`.
use Rattle.std.specs.Prelude.{Option, Some}
use mathlib.Core.Path.{◌≡◌, sym, ap, ◌∙◌, subst}
use mathlib.Core.Logic.{inl, inr, ⊎_elim}
use mathlib.Core.List.{List}
use Prim.Native.Nat.{ℕ, ◌<◌}
use native.Mathlib.Omega.{arith}
use lib.ListN.{length, get_or}
use Rattle.transaction.specs.Slots.{blank}
use Rattle.draft_slots.specs.Joining.{Filled}
use Rattle.draft_slots.proofs.Comparing.{dec-same}
use Rattle.draft.specs.Reader.{Reader, slot_count, slot}
use Rattle.draft_theorems.specs.Groupings.{at, Drafts, Grouping, Uses}
use Rattle.draft_theorems.specs.Demand.{Conflict, held_at, merge_of, IsMerge, MergeOfList, Promise, Demand3}
use Rattle.draft_theorems.proofs.Laws.{Laws, Like, like-read, on, slot-on}
use Rattle.draft_theorems.proofs.Running.{Joined, Ended, gives, stops, ended, first-draft, like_at}
use Rattle.draft_theorems.proofs.Listing.{held_by, held-filled, is-merge_of, on-slot, in-first, is-merge}
use Rattle.draft_theorems.proofs.Pairing.{pair}

module _ (R : Reader) (L : Laws R) (ds : List (List ℕ)) (D : Drafts R ds) where
  -- ---- there is at most one merge, and none if there is a conflict

  module _ (m : List ℕ) (M : IsMerge R ds m) where
    like-merge : Like R (at ds 0) m
    like-merge = like-read R L (at ds 0) m (first-draft R L ds D) M.draft (sym (M.same-unsigned 0 D.one-or-more))

    slot-like : (k : ℕ) → slot R m k ≡ on R (at ds 0) m k
    slot-like k = slot-on R (at ds 0) m k like-merge.slots

    in-merge : (k : ℕ) → k < length (R.slots (at ds 0)) → k < slot_count R m
    unfolding slot_count
    in-merge k b = subst (λ (ps : List ℕ). k < length ps) (sym like-merge.slots) b

    only-merge : m ≡ merge_of R ds
    only-merge =
        is-merge_of R L ds D m like-merge
        (λ k b i bi f. sym (slot-like k) ∙ M.holds k (in-merge k b) i bi (λ z. f (sym (on-slot R L ds D i k bi) ∙ z)) ∙ on-slot R L ds D i k bi)
        (λ k b f. lower k b f (dec-same (held_at (get_or (R.slots (at ds 0)) k 0) ds) blank))
      where
        lower : (k : ℕ) → k < length (R.slots (at ds 0)) → Filled (on R (at ds 0) m k) → Dec (held_at (get_or (R.slots (at ds 0)) k 0) ds ≡ blank)
            → (i : ℕ) × (i < length ds) × Filled (on R (at ds 0) (at ds i) k)
        lower k b f (no n) = let w = held_by (get_or (R.slots (at ds 0)) k 0) ds n in (w.0, w.1, λ z. n (sym w.2 ∙ z))
        lower k b f (yes e) =
            absurd (f (sym (slot-like k)
            ∙ (M.empty k (in-merge k b)).1 (λ i bi. on-slot R L ds D i k bi ∙ all i bi (dec-same (on R (at ds 0) (at ds i) k) blank))))
          where
            all : (i : ℕ) → i < length ds → Dec (on R (at ds 0) (at ds i) k ≡ blank) → on R (at ds 0) (at ds i) k ≡ blank
            all i bi (yes z) = z
            all i bi (no n) = absurd (held-filled (get_or (R.slots (at ds 0)) k 0) ds i bi n e)

    merge_free : Conflict R ds → ⊥
    merge_free c =
        let b : c.k < slot_count R m = in-merge c.k (in-first R L ds D (at ds c.i) (like_at R L ds D c.i c.i-in).slots c.k c.k-in) in
        c.clash.differ (sym (M.holds c.k b c.i c.i-in c.clash.first) ∙ M.holds c.k b c.j c.j-in c.clash.second)

  merge-of-list : MergeOfList R ds
  merge-of-list =
      record {
        exists = (λ m c. merge_free m.0 m.1 c, λ q. (merge_of R ds, is-merge R L ds D q));
        merge = is-merge R L ds D;
        one = only-merge;
      }

  -- ---- a grouping that uses each draft

  module _ (g : Grouping) (uses : (i : ℕ) → i < length ds → Uses g i) where
    result-is : (x : List ℕ) → Joined R ds g x → x ≡ merge_of R ds
    result-is x j =
        is-merge_of R L ds D x j.like (λ k b i bi f. j.upper k b i (uses i bi) f)
        (λ k b f. let w = j.lower k b f in (w.0, w.1, λ z. f (sym w.2 ∙ z)))

    -- if there is a result, there is no conflict, for the result holds what each draft holds
    result-free : (x : List ℕ) → Joined R ds g x → Conflict R ds → ⊥
    result-free x j c =
        let b = in-first R L ds D (at ds c.i) (like_at R L ds D c.i c.i-in).slots c.k c.k-in in
        let e₁ = on-slot R L ds D c.i c.k c.i-in in
        let e₂ = on-slot R L ds D c.j c.k c.j-in in
        c.clash.differ
        (e₁
        ∙ sym (j.upper c.k b c.i (uses c.i c.i-in) (λ z. c.clash.first (e₁ ∙ z)))
        ∙ j.upper c.k b c.j (uses c.j c.j-in) (λ z. c.clash.second (e₂ ∙ z))
        ∙ sym e₂)

    promise : Ended R ds g → Promise R ds g
    promise (gives x e j cs) =
        let nc = result-free x j in
        record {
          conflict = (λ m. let z : ◌≡◌ {A = ℕ} 0 20 = sym (cs m.asked m.made).number ∙ m.answers in absurd (omega arith), λ c. absurd (nc c));
          no_other = λ n m. inl (sym m.answers ∙ (cs m.asked m.made).number);
          each-call = λ c w. inl (cs c w);
          gives = λ q. e ∙ ap {B = Option (List ℕ)} Some (result-is x j);
          no_result = λ c. absurd (nc c);
          ends = inl (e ∙ ap {B = Option (List ℕ)} Some (result-is x j));
        }
    promise (stops e c m cs) =
        record {
          conflict = (λ q. c, λ q. m);
          no_other = λ n q. ⊎_elim (λ d. inl (sym q.answers ∙ d.number)) (λ d. inr (sym q.answers ∙ d.number)) (cs q.asked q.made);
          each-call = cs;
          gives = λ q. absurd (q c);
          no_result = λ q. e;
          ends = inr m;
        }

pub demand3 : (R : Reader) → Laws R → Demand3 R
demand3 R L =
    record {
      merges = merge-of-list R L;
      groupings = λ ds D g f uses. promise R L ds D g uses (ended R L ds D g f);
      pairs = λ d e out hd he. pair R L d e out hd he;
    }
