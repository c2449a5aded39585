-- Slots compared and joined. Assumes nothing.
use Rattle.std.specs.Prelude.{Option, None, Some}
use mathlib.Core.Path.{◌≡◌, refl, sym, ap, ap₂, ◌∙◌, subst}
use mathlib.Core.Logic.{◌⊎◌, inl, inr}
use mathlib.Core.Bool.{Bool, true, false, not, cond, ◌&&◌, true≢false, false≢true}
use mathlib.Core.List.{List, [], ◌∷◌}
use Prim.Native.Nat.{ℕ, zero, suc, ◌+◌, ◌<◌, suc-le-suc}
use native.Mathlib.Nat.{le_of_suc-le-suc, not-suc-le-zero, zero-lt-suc, add-zero, add-suc, suc-add}
use native.Mathlib.Omega.{arith}
use lib.Dec.{T, eqb, eqb→eq, eqb_refl}
use lib.ListN.{length, get_or}
use Rattle.wire.specs.Bytes.{Bytes}
use Rattle.transaction.specs.Slots.{signature_width, blank, slot_at}
use Rattle.draft_slots.specs.Joining.{same, Filled, Clash, clashes, join, first_clash}

-- ---- comparing

pub is_true : (b : Bool) → T b → b ≡ true
is_true true t = refl
is_true false t = absurd t

pub and-true : (a b : Bool) → (a && b) ≡ true → (a ≡ true) × (b ≡ true)
and-true true b e = (refl, e)
and-true false b e = absurd (false≢true e)

pub same-eq : (a b : List ℕ) → same a b ≡ true → a ≡ b
unfolding same
same-eq [] [] e = refl
same-eq [] (y ∷ ys) e = absurd (false≢true e)
same-eq (x ∷ xs) [] e = absurd (false≢true e)
same-eq (x ∷ xs) (y ∷ ys) e =
    let h = and-true (eqb x y) (same xs ys) e in
    ap₂ (λ (z : ℕ) (zs : List ℕ). z ∷ zs) (eqb→eq x y (subst T (sym h.0) tt)) (same-eq xs ys h.1)

pub same_refl : (a : List ℕ) → same a a ≡ true
unfolding same
same_refl [] = refl
same_refl (x ∷ xs) = ap₂ ◌&&◌ (is_true (eqb x x) (eqb_refl x)) (same_refl xs)

pub same-of-eq : (a b : List ℕ) → a ≡ b → same a b ≡ true
same-of-eq a b e = subst (λ (c : List ℕ). same a c ≡ true) e (same_refl a)

pub dec-same : (a b : List ℕ) → Dec (a ≡ b)
dec-same a b = go (same a b) refl
  where
    go : (t : Bool) → same a b ≡ t → Dec (a ≡ b)
    go true e = yes (same-eq a b e)
    go false e = no (λ h. true≢false (sym (same-of-eq a b h) ∙ e))

pub same-no : (a b : List ℕ) → (a ≡ b → ⊥) → same a b ≡ false
same-no a b n = go (same a b) refl
  where
    go : (t : Bool) → same a b ≡ t → same a b ≡ false
    go true e = absurd (n (same-eq a b e))
    go false e = e

-- ---- joining

pub join-filled : (a b : List ℕ) → Filled a → join a b ≡ a
unfolding join
join-filled a b n = ap (λ (t : Bool). cond t b a) (same-no a blank n)

pub join-blank : (a b : List ℕ) → a ≡ blank → join a b ≡ b
unfolding join
join-blank a b e = ap (λ (t : Bool). cond t b a) (same-of-eq a blank e)

-- a join is one of the two slots
pub join_one : (a b : List ℕ) → (join a b ≡ a) ⊎ (join a b ≡ b)
join_one a b = elim (dec-same a blank) [ yes e ↦ inr (join-blank a b e) | no n ↦ inl (join-filled a b n) ]

-- if two slots do not clash and the second is filled, their join is the second
pub join-second : (a b : List ℕ) → (Clash a b → ⊥) → Filled b → join a b ≡ b
join-second a b nc nb = elim (dec-same a blank) [ yes e ↦ join-blank a b e | no n ↦ go n (dec-same a b) ]
  where
    go : Filled a → Dec (a ≡ b) → join a b ≡ b
    go n (yes e) = join-filled a b n ∙ e
    go n (no m) = absurd (nc (record { first = n; second = nb; differ = m }))

-- joining a slot with an empty one gives the slot
pub join-empty : (a : List ℕ) → join a blank ≡ a
join-empty a = elim (dec-same a blank) [ yes e ↦ join-blank a blank e ∙ sym e | no n ↦ join-filled a blank n ]

pub length-join : (a b : List ℕ) → length a ≡ signature_width → length b ≡ signature_width → length (join a b) ≡ signature_width
length-join a b ha hb = elim (join_one a b) [ inl e ↦ ap length e ∙ ha | inr e ↦ ap length e ∙ hb ]

pub bytes-join : (a b : List ℕ) → Bytes a → Bytes b → Bytes (join a b)
bytes-join a b ha hb = elim (join_one a b) [ inl e ↦ subst Bytes (sym e) ha | inr e ↦ subst Bytes (sym e) hb ]

-- ---- clashing

pub clashes-yes : (a b : List ℕ) → clashes a b ≡ true → Clash a b
unfolding clashes
clashes-yes a b e =
    let h = and-true (not (same a blank)) (not (same b blank) && not (same a b)) e in
    let h₂ = and-true (not (same b blank)) (not (same a b)) h.1 in
    record { first = no_same a blank h.0; second = no_same b blank h₂.0; differ = no_same a b h₂.1 }
  where
    no_same : (x y : List ℕ) → not (same x y) ≡ true → x ≡ y → ⊥
    no_same x y t q = false≢true (sym (ap not (same-of-eq x y q)) ∙ t)

pub clashes-of : (a b : List ℕ) → Clash a b → clashes a b ≡ true
unfolding clashes
clashes-of a b c = rw (same-no a blank c.first, same-no b blank c.second, same-no a b c.differ)

pub clashes-no : (a b : List ℕ) → clashes a b ≡ false → Clash a b → ⊥
clashes-no a b e c = true≢false (sym (clashes-of a b c) ∙ e)

pub clashes-none : (a b : List ℕ) → (Clash a b → ⊥) → clashes a b ≡ false
clashes-none a b n = go (clashes a b) refl
  where
    go : (t : Bool) → clashes a b ≡ t → clashes a b ≡ false
    go true e = absurd (n (clashes-yes a b e))
    go false e = e

-- the first clash in a list of slots: there is none, or slot k is the first that clashes
abbrev ClashAt : List ℕ → List ℕ → List ℕ → ℕ → Type 0
ClashAt ps d e k = Clash (slot_at d (get_or ps k 0)) (slot_at e (get_or ps k 0))

pub record ClashFrom (j : ℕ) (ps d e : List ℕ) (n : ℕ) : Type 0 where
  pub k : ℕ
  pub at : j + k ≡ n
  pub k-in : k < length ps
  pub here : Clash (slot_at d (get_or ps k 0)) (slot_at e (get_or ps k 0))
  pub before : (i : ℕ) → i < k → Clash (slot_at d (get_or ps i 0)) (slot_at e (get_or ps i 0)) → ⊥

pub first-none : (j : ℕ) (ps d e : List ℕ) → first_clash j ps d e ≡ None → (k : ℕ) → k < length ps → ClashAt ps d e k → ⊥
unfolding first_clash
first-none j [] d e h k b c = absurd (not-suc-le-zero b)
first-none j (p ∷ ps) d e h k b c = go (clashes (slot_at d p) (slot_at e p)) refl (first-none (suc j) ps d e) k b c
  where
    go : (t : Bool) → clashes (slot_at d p) (slot_at e p) ≡ t
        → (first_clash (suc j) ps d e ≡ None → (k : ℕ) → k < length ps → ClashAt ps d e k → ⊥)
        → (k : ℕ) → k < length (p ∷ ps) → ClashAt (p ∷ ps) d e k → ⊥
    go true q ih k b c = let z : ◌≡◌ {A = Option ℕ} (Some j) None = subst
        (λ (t : Bool). cond t (Some j) (first_clash (suc j) ps d e) ≡ None) q h in let y : ◌≡◌ {A = ℕ} 0 1 = cc in omega arith
    go false q ih zero b c = clashes-no (slot_at d p) (slot_at e p) q c
    go false q ih (suc k) b c = ih (subst (λ (t : Bool). cond t (Some j) (first_clash (suc j) ps d e) ≡ None) q h) k (le_of_suc-le-suc b) c

pub first_some : (j : ℕ) (ps d e : List ℕ) (n : ℕ) → first_clash j ps d e ≡ Some n → ClashFrom j ps d e n
unfolding first_clash
first_some j [] d e n h = let y : ◌≡◌ {A = ℕ} 0 1 = cc in absurd (omega arith)
first_some j (p ∷ ps) d e n h = go (clashes (slot_at d p) (slot_at e p)) refl (first_some (suc j) ps d e n)
  where
    go : (t : Bool) → clashes (slot_at d p) (slot_at e p) ≡ t → (first_clash (suc j) ps d e ≡ Some n → ClashFrom (suc j) ps d e n) → ClashFrom j (p ∷ ps) d e n
    go true q ih =
        let z : ◌≡◌ {A = Option ℕ} (Some j) (Some n) = subst (λ (t : Bool). cond t (Some j) (first_clash (suc j) ps d e) ≡ Some n) q h in
        let y : j ≡ n = cc in
        record {
          k = 0;
          at = add-zero j
              ∙ y;
          k-in = zero-lt-suc (length ps);
          here = clashes-yes (slot_at d p) (slot_at e p) q;
          before = λ i b c. not-suc-le-zero b;
        }
    go false q ih =
        let r = ih (subst (λ (t : Bool). cond t (Some j) (first_clash (suc j) ps d e) ≡ Some n) q h) in
        record { k = suc r.k; at = add-suc j r.k ∙ sym (suc-add j r.k) ∙ r.at; k-in = suc-le-suc r.k-in; here = r.here; before = earlier r }
      where
        earlier : (r : ClashFrom (suc j) ps d e n) (i : ℕ) → i < suc r.k → ClashAt (p ∷ ps) d e i → ⊥
        earlier r zero b c = clashes-no (slot_at d p) (slot_at e p) q c
        earlier r (suc i) b c = r.before i (le_of_suc-le-suc b) c
