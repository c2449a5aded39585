-- What `?`, `.ok()` and `.ok_or()` make of an answer, and answers of two parts. Assumes nothing.
use Rattle.std.proofs.Common.{◌≡◌, ℕ, Result, Ok, Err, Option, Some, None, refl, sym, ap, ◌∙◌, arith}
use Rattle.std.specs.Prelude.{ok_or}
use Rattle.std.specs.Result.{IsErr, IsErrAnd, result_ok}

-- the error that `?` returns, where its type stays
pub passed-on : {T E : Type 0} (z : Result T E) (e : E) → IsErr z × IsErrAnd z (λ d. d ≡ e) → z ≡ Err e
passed-on (Ok t) e h = absurd h.1
passed-on (Err d) e h = ap Err h.1

-- two answers of two parts are the same only if their parts are
pub same-parts : {A B E : Type 0} {a c : A} {b d : B} → ◌≡◌ {A = Result (A × B) E} (Ok (a, b)) (Ok (c, d)) → (a ≡ c) × (b ≡ d)
same-parts {A} {B} {E} {a} {c} {b} {d} e = let p : ◌≡◌ {A = A × B} (a, b) (c, d) = cc in (ap (λ (q : A × B). q.0) p, ap (λ (q : A × B). q.1) p)

apart : {T E : Type 0} (t : T) (e : E) → ◌≡◌ {A = Result T E} (Err e) (Ok t) → ⊥
apart t e h = let z : ◌≡◌ {A = ℕ} 0 1 = cc in omega arith

-- `x.ok()` is y
module _ {T E : Type 0} (x : Result T E) (y : Option T) (h : y ≡ result_ok x) where
  pub ok-some : (t : T) → y ≡ Some t → x ≡ Ok t
  ok-some t q = cases x (sym h ∙ q)
    where
      cases : (x : Result T E) → result_ok x ≡ Some t → x ≡ Ok t
      cases (Ok u) p = ap Ok cc
      cases (Err e) p = let z : ◌≡◌ {A = ℕ} 0 1 = cc in absurd (omega arith)

  pub ok-none : y ≡ None → (e : E) × (x ≡ Err e)
  ok-none q = cases x (sym h ∙ q)
    where
      cases : (x : Result T E) → result_ok x ≡ None → (e : E) × (x ≡ Err e)
      cases (Ok u) p = let z : ◌≡◌ {A = ℕ} 0 1 = cc in absurd (omega arith)
      cases (Err e) p = (e, refl)

-- `y.ok_or(f)` is x
module _ {T E : Type 0} (y : Option T) (f : E) (x : Result T E) (h : x ≡ ok_or y f) where
  pub some-ok : (t : T) → x ≡ Ok t → y ≡ Some t
  some-ok t q = cases y (sym q ∙ h)
    where
      cases : (y : Option T) → ◌≡◌ {A = Result T E} (Ok t) (ok_or y f) → y ≡ Some t
      cases (Some u) p = let k : t ≡ u = cc in ap Some (sym k)
      cases None p = absurd (apart t f (sym p))

  pub none-err : (e : E) → x ≡ Err e → (y ≡ None) × (e ≡ f)
  none-err e q = cases y (sym q ∙ h)
    where
      cases : (y : Option T) → ◌≡◌ {A = Result T E} (Err e) (ok_or y f) → (y ≡ None) × (e ≡ f)
      cases (Some u) p = absurd (apart u e p)
      cases None p = (refl, cc)
