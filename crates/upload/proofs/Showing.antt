-- What a piece is answered, and the check's answer behind it. Assumes nothing.
use Rattle.std.specs.Prelude.{Ok, Err, Result, Option, None, Some}
use Rattle.transaction.specs.declared.Layout.{Layout}
use Prim.Native.Nat.{ℕ, ◌≤◌}
use mathlib.Core.Path.{◌≡◌, refl, sym, ap, ◌∙◌}
use mathlib.Core.Bool.{Bool, true, false}
use mathlib.Core.List.{List, ◌++◌}
use native.Mathlib.Omega.{arith}
use lib.Dec.{eqb}
use lib.ListN.{length}
use borrow.Author.Tests.{eqb-true, eqb-false, eq-eqb}
use Rattle.wire.specs.Bytes.{Bytes, pick}
use Rattle.wire.specs.declared.Refusal.{Refusal}
use Rattle.wire.specs.Numbers.{rule_number, number_of}
use Rattle.wire.proofs.Numbers.{number-range}
use Rattle.wire.specs.Format.{Parsed, on_result}
use Rattle.wire.proofs.Whole.{whole-stable}
use Rattle.transaction.specs.Signed.{most_bytes}
use Rattle.transaction.specs.Signed as AnySigned
use Rattle.transaction.specs.Family.{Signed, signed}
use Rattle.transaction.specs.Avm.{avm}
use Rattle.transaction.specs.Answer.{layout, checked, checked_number}
use Rattle.transaction.proofs.Verdicts.{refused-check}
use Rattle.upload.specs.declared.Upload.{Upload}
use Rattle.upload.specs.Calls.{standing_number, shown, kept, verdict, grown, piece_call}

-- nothing and a refusal do not stand at once
pub not-both : {A : Type 0} (x : Option Refusal) (e : Refusal) → x ≡ None → x ≡ Some e → A
not-both x e p q = let z : ◌≡◌ {A = ℕ} 0 1 = cc in absurd (omega arith)

-- ---- the check's answer as a piece shows it

pub shown-0 : (x : Result (Layout × ℕ) Refusal) → checked_number x ≡ 0 → shown x ≡ None
unfolding shown
shown-0 (Ok (w, n)) h = refl
shown-0 (Err e) h = absurd (omega (arith, (number-range e.rule).0))

pub shown-2 : (x : Result (Layout × ℕ) Refusal) → checked_number x ≡ 2 → shown x ≡ None
unfolding shown
shown-2 (Ok (w, n)) h = refl
shown-2 (Err e) h = rw (eq-eqb (number_of e) 2 h)

-- a refusal keeps its number: 2 is need more's
pub shown-number : (e : Refusal) → standing_number (shown (Err e)) ≡ number_of e
unfolding shown
shown-number e = go (eqb (number_of e) 2) refl
  where
    go : (b : Bool) → eqb (number_of e) 2 ≡ b → standing_number (pick b None (Some e)) ≡ number_of e
    go true q = sym (eqb-true (number_of e) 2 q)
    go false q = refl

-- a refusal that is shown is the check's, and not 2
pub shown-inv : (x : Result (Layout × ℕ) Refusal) (e : Refusal) → shown x ≡ Some e → (x ≡ Err e) × (number_of e ≡ 2 → ⊥)
unfolding shown
shown-inv (Ok (w, n)) e h = not-both None e refl h
shown-inv (Err d) e h = go (eqb (number_of d) 2) refl h
  where
    go : (b : Bool) → eqb (number_of d) 2 ≡ b → pick b None (Some d) ≡ Some e
        → (◌≡◌ {A = Result (Layout × ℕ) Refusal} (Err d) (Err e)) × (number_of e ≡ 2 → ⊥)
    go true q h = not-both None e refl h
    go false q h = let z : d ≡ e = cc in (ap Err z, λ i. eqb-false (number_of d) 2 q (ap number_of z ∙ i))

-- a refusal other than 2 stays when bytes follow, if they are still at most 65,536
pub checked-stable : (most : ℕ) (b t : List ℕ) (e : Refusal) → Bytes b → (number_of e ≡ 2 → ⊥) → length (b ++ t) ≤ most_bytes
    → checked most b ≡ Err e
    → checked most (b ++ t) ≡ Err e
unfolding AnySigned.check
checked-stable most b t e bs ne h q =
    ap (λ (o : Parsed (Signed (avm most))). on_result o Err (λ v n. Ok (layout most v.0, n)))
    (whole-stable (signed (avm most)) most_bytes b t e bs (λ z. ne (ap rule_number z)) h (refused-check most b e (sym q)))

-- ---- one piece

pub grown-standing : (x : Option Refusal) (n k : ℕ) → (grown x n k).standing ≡ x
grown-standing None n k = refl
grown-standing (Some e) n k = refl

module _ (most : ℕ) (u : Upload) (s p : List ℕ) where
  -- where nothing stands the piece is judged
  pub piece_is : u.standing ≡ None
      → piece_call most u s p ≡ (grown (verdict most u.stored p s) u.stored (length p), (kept (verdict most u.stored p s) u.stored p s).1)
  unfolding piece_call
  piece_is q = rw q

  pub answer-is : u.standing ≡ None → (piece_call most u s p).0.standing ≡ verdict most u.stored p s
  answer-is q =
      ap (λ (a : Upload × List ℕ). a.0.standing) (piece_is q) ∙ grown-standing (verdict most u.stored p s) u.stored (length p)
