-- When a step passes its first tests, and what its answer preserves. Assumes nothing.
use Rattle.std.specs.Prelude.{Ok, Err, Result}
use Rattle.wire.specs.declared.Refusal.{Refusal}
use Prim.Native.Nat.{ℕ, ◌≤◌, ◌<◌}
use mathlib.Core.Path.{◌≡◌, refl, sym, ap, ◌∙◌}
use mathlib.Core.Bool.{Bool, true, false, not}
use mathlib.Core.List.{List}
use lib.ListN.{length}
use lib.Dec.{leb}
use borrow.Author.Tests.{leb-true, leb-false, le-leb, lt-leb}
use Rattle.wire.specs.Numbers.{refusal, no_room, step_not_due}
use Rattle.wire.specs.Bytes.{pick}
use Rattle.writer_rules.specs.Judged.{refused_by}
use Rattle.writer_rules.proofs.Verdicts.{pick-fine}
use Rattle.writer.specs.declared.Writer.{Writer}
use Rattle.writer.specs.Steps.{answered, guarded, guarded_in}

pub guarded-inv : (t : Bool) (w : Writer) (s : List ℕ) (v : Result (Unit {0}) Refusal) → guarded t w s v ≡ (Ok tt)
    → (t ≡ true) × (w.at ≤ length s) × (v ≡ (Ok tt))
guarded-inv t w s v e =
    let (a, e₁) = pick-fine t _ step_not_due e in
    let (b, e₂) = pick-fine (leb w.at (length s)) v no_room e₁ in
    (a, leb-true w.at (length s) b, e₂)

pub guarded-fine : (t : Bool) (w : Writer) (s : List ℕ) (v : Result (Unit {0}) Refusal) → t ≡ true → w.at ≤ length s → guarded t w s v ≡ v
guarded-fine t w s v a b = rw (a, le-leb w.at (length s) b)

pub guarded-not : (t : Bool) (w : Writer) (s : List ℕ) (v : Result (Unit {0}) Refusal) → t ≡ false → guarded t w s v ≡ refused_by step_not_due
guarded-not t w s v e = rw e

pub guarded-short : (t : Bool) (w : Writer) (s : List ℕ) (v : Result (Unit {0}) Refusal) → t ≡ true → length s < w.at → guarded t w s v ≡ refused_by no_room
guarded-short t w s v e h = rw (e, lt-leb w.at (length s) h)

-- ---- the first tests of a step, as the code makes them: t says whether it is due, n is the buffer's length

module _ (t : Bool) (w : Writer) (n : ℕ) (x : Result (Unit {0}) Refusal) (p : x ≡ guarded_in t w n (Ok tt)) where
  pub ready-is : x ≡ (Ok tt) → t ≡ true
  ready-is e = (pick-fine t _ step_not_due (sym p ∙ e)).0

  pub ready-due : x ≡ (Ok tt) → not t ≡ false
  ready-due e = ap not (ready-is e)

  pub ready-long : x ≡ (Ok tt) → w.at ≤ n
  ready-long e = leb-true w.at n (pick-fine (leb w.at n) _ no_room (pick-fine t _ step_not_due (sym p ∙ e)).1).0

  pub by-unready : {P : Type 0} (d : Refusal) → x ≡ Err d → (t ≡ false → d ≡ refusal step_not_due 0 → P)
      → (t ≡ true → n < w.at → d ≡ refusal no_room 0 → P) → P
  by-unready {P} d e not-due short = go t refl (leb w.at n) refl (sym p ∙ e)
    where
      go : (a : Bool) → t ≡ a → (b : Bool) → leb w.at n ≡ b → pick a (pick b (Ok tt) (refused_by no_room)) (refused_by step_not_due) ≡ Err d → P
      go false h b k i = not-due h cc
      go true h false k i = short h (leb-false w.at n k) cc
      go true h true k i = absurd cc

pub ruleset readied = (ready-due, ready-long)

-- P holds of state and buffer after the step if it holds before and, where the step is done, of what the step leaves
pub answered-keeps : (P : Writer → List ℕ → Type 1) (v : Result (Unit {0}) Refusal) (w : Writer) (s : List ℕ) (w' : Writer) (s' : List ℕ) → P w s
    → (v ≡ (Ok tt) → P w' s')
    → P (answered v w s w' s').step.next (answered v w s w' s').buffer
unfolding answered
answered-keeps P (Ok tt) w s w' s' h k = k refl
answered-keeps P (Err d) w s w' s' h k = h

-- ---- a negated test

pub not-true : (t : Bool) → not t ≡ true → t ≡ false
not-true true e = sym e
not-true false e = refl

pub not-false : (t : Bool) → not t ≡ false → t ≡ true
not-false true e = refl
not-false false e = sym e
