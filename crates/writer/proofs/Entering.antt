-- The tests that a step makes first. Assumes nothing.
use Rattle.std.specs.Prelude.{Err, Result}
use Prim.Native.Nat.{ℕ}
use mathlib.Core.Path.{◌≡◌, ap}
use mathlib.Core.List.{List, []}
use borrow.Author.Tests.{ne_eqb}
use Rattle.wire.specs.Bytes.{between}
use Rattle.wire.specs.declared.Refusal.{Refusal}
use Rattle.writer.specs.declared.Writer.{Writer}
use Rattle.writer.specs.declared.Step.{Step}
use Rattle.writer.specs.Steps.{answered, prev, after}
use Rattle.writer.specs.code.Answer.{refused_step}

-- ---- the element before

module _ (w : Writer) (s : List ℕ) where
  pub no_last : w.count ≡ 0 → [] ≡ prev w s
  unfolding prev
  no_last e = rw e

  pub last-there : (t : List ℕ) → t ≡ between w.last w.at s → (w.count ≡ 0 → ⊥) → t ≡ prev w s
  unfolding prev
  last-there t h e = rw (ne_eqb w.count 0 e) h

-- ---- a step that is refused

-- a step answers the refusal that its verdict gives, and changes nothing
pub kept_out : (w : Writer) (s : List ℕ) (v : Result (Unit {0}) Refusal) (w' : Writer) (s' : List ℕ) (d : Refusal) → v ≡ Err d → (r : Step)
    → r ≡ refused_step w d
    → after r s ≡ answered v w s w' s'
unfolding answered
kept_out w s v w' s' d e r h = rw e (ap (λ (y : Step). after y s) h)
