-- Case analysis of verdicts. Assumes nothing.
use Rattle.std.specs.Prelude.{Ok, Err, Result}
use Prim.Native.Nat.{ℕ}
use mathlib.Core.Path.{◌≡◌, refl, sym, ap, ◌∙◌}
use mathlib.Core.Bool.{Bool, true, false, ◌&&◌}
use mathlib.Core.List.{[], ◌++◌, append-nil}
use native.Mathlib.Omega.{arith}
use native.Mathlib.Nat.{zero-add}
use lib.ListN.{length}
use lib.Seq.{drop-length}
use lib.Dec.{eqb}
use borrow.Author.Tests.{eqb-true, eq-eqb}
use Rattle.wire.specs.Bytes.{Bytes, pick}
use Rattle.wire.specs.declared.Rule.{Rule}
use Rattle.wire.specs.declared.Refusal.{Refusal}
use Rattle.wire.specs.Numbers.{refusal, rule_of, cut_short, bytes_after_end}
use Rattle.wire.specs.Format.{Format, Parsed, took, refused, on_result, read}
use Rattle.writer_rules.specs.Given.{Given, given}
use Rattle.writer_rules.specs.Judged.{refused_by, judged}
use Rattle.writer_rules.specs.code.Judged.{on_allowed}

pub not-fine : {P : Type 0} (d : Refusal) → ◌≡◌ {A = Result (Unit {0}) Refusal} (Err d) (Ok tt) → P
not-fine d e = absurd cc

pub pick-fine : (t : Bool) (v : Result (Unit {0}) Refusal) (x : Rule) → pick t v (refused_by x) ≡ (Ok tt) → (t ≡ true) × (v ≡ (Ok tt))
pick-fine true v x e = (refl, e)
pick-fine false v x e = not-fine (refusal x 0) e

pub both_true : (a b : Bool) → (a && b) ≡ true → (a ≡ true) × (b ≡ true)
both_true true b e = (refl, e)
both_true false b e = let z : ◌≡◌ {A = ℕ} 0 1 = cc in absurd (omega arith)

-- ---- the verdict on bytes that are given

module _ {A : Type 0} (F : Format A) (g : Given) (v : Result (Unit {0}) Refusal) where
  -- the verdict that follows from a result
  abbrev pub verdict_of : Parsed A → Result (Unit {0}) Refusal
  verdict_of o = on_result o (λ e. refused_by e.rule) (λ a m. pick (eqb m (length g.bytes)) v (refused_by bytes_after_end))

  pub judged-read : judged F g v ≡ pick g.whole (verdict_of (read F g.bytes 0)) (refused_by (rule_of cut_short))
  unfolding judged
  judged-read = ap (λ x. pick g.whole x (refused_by (rule_of cut_short)))
      (F.same g.bytes 0 (λ e. refused_by e.rule) (λ a m. pick (eqb m (length g.bytes)) v (refused_by bytes_after_end)))

  result-fine : (o : Parsed A) → verdict_of o ≡ (Ok tt) → (a : A) × (o ≡ took a (length g.bytes)) × (v ≡ (Ok tt))
  result-fine (took a m) e =
      let (t, h) = pick-fine (eqb m (length g.bytes)) v bytes_after_end e in
      (a, ap (took a) (eqb-true m (length g.bytes) t), h)
  result-fine (refused d) e = not-fine (refusal d.rule 0) e

  took-fine : judged F g v ≡ (Ok tt) → (a : A) × (read F g.bytes 0 ≡ took a (length g.bytes)) × (v ≡ (Ok tt))
  took-fine e = result-fine (read F g.bytes 0) (pick-fine g.whole _ (rule_of cut_short) (sym judged-read ∙ e)).1

  pub judged-whole : judged F g v ≡ (Ok tt) → g.whole ≡ true
  judged-whole e = (pick-fine g.whole _ (rule_of cut_short) (sym judged-read ∙ e)).0

  pub judged-then : judged F g v ≡ (Ok tt) → v ≡ (Ok tt)
  judged-then e = (took-fine e).2

  -- bytes that are allowed are those of a good value
  pub judged-inv : judged F g v ≡ (Ok tt) → Bytes g.bytes → (a : A) × F.Good a × (F.write a ≡ g.bytes)
  judged-inv e bs =
      let (a, r, _) = took-fine e in
      let (good, st) = F.sound g.bytes 0 a (length g.bytes) bs r in
      (a, good, sym (st.there ∙ ap (λ x. F.write a ++ x) (drop-length g.bytes) ∙ append-nil (F.write a)))

-- the bytes of a good value keep every rule of the format: the verdict on them is v
pub judged-own : {A : Type 0} (F : Format A) (a : A) (v : Result (Unit {0}) Refusal) → F.Good a → judged F (given (F.write a)) v ≡ v
unfolding judged
judged-own F a v h =
    F.complete (F.write a) 0 a [] _ _ h (sym (append-nil (F.write a))) ∙ rw (zero-add, eq-eqb (length (F.write a)) (length (F.write a)) refl)

pub judged-on : {A : Type 0} (F : Format A) (g : Given) (u : Result (Unit {0}) Refusal) → judged F g u ≡ on_allowed (judged F g (Ok tt)) u
judged-on {A} F g u = judged-read F g u ∙ go g.whole (read F g.bytes 0) ∙ ap (λ (v : Result (Unit {0}) Refusal). on_allowed v u) (sym (judged-read F g (Ok tt)))
  where
    left_over : (b : Bool) → pick b u (refused_by bytes_after_end) ≡ on_allowed (pick b (Ok tt) (refused_by bytes_after_end)) u
    left_over true = refl
    left_over false = refl

    go : (t : Bool) (o : Parsed A)
        → pick t (on_result o (λ e. refused_by e.rule) (λ a m. pick (eqb m (length g.bytes)) u (refused_by bytes_after_end))) (refused_by (rule_of cut_short))
        ≡ on_allowed (pick t (on_result o (λ e. refused_by e.rule) (λ a m. pick (eqb m (length g.bytes)) (Ok tt) (refused_by bytes_after_end)))
        (refused_by (rule_of cut_short))) u
    go true (took a m) = left_over (eqb m (length g.bytes))
    go true (refused e) = refl
    go false o = refl
