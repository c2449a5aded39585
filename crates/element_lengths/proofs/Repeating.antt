-- A loop that repeats a step. Assumes nothing.
use Rattle.std.specs.Prelude.{Ok, Err, Result}
use Prim.Native.Nat.{ℕ, zero, suc, ◌+◌, ◌-◌, ◌≤◌, ◌<◌}
use mathlib.Core.Path.{◌≡◌, refl, ap, ◌∙◌}
use mathlib.Core.List.{List}
use native.Mathlib.Omega.{arith}
use native.Mathlib.Numerals.{sub-one}
use Rattle.std.proofs.Math.Nat.{sub-zero}
use Rattle.wire.specs.declared.Refusal.{Refusal}
use Rattle.wire.specs.Format.{Format}
use Rattle.wire.specs.laws.Format.{parse-inv, moved}
use Rattle.wire.specs.Sequence.{items}
use Rattle.wire.specs.Parsers.{list_parse}
use Rattle.wire.specs.laws.Items.{list-inv}
use Rattle.wire.proofs.Passing.{Yields, Leads, next, Each}
use Rattle.element_lengths.specs.code.Lengths.{Onto, Repeated}

module _ (Step : ℕ → Result ℕ Refusal → Type 0) where
  -- what the n steps that are left answer, from `at` on, all c steps answer from `start`
  unfoldable pub Goes : ℕ → ℕ → ℕ → ℕ → Type 0
  Goes n at c start = (z : Result ℕ Refusal) → Repeated Step n at z → Repeated Step c start z

  pub goes-start : (c start : ℕ) → Goes (c - 0) start c start
  unfolding Goes
  goes-start c start z h = rw sub-zero at h

  module _ (i at c start : ℕ) (o : Goes (c - i) at c start) where
    pub goes-end : c ≤ i → Repeated Step c start (Ok at)
    unfolding Goes
    goes-end l = o (Ok at) (none (c - i) (omega arith))
      where
        none : (n : ℕ) → n ≡ 0 → Repeated Step n at (Ok at)
        none zero l = refl
        none (suc n) l = absurd (omega arith)

    module _ (x : Result ℕ Refusal) (p : Step at x) (l : i < c) where
      turn : (n : ℕ) → 0 < n → (z : Result ℕ Refusal) → Onto x z (λ m. Repeated Step (n - 1) m z) → Repeated Step n at z
      turn zero k z h = absurd (omega arith)
      turn (suc n) k z h = (x, (p, rw sub-one at h))

      pub goes-turn : (m : ℕ) → x ≡ Ok m → Goes (c - (i + 1)) m c start
      unfolding Goes
      goes-turn m q z h =
          let k : c - (i + 1) ≡ c - i - 1 = omega arith in
          o z (turn (c - i) (omega arith) z (rw q (rw k at h)))

      pub goes-refused : (e : Refusal) (z : Result ℕ Refusal) → x ≡ Err e → z ≡ Err e → Repeated Step c start z
      unfolding Goes
      goes-refused e z q r = o z (turn (c - i) (omega arith) z (rw q r))

-- what skips each element of a list skips the list
module _ {A S : Type 0} (E : S → Format A) (step : S → A → S) (s : List ℕ) (Step : ℕ → Result ℕ Refusal → Type 0)
    (each : (at : ℕ) (x : Result ℕ Refusal) → Step at x → Each E step s at x) where
  pub repeats : (c at : ℕ) (z : Result ℕ Refusal) → Repeated Step c at z → (st : S) → Leads (items E step st c) s at next z
  unfolding Yields Each items list_parse
  repeats zero at z h st v k e = let i : at ≡ k = cc in h ∙ ap Ok i
  repeats (suc n) at z (x, (p, h)) st v k r =
      let (a, j, ea, e₁) = parse-inv (E st) s at _ v k r in
      let (t, l, et, e₂) = list-inv E step n (step st a) s j _ v k e₁ in
      moved (λ (w : List A) y. z ≡ Ok y) e₂ (repeats n j z (rw (each at x p st a j ea) at h) (step st a) t l et)

pub ruleset repeating = (goes-start, goes-end, goes-turn, goes-refused)
