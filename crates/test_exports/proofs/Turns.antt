-- A step's answer as integers. Assumes nothing.
use Rattle.std.specs.Prelude.{Ok, Err, Result}
use Prim.Native.Nat.{ℕ}
use mathlib.Core.Path.{◌≡◌, sym, ap, ◌∙◌}
use mathlib.Core.List.{List}
use Rattle.wire.specs.declared.Refusal.{Refusal}
use Rattle.wire.specs.Numbers.{number_of}
use Rattle.writer.specs.declared.Writer.{Writer}
use Rattle.writer.specs.declared.Step.{Step}
use Rattle.writer.specs.Steps.{Turn, written_number, written_place, after}
use Rattle.test_exports.specs.code.Turns.{numbers_of, encoded_step, exported_turn, encoded_turn}

abbrev encoded_answer : Writer → Result ℕ Refusal → List ℕ
encoded_answer w a = numbers_of w (written_number a) (written_place a)

pub done-encoded : (w : Writer) (a : Result ℕ Refusal) (n : ℕ) → a ≡ Ok n → (m : List ℕ) → m ≡ numbers_of w 0 n → m ≡ encoded_answer w a
done-encoded w a n q m h = h ∙ sym (ap (encoded_answer w) q)

pub refused-encoded : (w : Writer) (a : Result ℕ Refusal) (e : Refusal) → a ≡ Err e → (n : ℕ) → n ≡ number_of e → (m : List ℕ) → m ≡ numbers_of w n e.place
    → m ≡ encoded_answer w a
refused-encoded w a e q n k m h = h ∙ ap (λ (i : ℕ). numbers_of w i e.place) k ∙ sym (ap (encoded_answer w) q)

pub ruleset encoding = (done-encoded, refused-encoded)

-- f is the step's definition, v the state that the integers encode, and r the answer of the step's method
step-encoded : (f : Writer → Turn) (v w : Writer) (r : Step) (m b : List ℕ) → w ≡ v → after r b ≡ f w → m ≡ encoded_step r
    → exported_turn m b ≡ encoded_turn (f v)
step-encoded f v w r m b h t e = rw e (ap encoded_turn t ∙ ap (λ x. encoded_turn (f x)) h)

-- The same for each number of arguments besides the state and the buffer s, so that `search` reads all of them off the goal
pub step-of-none : (f : Writer → List ℕ → Turn) (v w : Writer) (r : Step) (m b s : List ℕ) → w ≡ v
    → after r b ≡ f w s → m ≡ encoded_step r → exported_turn m b ≡ encoded_turn (f v s)
step-of-none f v w r m b s = step-encoded (λ q. f q s) v w r m b

pub step-of-one : {X : Type 0} (f : Writer → List ℕ → X → Turn) (v w : Writer) (r : Step) (m b s : List ℕ) (x : X) → w ≡ v
    → after r b ≡ f w s x → m ≡ encoded_step r → exported_turn m b ≡ encoded_turn (f v s x)
step-of-one f v w r m b s x = step-encoded (λ q. f q s x) v w r m b

pub step-of-three : {X Y Z : Type 0} (f : Writer → List ℕ → X → Y → Z → Turn) (v w : Writer) (r : Step) (m b s : List ℕ) (x : X) (y : Y) (z : Z) → w ≡ v
    → after r b ≡ f w s x y z → m ≡ encoded_step r → exported_turn m b ≡ encoded_turn (f v s x y z)
step-of-three f v w r m b s x y z = step-encoded (λ q. f q s x y z) v w r m b

pub step-of-five : {X Y Z T U : Type 0} (f : Writer → List ℕ → X → Y → Z → T → U → Turn) (v w : Writer) (r : Step) (m b s : List ℕ)
    (x : X) (y : Y) (z : Z) (t : T) (u : U) → w ≡ v → after r b ≡ f w s x y z t u → m ≡ encoded_step r → exported_turn m b ≡ encoded_turn (f v s x y z t u)
step-of-five f v w r m b s x y z t u = step-encoded (λ q. f q s x y z t u) v w r m b
