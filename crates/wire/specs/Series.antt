-- Lists of n elements, each read given the bytes of the element before; the two orders; a list after its count. Assumes nothing.
use Rattle.std.specs.Prelude.{refl, ℕ, not, length}
use Rattle.std.proofs.Math.Path.{ap}
use mathlib.Core.List.{List, []}
use Rattle.wire.specs.Bytes.{below}
use Rattle.wire.specs.Numbers.{out_of_order}
use Rattle.wire.specs.Format.{Format}
use Rattle.wire.specs.Sequence.{and_then, guard, named, items}
use Rattle.wire.specs.laws.Sizes.{items-sized}

-- ---- n elements, each read given the bytes of the element before; the first is given [], which is below every other string

module _ {A : Type 0} (E : List ℕ → Format A) where
  abbrev pub left : List ℕ → A → List ℕ
  left prev a = (E prev).write a

  abbrev pub series_from : List ℕ → ℕ → Format (List A)
  series_from prev n = items E left prev n

  abbrev pub series : ℕ → Format (List A)
  series n = series_from [] n

-- an element that is strictly above `prev`: all of its written bytes are compared
abbrev pub above : {A : Type 0} → Format A → List ℕ → Format A
above F prev = guard F (λ a. below prev (F.write a)) out_of_order

-- an element that is not below `prev`, compared in the same way
abbrev pub not_below : {A : Type 0} → Format A → List ℕ → Format A
not_below F prev = guard F (λ a. not (below (F.write a) prev)) out_of_order

abbrev pub increasing : {A : Type 0} → Format A → ℕ → Format (List A)
increasing F = series (above F)

abbrev pub nondecreasing : {A : Type 0} → Format A → ℕ → Format (List A)
nondecreasing F = series (not_below F)

-- elements in any order
abbrev pub unordered : {A : Type 0} → Format A → ℕ → Format (List A)
unordered F = series (λ prev. F)

-- ---- a count, then that many elements

module _ {A : Type 0} (C : Format ℕ) (E : List ℕ → Format A) where
  unfoldable pub count_prefixed : Format (List A)
  unfolding and_then named
  count_prefixed =
      named (and_then C (series E)) (λ v. v.1) (λ l. (length l, l))
      (λ v h. ap (λ (k : ℕ). (k, v.1)) (items-sized E (left E) [] v.0 v.1 h.1))
      (λ l. refl)
