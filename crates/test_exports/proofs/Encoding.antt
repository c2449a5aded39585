-- The answer of the check with a lent table as one integer, and the answer of a fill as two. Assumes nothing.
use Rattle.std.specs.Prelude.{Ok, Err, Result}
use Prim.Native.Nat.{ℕ, ◌+◌, ◌*◌, ◌%◌}
use native.Mathlib.Nat.{zero-add}
use mathlib.Core.Path.{◌≡◌, sym, ap, ◌∙◌}
use mathlib.Core.List.{List, [], ◌∷◌}
use Rattle.wire.specs.declared.Refusal.{Refusal}
use Rattle.wire.specs.Numbers.{number_of}
use Rattle.transaction.specs.Answer.{memo_most}
use Rattle.entry_table.specs.Table.{filled, tabled}
use Rattle.test_exports.specs.code.Encoded.{exported_table, encoded_table, encoded_fill}

-- x is what the check answered, and u what the table holds then
module _ (s t u : List ℕ) (x : Result (ℕ × ℕ) Refusal) (p : filled x u ≡ tabled memo_most s t) where
  pub listed-encoded : (n end : ℕ) → x ≡ Ok (n, end) → exported_table (n % 1048576 * 1048576 + end % 1048576) u ≡ encoded_table (tabled memo_most s t)
  listed-encoded n end q = ap (λ (m : ℕ). exported_table m u) (sym (zero-add _)) ∙ sym (ap (λ y. encoded_table (filled y u)) q) ∙ ap encoded_table p

  pub refused-encoded : (e : Refusal) → x ≡ Err e → (n : ℕ) → n ≡ number_of e
      → exported_table (n % 1048576 * 1099511627776 + e.place % 1048576) u ≡ encoded_table (tabled memo_most s t)
  refused-encoded e q n h =
      ap (λ (i : ℕ). exported_table (i % 1048576 * 1099511627776 + e.place % 1048576) u) h
      ∙ ap (λ (m : ℕ). exported_table (number_of e % 1048576 * 1099511627776 + m) u) (sym (zero-add _)) ∙ sym (ap (λ y. encoded_table (filled y u)) q)
      ∙ ap encoded_table p

pub ruleset encoding = (listed-encoded, refused-encoded)

-- x is what the fill answered, and d what the draft holds then
module _ (x : Result ℕ Refusal) (d : List ℕ) (f : Result ℕ Refusal × List ℕ) (p : (x, d) ≡ f) where
  pub done-encoded : (n : ℕ) → x ≡ Ok n → (0 ∷ n ∷ [], d) ≡ encoded_fill f
  done-encoded n q = sym (ap (λ y. encoded_fill (y, d)) q) ∙ ap encoded_fill p

  pub refused-fill : (e : Refusal) → x ≡ Err e → (n : ℕ) → n ≡ number_of e → (n ∷ e.place ∷ [], d) ≡ encoded_fill f
  refused-fill e q n h = ap (λ (i : ℕ). (i ∷ e.place ∷ [], d)) h ∙ sym (ap (λ y. encoded_fill (y, d)) q) ∙ ap encoded_fill p

pub ruleset filling = (done-encoded, refused-fill)
