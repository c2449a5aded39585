-- An input given as fields: the tests that judge it, and its bytes. Assumes nothing.
use Rattle.std.specs.Prelude.{Ok, Result}
use Rattle.std.specs.List.{IsAllAdjacentAnswer}
use Rattle.wire.specs.declared.Refusal.{Refusal}
use Prim.Native.Nat.{ℕ, zero, suc, ◌%◌, ◌^◌, ◌<◌}
use mathlib.Core.Path.{◌≡◌, refl, sym, ap, ap₂, ◌∙◌}
use mathlib.Core.Bool.{Bool, true, false, not}
use mathlib.Core.List.{List, [], ◌∷◌, ◌++◌, append_assoc, append-nil}
use native.Mathlib.Omega.{arith}
use native.Mathlib.Numerals.{add-one}
use native.Mathlib.Nat.{mod-eq_of_lt}
use lib.ListN.{length, get_or, take, length-append}
use lib.Seq.{take_at}
use lib.Dec.{ltb, eqb}
use borrow.Author.Tests.{eq-eqb, not-true, not-false}
use Rattle.wire.specs.Bytes.{pick, between, digits, below}
use Rattle.wire.specs.laws.Bytes.{length_digits}
use Rattle.wire.specs.Numbers.{rule_of, zero_amount, out_of_order, bytes_after_end}
use Rattle.wire.specs.Fields.{blob, integer, constant}
use Rattle.wire.specs.Sequence.{guard, items}
use Rattle.wire.specs.Series.{count_prefixed}
use Rattle.wire.specs.Parsers.{list_write}
use Rattle.wire.specs.Orders.{All}
use Rattle.wire.proofs.Bytes.{found, below-digits}
use Rattle.wire.proofs.Orders.{empty-below}
use Rattle.wire.proofs.Reading.{tests}
use Rattle.element.specs.Outputs as Outputs
use Rattle.element.specs.Inputs as Inputs
use Rattle.element.specs.Inputs.{input, input_after, key, spend}
use Rattle.writer_rules.specs.Judged.{refused_by, judged}
use Rattle.writer_rules.specs.Given.{input_of, input_given}
use Rattle.writer_rules.specs.code.Elements.{input_head, integers_bytes, rising, each_above}
use Rattle.writer_rules.proofs.Integers.{Words}
use Rattle.writer_rules.proofs.Judging.{blob-back, integer-back, rest_all, rest-as, field_back, test-alike, list_bytes, list_back}

-- ---- integers of 4 bytes

abbrev Narrow : ℕ → Type 0
Narrow n = n < 256 ^ 4

words-narrow : (l : List ℕ) → Words l → All Narrow l
words-narrow [] h = tt
words-narrow (n ∷ l) h = (omega (arith, h 0), words-narrow l (λ j. h (suc j)))

-- integers of 4 bytes are in the same order as their bytes
above-rising : (m : ℕ) (l : List ℕ) → Narrow m → All Narrow l → each_above (integer 4) (digits 4 m) l ≡ rising (m ∷ l)
unfolding each_above rising integer
above-rising m [] h k = refl
above-rising m (n ∷ l) h k = rw (below-digits 4 m n h k.0, above-rising n l k.0 k.1)

all-rising : (l : List ℕ) → All Narrow l → each_above (integer 4) [] l ≡ rising l
unfolding each_above rising integer
all-rising [] k = refl
all-rising (n ∷ l) k = rw (empty-below (digits 4 n) (omega (arith, length_digits 4 n)), above-rising n l k.0 k.1)

integers-written : (prev l : List ℕ) → list_bytes (integer 4) prev l ≡ integers_bytes l
unfolding items list_write guard integer integers_bytes
integers-written prev [] = refl
integers-written prev (n ∷ l) = ap (λ r. digits 4 n ++ r) (integers-written (digits 4 n) l)

-- what `is_sorted_by` answers
all-below : (l : List ℕ) → ((k : ℕ) → suc k < length l → true ≡ ltb (get_or l k 0) (get_or l (suc k) 0)) → true ≡ rising l
unfolding rising
all-below [] h = refl
all-below (m ∷ []) h = refl
all-below (m ∷ (n ∷ l)) h = rw (sym (h 0 (omega arith))) (all-below (n ∷ l) (λ k j. h (suc k) (omega arith)))

some-not : (l : List ℕ) (k : ℕ) → suc k < length l → false ≡ ltb (get_or l k 0) (get_or l (suc k) 0) → false ≡ rising l
unfolding rising
some-not [] k j h = absurd (omega arith)
some-not (m ∷ []) k j h = absurd (omega arith)
some-not (m ∷ (n ∷ l)) zero j h = rw (sym h)
some-not (m ∷ (n ∷ l)) (suc k) j h = rw (sym (some-not (n ∷ l) k (omega arith) h)) (cases (ltb m n))
  where
    cases : (b : Bool) → false ≡ pick b false false
    cases true = refl
    cases false = refl

pub sorted-rising : (l : List ℕ) (t : Bool) → IsAllAdjacentAnswer (λ x y b. b ≡ ltb x y) l t → t ≡ rising l
sorted-rising l true h = all-below l (λ k j. rw add-one at (h k 0 (omega arith)))
sorted-rising l false h = some-not l h.0 (omega (arith, h.1)) (rw add-one at (h.2 0))

-- ---- an input

module _ (txid : List ℕ) (index : ℕ) (asset : List ℕ) (amount : ℕ) (indices : List ℕ) where
  abbrev pub written : List ℕ
  written = (input []).write (input_of txid index asset amount indices)

  -- an input's bytes are its head and its indices
  pub written-input : written ≡ input_head txid index asset amount (length indices) ++ integers_bytes indices
  unfolding input_after key spend constant Outputs.amount Inputs.indices guard items integer blob input_head
  written-input = simp append_assoc (rw (integers-written [] indices))

  -- the input's bytes are the head that the code has built and the indices
  pub input-bytes : (head : List ℕ) → head ≡ input_head txid index asset amount (length indices % 256 ^ 4) → length indices < 256 ^ 4
      → (input_given txid index asset amount indices).bytes ≡ head ++ integers_bytes indices
  input-bytes head e h = written-input ∙ ap (λ r. r ++ integers_bytes indices) (sym (e ∙ ap (input_head txid index asset amount) (mod-eq_of_lt h)))

  module _ (prev : List ℕ) where
    -- the rules, in the order in which they are judged
    abbrev rules : List ℕ → Bool → Result (Unit {0}) Refusal
    rules id ordered =
        pick (below (take 36 prev) id)
        (pick (ltb 0 amount)
        (pick ordered
        (Ok tt)
        (refused_by (rule_of out_of_order))) (refused_by (rule_of zero_amount))) (refused_by (rule_of out_of_order))

    input-parse : length txid ≡ 32 → length asset ≡ 32 → All Narrow indices
        → (input prev).parse written 0 (λ e. refused_by e.rule) (λ a m. pick (eqb m (length written)) (Ok tt) (refused_by bytes_after_end)) ≡ rules
        (key.write (txid, index)) (each_above (integer 4) [] indices)
    unfolding input_after key spend constant Outputs.amount Inputs.indices count_prefixed guard
    input-parse h k narrow =
        let count : ℕ = length indices in
        let w : List ℕ = list_bytes (integer 4) [] indices in
        field_back (blob 32) txid (blob-back 32 txid h) written 0 _ _ _ _ (rest-as _ _ _ _ (append_assoc ((blob 32).write txid) _ _) (rest_all written)) λ r₁.
        field_back (integer 4) index (integer-back 3 index) written _ _ _ _ _ r₁ λ r₂.
        test-alike (below (take 36 prev) (key.write (txid, index))) _ _ _
        (field_back (blob 32) asset (blob-back 32 asset k) written _ _ _ _ _ r₂ λ r₃.
        field_back (integer 4) 5 (integer-back 3 5) written _ _ _ _ _ r₃ λ r₄.
        field_back (integer 8) amount (integer-back 7 amount) written _ _ _ _ _ r₄ λ r₅.
        test-alike (ltb 0 amount) _ _ _
        (field_back (integer 4) count (integer-back 3 count) written _ w _ _ _ r₅ λ r₆.
        let (p, e) = list_back (integer 4) Narrow (λ v h. integer-back 3 v) [] indices written _ [] _ _ narrow (r₆.there ∙ sym (append-nil w)) in
        e ∙ test-alike (each_above (integer 4) [] indices) _ _ _ (ap (λ b. pick b (Ok tt) (refused_by bytes_after_end)) (eq-eqb _ _ r₆.ends))))

    -- a verdict z reached by the code's tests is the verdict of the format
    pub as-input : (z : Result (Unit {0}) Refusal) → length txid ≡ 32 → length asset ≡ 32 → Words indices → z ≡ rules (txid ++ digits 4 index) (rising indices)
        → z ≡ judged (input prev) (input_given txid index asset amount indices) (Ok tt)
    unfolding judged key blob integer
    as-input z h k words e =
        let narrow = words-narrow indices words in
        e ∙ ap (rules (txid ++ digits 4 index)) (sym (all-rising indices narrow)) ∙ sym (input-parse h k narrow)

-- the verdict z, by what a call answered, t
module _ (t : Bool) (z x y : Result (Unit {0}) Refusal) where
  pub if-rise : (l : List ℕ) → t ≡ rising l → not t ≡ false → z ≡ x → z ≡ pick (rising l) x y
  if-rise l i j e = rw (found i (not-false t j)) e

  pub if-fall : (l : List ℕ) → t ≡ rising l → not t ≡ true → z ≡ y → z ≡ pick (rising l) x y
  if-fall l i j e = rw (found i (not-true t j)) e

  -- the key is the first 36 bytes of the head
  module _ (prev txid : List ℕ) (index : ℕ) (asset : List ℕ) (amount count : ℕ) (head p k : List ℕ) (h : length txid ≡ 32)
      (e : head ≡ input_head txid index asset amount count)
      (f : p ≡ between 0 36 prev) (g : k ≡ between 0 36 head) (i : t ≡ below p k) where
    key-found : below (take 36 prev) (txid ++ digits 4 index) ≡ t
    unfolding input_head
    key-found =
        let id : List ℕ = txid ++ digits 4 index in
        let wide : length id ≡ 36 = omega (arith, length-append txid (digits 4 index), length_digits 4 index) in
        let rest : List ℕ = asset ++ (digits 4 5 ++ (digits 8 amount ++ digits 4 count)) in
        let parts : input_head txid index asset amount count ≡ id ++ rest = simp append_assoc in
        sym (i ∙ ap₂ below f (g ∙ ap (take 36) (e ∙ parts) ∙ take_at id rest 36 wide))

    pub if-key : not t ≡ false → z ≡ x → z ≡ pick (below (take 36 prev) (txid ++ digits 4 index)) x y
    if-key j e = rw (key-found, not-false t j) e

    pub if-not-key : not t ≡ true → z ≡ y → z ≡ pick (below (take 36 prev) (txid ++ digits 4 index)) x y
    if-not-key j e = rw (key-found, not-true t j) e

pub ruleset of-input = (as-input, if-rise, if-fall, if-key, if-not-key, tests)
