-- An output given as fields: the tests that judge it, and its bytes. Assumes nothing.
use Rattle.std.specs.Prelude.{Ok, Err, Result, is_ok}
use Prim.Native.Nat.{ℕ, zero, suc, ◌+◌, ◌*◌, ◌/◌, ◌%◌, ◌^◌, ◌≤◌, ◌<◌}
use mathlib.Core.Path.{◌≡◌, refl, sym, ap, ◌∙◌}
use mathlib.Core.Bool.{Bool, true, false, not}
use mathlib.Core.List.{List, [], ◌++◌, append_assoc, append-nil}
use native.Mathlib.Omega.{arith}
use native.Mathlib.Nat.{div-add-mod', mod-eq_of_lt}
use lib.ListN.{length, take, drop, length-drop, take-append-drop, drop_of_length-le}
use lib.Seq.{length-take-le, drop-drop}
use lib.Dec.{ltb, eqb}
use borrow.Author.Tests.{eq-eqb, eqb-true, not-true, not-false}
use Rattle.wire.specs.declared.Refusal.{Refusal}
use Rattle.wire.specs.Bytes.{pick, below}
use Rattle.wire.specs.Numbers.{rule_of, by, cut_short, zero_amount, out_of_order, bad_threshold, bytes_after_end}
use Rattle.wire.specs.Fields.{blob, integer}
use Rattle.wire.specs.Sequence.{guard, items}
use Rattle.wire.specs.Series.{not_below, increasing}
use Rattle.wire.specs.Parsers.{list_write}
use Rattle.wire.specs.Orders.{All}
use Rattle.wire.specs.code.Answer.{ended}
use Rattle.wire.proofs.Bytes.{found}
use Rattle.wire.proofs.Reading.{tests}
use Rattle.owners.specs.Owners.{owners, threshold_fits}
use Rattle.owners.proofs.Reading.{if-fits, if-unfit}
use Rattle.element.specs.Outputs as Outputs
use Rattle.element.specs.Outputs.{transfer_body, output, transferable_output}
use Rattle.writer_rules.specs.Judged.{refused_by, judged}
use Rattle.writer_rules.specs.Given.{addresses_of, output_of, output_given}
use Rattle.writer_rules.specs.code.Elements.{output_front, output_head, each_above}
use Rattle.writer_rules.proofs.Judging.{blob-back, integer-back, rest_all, rest-as, field_back, test-alike, list_bytes, list_back}

-- ---- addresses, one after the other

-- the addresses of a slice that are complete
abbrev list_of : List ℕ → List (List ℕ)
list_of s = addresses_of (length s / 20) s

length-addresses_of : (n : ℕ) (s : List ℕ) → length (addresses_of n s) ≡ n
unfolding addresses_of
length-addresses_of zero s = refl
length-addresses_of (suc n) s = ap suc (length-addresses_of n (drop 20 s))

addresses-sized : (n : ℕ) (s : List ℕ) → 20 * n ≤ length s → All (λ b. length b ≡ 20) (addresses_of n s)
unfolding addresses_of
addresses-sized zero s h = tt
addresses-sized (suc n) s h = (length-take-le 20 s (omega arith), addresses-sized n (drop 20 s) (rw length-drop (omega arith)))

-- the addresses are written as they are in the slice
addresses-written : (n : ℕ) (prev s : List ℕ) → 20 * n ≤ length s → s ≡ list_bytes (blob 20) prev (addresses_of n s) ++ drop (20 * n) s
unfolding addresses_of items list_write guard blob
addresses-written zero prev s h = refl
addresses-written (suc n) prev s h =
    let m : 20 * suc n ≡ 20 + 20 * n = omega arith in
    let w : List ℕ = list_bytes (blob 20) (take 20 s) (addresses_of n (drop 20 s)) in
    sym (take-append-drop 20 s) ∙ ap (λ r. take 20 s ++ r) (addresses-written n (take 20 s) (drop 20 s) (rw length-drop (omega arith)))
    ∙ sym (append_assoc (take 20 s) w (drop (20 * n) (drop 20 s))) ∙ ap (λ r. take 20 s ++ w ++ r) (drop-drop (20 * n) 20 s ∙ ap (λ k. drop k s) (sym m))

-- x is the answer of reading a slice of addresses: it tells whether they are in order
module _ (s : List ℕ) (x : Result ℕ Refusal) (e : x ≡ ended (increasing (blob 20) (length s / 20)) s 0) where
  addresses-read : (p : ℕ) × (m : ℕ) × (x ≡ pick (each_above (blob 20) [] (list_of s)) (Ok m) (Err (by out_of_order p)))
  addresses-read =
      let h : 20 * (length s / 20) ≤ length s = omega (arith, div-add-mod' (length s) 20) in
      let (p, q) = list_back (blob 20) (λ b. length b ≡ 20) (blob-back 20) [] (list_of s) s 0 _ Err (λ l m. Ok m) (addresses-sized _ s h)
      (addresses-written _ [] s h) in
      (p, _, e ∙ ap (λ n. ended (increasing (blob 20) n) s 0) (sym (length-addresses_of (length s / 20) s)) ∙ q)

  pub addresses-rise : is_ok x ≡ each_above (blob 20) [] (list_of s)
  addresses-rise = let (p, k, q) = addresses-read in ap is_ok q ∙ cases (each_above (blob 20) [] (list_of s)) p k
    where
      cases : (b : Bool) (p k : ℕ) → is_ok {E = Refusal} (pick b (Ok k) (Err (by out_of_order p))) ≡ b
      cases true p k = refl
      cases false p k = refl

-- ---- an output

module _ (asset : List ℕ) (amount locktime threshold : ℕ) (addresses : List ℕ) where
  abbrev pub written : List ℕ
  written = transferable_output.write (output_of asset amount locktime threshold addresses)

  abbrev pub built : List ℕ
  built = output_head asset amount locktime threshold (length addresses / 20) ++ addresses

  pub built-written : length addresses % 20 ≡ 0 → built ≡ written
  unfolding transferable_output output transfer_body Outputs.amount owners guard items integer blob output_front output_head
  built-written h =
      let w : List ℕ = list_bytes (blob 20) [] (list_of addresses) in
      let m : length addresses ≡ 20 * (length addresses / 20) = omega (arith, div-add-mod' (length addresses) 20) in
      let none : drop (20 * (length addresses / 20)) addresses ≡ [] = drop_of_length-le addresses {i = 20 * (length addresses / 20)} (omega arith) in
      let e : addresses ≡ w = addresses-written (length addresses / 20) [] addresses (omega arith) ∙ ap (λ r. w ++ r) none ∙ append-nil w in
      rw (length-addresses_of (length addresses / 20) addresses, ← e) (simp append_assoc)

  -- the output's bytes are the head that the code has built and the addresses
  pub output-bytes : (head : List ℕ) → head ≡ output_head asset amount locktime threshold (length addresses / 20 % 256 ^ 4) → length addresses % 20 ≡ 0
      → length addresses / 20 < 256 ^ 4 → head ++ addresses ≡ (output_given asset amount locktime threshold addresses).bytes
  output-bytes head e h k =
      ap (λ r. r ++ addresses) (e ∙ ap (output_head asset amount locktime threshold) (mod-eq_of_lt k)) ∙ built-written h

  module _ (prev : List ℕ) where
    -- the rules after the one on the slice's length, in the order in which they are judged
    abbrev rules : ℕ → List ℕ → Result (Unit {0}) Refusal
    rules count ys =
        pick (ltb 0 amount)
        (pick (threshold_fits threshold count)
        (pick (each_above (blob 20) [] (list_of addresses))
        (pick (not (below ys prev))
        (Ok tt)
        (refused_by (rule_of out_of_order))) (refused_by (rule_of out_of_order))) (refused_by (rule_of bad_threshold))) (refused_by (rule_of zero_amount))

    output-parse : length asset ≡ 32
        → (not_below transferable_output prev).parse written 0 (λ e. refused_by e.rule)
        (λ a m. pick (eqb m (length written)) (Ok tt) (refused_by bytes_after_end))
        ≡ rules (length (list_of addresses)) written
    unfolding transferable_output output transfer_body Outputs.amount owners guard
    output-parse h =
        let count : ℕ = length (list_of addresses) in
        let w : List ℕ = list_bytes (blob 20) [] (list_of addresses) in
        field_back (blob 32) asset (blob-back 32 asset h) written 0 _ _ _ _ (rest_all written) λ r₁.
        field_back (integer 4) 7 (integer-back 3 7) written _ _ _ _ _ r₁ λ r₂.
        field_back (integer 8) amount (integer-back 7 amount) written _ _ _ _ _ r₂ λ r₃.
        test-alike (ltb 0 amount) _ _ _
        (field_back (integer 8) locktime (integer-back 7 locktime) written _ _ _ _ _ r₃ λ r₄.
        field_back (integer 4) threshold (integer-back 3 threshold) written _ ((integer 4).write count ++ w) _ _ _
        (rest-as _ _ _ _ (append_assoc ((integer 4).write threshold) _ _) r₄) λ r₅.
        field_back (integer 4) count (integer-back 3 count) written _ w _ _ _ r₅ λ r₆.
        test-alike (threshold_fits threshold count) _ _ _
        (let sized = addresses-sized _ addresses (omega (arith, div-add-mod' (length addresses) 20)) in
        let (p, e) = list_back (blob 20) (λ b. length b ≡ 20) (blob-back 20) [] (list_of addresses) written _ [] _ _ sized (r₆.there ∙ sym (append-nil w)) in
        e ∙ test-alike (each_above (blob 20) [] (list_of addresses)) _ _ _
        (test-alike (not (below written prev)) _ _ _ (ap (λ b. pick b (Ok tt) (refused_by bytes_after_end)) (eq-eqb _ _ r₆.ends)))))

    output-judged : length asset ≡ 32 → judged (not_below transferable_output prev) (output_given asset amount locktime threshold addresses) (Ok tt)
        ≡ pick (eqb (length addresses % 20) 0) (rules (length addresses / 20) built) (refused_by (rule_of cut_short))
    unfolding judged
    output-judged h = ap (λ v. pick (eqb (length addresses % 20) 0) v (refused_by (rule_of cut_short))) (output-parse h)
        ∙ whole (eqb (length addresses % 20) 0) refl
      where
        whole : (b : Bool) → eqb (length addresses % 20) 0 ≡ b
            → pick b (rules (length (list_of addresses)) written) (refused_by (rule_of cut_short))
            ≡ pick b (rules (length addresses / 20) built) (refused_by (rule_of cut_short))
        whole true e = rw (length-addresses_of (length addresses / 20) addresses, built-written (eqb-true (length addresses % 20) 0 e))
        whole false e = refl

    -- a verdict z reached by the code's tests is the verdict of the format
    pub as-output : (z : Result (Unit {0}) Refusal) → length asset ≡ 32
        → z ≡ pick (eqb (length addresses % 20) 0) (rules (length addresses / 20) built) (refused_by (rule_of cut_short))
        → z ≡ judged (not_below transferable_output prev) (output_given asset amount locktime threshold addresses) (Ok tt)
    as-output z h e = e ∙ sym (output-judged h)

-- the verdict z, by what a call answered, t
module _ (t : Bool) (z x y : Result (Unit {0}) Refusal) where
  pub if-rise : (l : List (List ℕ)) → t ≡ each_above (blob 20) [] l → not t ≡ false → z ≡ x → z ≡ pick (each_above (blob 20) [] l) x y
  if-rise l i j e = rw (found i (not-false t j)) e

  pub if-fall : (l : List (List ℕ)) → t ≡ each_above (blob 20) [] l → not t ≡ true → z ≡ y → z ≡ pick (each_above (blob 20) [] l) x y
  if-fall l i j e = rw (found i (not-true t j)) e

  pub if-under : (a b : List ℕ) → t ≡ below a b → t ≡ true → z ≡ y → z ≡ pick (not (below a b)) x y
  if-under a b i j e = rw (found i j) e

  pub if-not-under : (a b : List ℕ) → t ≡ below a b → t ≡ false → z ≡ x → z ≡ pick (not (below a b)) x y
  if-not-under a b i j e = rw (found i j) e

pub ruleset of_output = (as-output, if-rise, if-fall, if-under, if-not-under, if-fits, if-unfit, tests)
