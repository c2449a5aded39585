-- Elements given as bytes: where their reading ends; and the order of initial states, of which the code compares the first four bytes. Assumes nothing.
use Rattle.std.specs.Prelude.{Ok, Err, Result}
use Prim.Native.Nat.{ℕ, ◌≤◌}
use mathlib.Core.Path.{◌≡◌, refl, sym, ap, ap₂, ◌∙◌}
use mathlib.Core.Bool.{Bool, true, false}
use mathlib.Core.List.{List}
use native.Mathlib.Omega.{arith}
use lib.ListN.{length, take}
use lib.Dec.{eqb}
use borrow.Author.Tests.{eq-eqb}
use Rattle.wire.specs.Bytes.{pick, between, below}
use Rattle.wire.specs.declared.Refusal.{Refusal}
use Rattle.wire.specs.Numbers.{refusal, rule_of, cut_short, bytes_after_end}
use Rattle.wire.specs.Format.{Format, read}
use Rattle.wire.proofs.Format.{stands-part}
use Rattle.wire.specs.Fields.{integer}
use Rattle.wire.specs.laws.Sizes.{length-integer}
use Rattle.wire.specs.code.Answer.{valued, ended}
use Rattle.wire.proofs.Bytes.{Slice, slice-bytes, found}
use Rattle.wire.proofs.Reading as W
use Rattle.element.specs.Operations.{Fx, fx_of, fx_id, state_outputs}
use Rattle.element.proofs.Reading.{fx_of-write}
use Rattle.writer_rules.specs.Judged.{refused_by}
use Rattle.writer_rules.specs.code.Judged.{end_judged}

-- ---- where the reading ends

module _ (n : ℕ) (x : Result ℕ Refusal) where
  pub end_refused : (e f : Refusal) → x ≡ Err e → f ≡ refusal e.rule 0 → Err f ≡ end_judged n x
  unfolding end_judged
  end_refused e f q h = rw q (ap Err h)

  pub end_whole : (m : ℕ) → x ≡ Ok m → m ≡ n → (Ok tt) ≡ end_judged n x
  unfolding end_judged
  end_whole m q h = rw (q, eq-eqb m n h)

-- the verdict by the end of a reading is the verdict of the format
pub read-judged : {A : Type 0} (F : Format A) (s : List ℕ) (at : ℕ) (x : Result ℕ Refusal) → x ≡ ended F s at → (z : Result (Unit {0}) Refusal)
    → z ≡ end_judged (length s) x
    → z ≡ F.parse s at (λ e. refused_by e.rule) λ a m. pick (eqb m (length s)) (Ok tt) (refused_by bytes_after_end)
unfolding end_judged
read-judged {A} F s at x p z h = h ∙ go x p
  where
    stop : Refusal → Result (Unit {0}) Refusal
    stop e = refused_by e.rule

    over : A → ℕ → Result (Unit {0}) Refusal
    over a m = pick (eqb m (length s)) (Ok tt) (refused_by bytes_after_end)

    go : (x : Result ℕ Refusal) → x ≡ ended F s at → end_judged (length s) x ≡ F.parse s at stop over
    go (Ok m) q = W.ends F (Result (Unit {0}) Refusal) s at _ stop over (Ok m) m q refl (λ a. refl)
    go (Err e) q = W.stops F (Result (Unit {0}) Refusal) s at _ stop over (Err e) e q refl refl

-- the same with a head that `search` can match
pub outputs-judged : (k : Fx) (s : List ℕ) (at : ℕ) (x : Result ℕ Refusal) → x ≡ ended (state_outputs k) s at → (z : Result (Unit {0}) Refusal)
    → z ≡ end_judged (length s) x
    → z ≡ (state_outputs k).parse s at (λ e. refused_by e.rule) λ a m. pick (eqb m (length s)) (Ok tt) (refused_by bytes_after_end)
outputs-judged k = read-judged (state_outputs k)

-- a state too short for its FxID is refused at place 0, which the step keeps
pub fx-short : (s : List ℕ) (x : Result (ℕ × ℕ) Refusal) → x ≡ valued (integer 4) s 0 → (e : Refusal) → x ≡ Err e → (z : Result (Unit {0}) Refusal) → z ≡ Err e
    → z ≡ refused_by (rule_of cut_short)
fx-short s x p e q z h = h
    ∙ ap Err (W.integer-stops 4 s 0 e (W.integer-refused-inv (read (integer 4) s 0) e (sym ((integer 4).same s 0 Err (λ v n. Ok (v, n))) ∙ found p q)))

-- ---- the order of initial states

module _ (last b : List ℕ) (sl : Slice b) (x : Result (ℕ × ℕ) Refusal) (p : x ≡ valued (integer 4) b 0) (fx n : ℕ) (q : x ≡ Ok (fx, n)) (small : fx ≤ 1)
    (t : Bool)
    (A B : List ℕ)
    (ea : A ≡ between 0 4 last) (eb : B ≡ between 0 4 b) (e : t ≡ below A B) where
  order_is : below (take 4 last) (fx_id.write (fx_of fx)) ≡ t
  order_is =
      let r = W.integer-value-inv (read (integer 4) b 0) fx n (sym ((integer 4).same b 0 Err (λ v n. Ok (v, n))) ∙ found p q) in
      let (_, st) = (integer 4).sound b 0 fx n (slice-bytes b sl) r in
      let four : n ≡ 4 = omega (arith, st.ends, length-integer 4 fx) in
      let own : fx_id.write (fx_of fx) ≡ between 0 4 b = fx_of-write fx small ∙ stands-part b 0 ((integer 4).write fx) n st
      ∙ ap (λ (k : ℕ). between 0 k b) four in
      ap₂ below (sym ea) (own ∙ sym eb) ∙ sym e

  module _ {R : Type 0} (z X Y : R) where
    pub if-after : t ≡ true → z ≡ X → z ≡ pick (below (take 4 last) (fx_id.write (fx_of fx))) X Y
    if-after i j = rw (order_is, i) j

    pub if-not-after : t ≡ false → z ≡ Y → z ≡ pick (below (take 4 last) (fx_id.write (fx_of fx))) X Y
    if-not-after i j = rw (order_is, i) j
