-- Laws of `whole`: it reads what is written, and its refusals
use mathlib.Core.Path.{◌≡◌, refl, sym, ap, ◌∙◌}
use Prim.Native.Nat.{ℕ, ◌≤◌}
use native.Mathlib.Omega.{arith}
use native.Mathlib.Nat.{zero-add}
use mathlib.Core.Bool.{Bool, true, false}
use mathlib.Core.List.{List, [], ◌++◌, append-nil}
use lib.ListN.{length, drop, length-append}
use lib.Seq.{drop-length}
use lib.Dec.{leb, eqb}
use borrow.Author.Tests.{leb-true, le-leb, eqb-true, eqb-false, eq-eqb, ne_eqb}
use Rattle.wire.specs.declared.Refusal.{Refusal}
use Rattle.wire.specs.Bytes.{Bytes, pick}
use Rattle.wire.specs.Numbers.{rule_number, refusal, number_of, rule_of, cut_short, too_long, bytes_after_end}
use Rattle.wire.specs.Format.{Format, Parsed, took, refused, on_result, read}
use Rattle.wire.specs.Whole.{whole}
use Rattle.wire.specs.laws.Format.{moved, parse-inv, parse-same, parse-stable, parse-placed, pick_inv, pick_same, pick-placed, stands-inside}
use Rattle.wire.specs.laws.Format.{refused-rule, refused-placed, took-refused}
use Rattle.wire.proofs.Numbers.{ruled-range}

module _ {A : Type 0} (F : Format A) (most : ℕ) where
  -- what is read is a value of the format, its written bytes are the whole string, and they are at most `most`
  pub whole-sound : (s : List ℕ) (v : A) (n : ℕ) → Bytes s → whole F most s refused took ≡ took v n
      → F.Good v × (F.write v ≡ s) × (n ≡ length s) × (length s ≤ most)
  whole-sound s v n bs e =
      let (fits, e₁) = pick_inv (leb (length s) most) (refusal too_long 0) _ v n e in
      let (a, m, ea, e₂) = parse-inv F s 0 _ v n e₁ in
      let (end, e₃) = pick_inv (eqb m (length s)) (refusal bytes_after_end m) _ v n e₂ in
      let (ga, sa) = F.sound s 0 a m bs ea in
      let len : m ≡ length s = eqb-true m (length s) end in
      let gone : drop m s ≡ [] = rw len (drop-length s) in
      moved (λ w k. F.Good w × (F.write w ≡ s) × (k ≡ length s) × (length s ≤ most)) e₃
      (ga, sym (sa.there ∙ ap (λ (r : List ℕ). F.write a ++ r) gone ∙ append-nil (F.write a)), len, leb-true (length s) most fits)

  -- the written bytes of a value of the format are read as that value, if they are at most `most`
  pub whole-complete : {R : Type 0} (v : A) (stop : Refusal → R) (go : A → ℕ → R) → F.Good v → length (F.write v) ≤ most
      → whole F most (F.write v) stop go ≡ go v (length (F.write v))
  whole-complete v stop go g h =
      let w : List ℕ = F.write v in
      rw (
        le-leb (length w) most h,
        F.complete w 0 v [] stop (λ v n. pick (eqb n (length w)) (go v n) (stop (refusal bytes_after_end n))) g
            (sym (append-nil w)),
        zero-add,
        eq-eqb (length w) (length w) refl,
      )

  pub whole_same : {R : Type 0} (s : List ℕ) (stop : Refusal → R) (go : A → ℕ → R) → whole F most s stop go ≡ on_result (whole F most s refused took) stop go
  whole_same s stop go = fits (leb (length s) most)
    where
      inner : F.parse s 0 stop (λ v n. pick (eqb n (length s)) (go v n) (stop (refusal bytes_after_end n)))
          ≡ on_result (F.parse s 0 refused (λ v n. pick (eqb n (length s)) (took v n) (refused (refusal bytes_after_end n)))) stop go
      inner = parse-same F s 0 _ _ stop go (λ v n. pick_same (eqb n (length s)) (refusal bytes_after_end n) v n stop go)

      fits : (b : Bool) → pick b (F.parse s 0 stop (λ v n. pick (eqb n (length s)) (go v n) (stop (refusal bytes_after_end n)))) (stop (refusal too_long 0))
          ≡ on_result (pick b (F.parse s 0 refused (λ v n. pick (eqb n (length s)) (took v n) (refused (refusal bytes_after_end n))))
          (refused (refusal too_long 0))) stop go
      fits true = inner
      fits false = refl

  -- a refusal other than 2 stays when bytes are appended, if they are still at most `most`
  pub whole-stable : (s t : List ℕ) (e : Refusal) → Bytes s → (e.rule ≡ rule_of cut_short → ⊥) → length (s ++ t) ≤ most
      → whole F most s refused took ≡ refused e
      → whole F most (s ++ t) refused took ≡ refused e
  whole-stable s t e bs ne h q =
      let few : length s ≤ most = omega (arith, length-append s t) in
      rw (le-leb (length (s ++ t)) most h)
      (parse-stable F s t 0 _ _ e bs ne
      (λ v n r. behind v n (eqb n (length s)) refl (stands-inside s 0 (F.write v) n (F.sound s 0 v n bs r).1 (omega arith)))
      (rw (le-leb (length s) most few) at q))
    where
      behind : (v : A) (n : ℕ) (b : Bool) → eqb n (length s) ≡ b → n ≤ length s
          → pick (eqb n (length s)) (took v n) (refused (refusal bytes_after_end n)) ≡ refused e
          → pick (eqb n (length (s ++ t))) (took v n) (refused (refusal bytes_after_end n)) ≡ refused e
      behind v n true q l r = let r' : took v n ≡ refused e = rw q at r in took-refused v n e r'
      behind v n false q l r = rw (ne_eqb n (length (s ++ t)) (λ z. eqb-false n (length s) q (omega (arith, length-append s t)))) (rw q at r)

  -- a refusal's number is one of the table, from 1 to 13
  pub whole-ruled : (s : List ℕ) (e : Refusal) → whole F most s refused took ≡ refused e → (1 ≤ number_of e) × (number_of e ≤ 13)
  whole-ruled s e = fits (leb (length s) most)
    where
      behind : (v : A) (n : ℕ) (b : Bool) → pick b (took v n) (refused (refusal bytes_after_end n)) ≡ refused e → (1 ≤ number_of e) × (number_of e ≤ 13)
      behind v n true q = took-refused v n e q
      behind v n false q = let z = ap rule_number (refused-rule {A = A} (refusal bytes_after_end n) e q) in (omega arith, omega arith)

      inside : (o : Parsed A) → read F s 0 ≡ o → on_result o refused (λ v n. pick (eqb n (length s)) (took v n) (refused (refusal bytes_after_end n)))
          ≡ refused e
          → (1 ≤ number_of e) × (number_of e ≤ 13)
      inside (took v n) r q = behind v n (eqb n (length s)) q
      inside (refused d) r q =
          let z = ap rule_number (refused-rule {A = A} d e q) in
          let (a, b) = ruled-range d.rule (F.ruled s 0 d r) in
          (omega arith, omega arith)

      fits : (b : Bool) → pick b (F.parse s 0 refused (λ v n. pick (eqb n (length s)) (took v n) (refused (refusal bytes_after_end n))))
          (refused (refusal too_long 0)) ≡ refused e
          → (1 ≤ number_of e) × (number_of e ≤ 13)
      fits true q = inside (read F s 0) refl (sym (F.same s 0 refused _) ∙ q)
      fits false q = let z = ap rule_number (refused-rule {A = A} (refusal too_long 0) e q) in (omega arith, omega arith)

  -- a refusal's place is inside the bytes, or at their end
  pub whole-placed : (s : List ℕ) (e : Refusal) → Bytes s → whole F most s refused took ≡ refused e → e.place ≤ length s
  whole-placed s e bs = fits (leb (length s) most)
    where
      fits : (b : Bool) → pick b (F.parse s 0 refused (λ v n. pick (eqb n (length s)) (took v n) (refused (refusal bytes_after_end n))))
          (refused (refusal too_long 0)) ≡ refused e
          → e.place ≤ length s
      fits true = parse-placed F s 0 _ e bs (omega arith) (λ v n g h i. pick-placed (length s) (eqb n (length s)) (refusal bytes_after_end n) v n e i)
      fits false = refused-placed {A = A} (length s) (refusal too_long 0) e (omega arith)
