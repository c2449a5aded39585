-- The laws of the formats `blob` and `integer`
use Rattle.std.specs.Prelude.{◌≡◌, ℕ, ◌+◌, ◌-◌, ◌^◌, ◌≤◌, ◌<◌, Bool, List, ◌++◌, take, drop, leb}
use Rattle.std.proofs.Common.{sym, ap, subst, arith, length-append, take-append-drop, drop-drop, leb-true, le-leb}
use Rattle.std.proofs.Math.Bool.{true, false}
use Rattle.std.proofs.Math.ListN.{length, length-drop}
use Rattle.std.proofs.Math.Seq.{take_at, length-take-le}
use Rattle.wire.specs.declared.Refusal.{Refusal}
use Rattle.wire.specs.Bytes.{Bytes, pick, value, digits}
use Rattle.wire.specs.Numbers.{rule_of, Ruled, cut_short, cut_at}
use Rattle.wire.specs.Format.{took, refused, Stands, on_result}
use Rattle.wire.specs.Parsers.{blob_parse, Sized}
use Rattle.wire.specs.laws.Bytes.{bytes_take, bytes_drop, value-lt, length_digits, bytes-digits, digits_value}
use Rattle.wire.specs.laws.Format.{moved, pick_inv, pick_same, pick-ruled, pick-placed, refused-rule, took-refused}

module _ (n : ℕ) where
  pub blob-sound : (s : List ℕ) (at : ℕ) (v : List ℕ) (next : ℕ) → Bytes s → blob_parse n s at refused took ≡ took v next → Sized n v × Stands s at v next
  unfolding blob_parse
  blob-sound s at v next bs e =
      let (fits, e') = pick_inv (leb n (length s - at)) (cut_at n s at) _ v next e in
      let len : length (take n (drop at s)) ≡ n = length-take-le n (drop at s) (rw length-drop (leb-true n (length s - at) fits)) in
      moved (λ b m. Sized n b × Stands s at b m) e' (
        (len, bytes_take n (drop at s) (bytes_drop at s bs)),
        record { ends = omega arith; there = rw (← drop-drop) (sym (take-append-drop n (drop at s))) },
      )

  pub blob-complete : {R : Type 0} (s : List ℕ) (at : ℕ) (v t : List ℕ) (stop : Refusal → R) (go : List ℕ → ℕ → R) → Sized n v → drop at s ≡ v ++ t
      → blob_parse n s at stop go ≡ go v (at + length v)
  unfolding blob_parse
  blob-complete s at v t stop go h e =
      let fits : n ≤ length s - at = omega (arith, simp (length-drop, length-append) at (ap length e)) in
      rw (le-leb n (length s - at) fits, e, take_at v t n h.0, h.0)

  pub blob-same : {R : Type 0} (s : List ℕ) (at : ℕ) (stop : Refusal → R) (go : List ℕ → ℕ → R)
      → blob_parse n s at stop go ≡ on_result (blob_parse n s at refused took) stop go
  unfolding blob_parse
  blob-same s at stop go = pick_same (leb n (length s - at)) (cut_at n s at) _ _ stop go

  -- it refuses by rule 2 only
  pub blob-stable : (s t : List ℕ) (at : ℕ) (e : Refusal) → Bytes s → (e.rule ≡ rule_of cut_short → ⊥) → blob_parse n s at refused took ≡ refused e
      → blob_parse n (s ++ t) at refused took ≡ refused e
  unfolding blob_parse
  blob-stable s t at e bs ne q = go (leb n (length s - at)) q
    where
      go : (b : Bool) → pick b (took (take n (drop at s)) (at + n)) (refused (cut_at n s at)) ≡ refused e → blob_parse n (s ++ t) at refused took ≡ refused e
      go true q = took-refused (take n (drop at s)) (at + n) e q
      go false q = absurd (ne (refused-rule (cut_at n s at) e q))

  pub blob-ruled : (s : List ℕ) (at : ℕ) (e : Refusal) → blob_parse n s at refused took ≡ refused e → Ruled e.rule
  unfolding blob_parse
  blob-ruled s at e = pick-ruled (leb n (length s - at)) cut_short at (take n (drop at s)) (at + n) e

  pub blob-placed : (s : List ℕ) (at : ℕ) (e : Refusal) → Bytes s → at ≤ length s → blob_parse n s at refused took ≡ refused e → e.place ≤ length s
  unfolding blob_parse
  blob-placed s at e bs h = pick-placed (length s) (leb n (length s - at)) (cut_at n s at) (take n (drop at s)) (at + n) e h

-- ---- n bytes as an integer

pub value-fits : (w : ℕ) (b : List ℕ) → Sized w b → value b < 256 ^ w
value-fits w b h = subst (λ (k : ℕ). value b < 256 ^ k) h.0 (value-lt b h.1)

pub digits-sized : (w v : ℕ) → v < 256 ^ w → Sized w (digits w v)
digits-sized w v h = (length_digits w v, bytes-digits w v h)

pub digits-of-value : (w : ℕ) (b : List ℕ) → Sized w b → digits w (value b) ≡ b
digits-of-value w b h = subst (λ (k : ℕ). digits k (value b) ≡ b) h.0 (digits_value b h.1)
