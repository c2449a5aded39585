-- The check as the chain of steps of the code: length, unsigned part, credentials, nothing after them. Assumes nothing.
use Rattle.std.specs.Prelude.{Ok, Err, Result}
use Prim.Native.Nat.{ℕ}
use mathlib.Core.Path.{◌≡◌, sym, ap, ◌∙◌}
use mathlib.Core.List.{List}
use native.Mathlib.Omega.{arith}
use lib.ListN.{length}
use lib.Dec.{leb, eqb}
use Rattle.wire.specs.declared.Refusal.{Refusal}
use Rattle.wire.specs.Bytes.{pick}
use Rattle.wire.specs.Numbers.{refusal, too_long, bytes_after_end}
use Rattle.wire.specs.Format.{took, read}
use Rattle.wire.proofs.Whole.{whole_same}
use Rattle.wire.specs.code.Answer.{ended}
use Rattle.wire.proofs.Reading as W
use Rattle.wire.proofs.Trying.{passed-on}
use Rattle.element.proofs.Reading.{answer-took, answer-refused}
use Rattle.transaction.specs.Credentials.{credentials}
use Rattle.transaction.specs.Signed as AnySigned
use Rattle.transaction.specs.Family.{Unsigned, unsigned, wants, signed}
use Rattle.transaction.specs.Avm.{avm}
use Rattle.transaction.specs.Answer.{layout, checked}
use Rattle.transaction.specs.code.Answer.{unsigned_at, CredentialsAt, SignedAt}
use Rattle.transaction.specs.declared.Layout.{Layout}

module _ (most : ℕ) where
  pub from-check : (s : List ℕ) (z : Result (Layout × ℕ) Refusal)
      → z ≡ pick (leb (length s) AnySigned.most_bytes)
      ((unsigned (avm most)).parse s 0 Err
      (λ u m. (credentials (wants (avm most) u)).parse s m Err
      (λ l n. pick (eqb n (length s)) (Ok (layout most u, n)) (Err (refusal bytes_after_end n)))))
      (Err (refusal too_long 0))
      → z ≡ checked most s
  unfolding AnySigned.check AnySigned.signed
  from-check s z e = e ∙ whole_same (signed (avm most)) AnySigned.most_bytes s Err (λ v n. Ok (layout most v.0, n))

  module _ {R : Type 0} (s : List ℕ) (z : R) (stop : Refusal → R) (go : Unsigned (avm most) → ℕ → R) (x : Result Layout Refusal)
      (p : x ≡ unsigned_at most s) where
    pub on-unsigned : (w : Layout) → x ≡ Ok w
        → ((u : Unsigned (avm most)) (n : ℕ) → w ≡ layout most u → read (unsigned (avm most)) s 0 ≡ took u n → z ≡ go u n)
        → z ≡ (unsigned (avm most)).parse s 0 stop go
    on-unsigned w q e =
        let (u, n, t, i) = answer-took (unsigned (avm most)) s 0 Err (λ u n. Ok (layout most u)) x p (Ok w) q
        (λ e i. let z : ◌≡◌ {A = ℕ} 0 1 = cc in omega arith) in
        let ew : w ≡ layout most u = cc in
        e u n ew t ∙ sym (W.parse-took (unsigned (avm most)) s 0 stop go u n t)

    pub on-unsigned-refused : (e : Refusal) → x ≡ Err e → z ≡ stop e → z ≡ (unsigned (avm most)).parse s 0 stop go
    on-unsigned-refused e q r =
        let (d, t, w) = answer-refused (unsigned (avm most)) s 0 Err (λ u n. Ok (layout most u)) x p (Err e) q
        (λ v m i. let z : ◌≡◌ {A = ℕ} 0 1 = cc in omega arith) in
        let i : d ≡ e = cc in
        r ∙ ap stop (sym i) ∙ sym (W.parse-refused (unsigned (avm most)) s 0 stop go d t)

  module _ {R : Type 0} (s : List ℕ) (u : Unsigned (avm most)) (n : ℕ) (z : R) (stop : Refusal → R) (go : List (List ℕ) → ℕ → R) (w : Layout)
      (x : Result ℕ Refusal)
      (p : CredentialsAt w s x) (r : read (unsigned (avm most)) s 0 ≡ took u n) (h : w ≡ layout most u) where
    those : x ≡ ended (credentials (wants (avm most) u)) s n
    those = p most u n r h

    pub on-credentials : (m : ℕ) → x ≡ Ok m → ((l : List (List ℕ)) → z ≡ go l m) → z ≡ (credentials (wants (avm most) u)).parse s n stop go
    on-credentials m q e = W.ends (credentials (wants (avm most) u)) R s n z stop go x m those q e

    pub on-credentials-refused : (e : Refusal) → x ≡ Err e → z ≡ stop e → z ≡ (credentials (wants (avm most) u)).parse s n stop go
    on-credentials-refused e q f = W.stops (credentials (wants (avm most) u)) R s n z stop go x e those q f

  pub on-signed : (s : List ℕ) (u : Unsigned (avm most)) (n : ℕ) (w : Layout) (x : Result (Layout × ℕ) Refusal) → SignedAt w s x → w ≡ layout most u
      → read (unsigned (avm most)) s 0 ≡ took u n
      → x ≡ (credentials (wants (avm most) u)).parse s n Err
      (λ l m. pick (eqb m (length s)) (Ok (layout most u, m)) (Err (refusal bytes_after_end m)))
  on-signed s u n w x p h r =
      p most u n r h
      ∙ ap (λ (v : Layout). (credentials (wants (avm most) u)).parse s n Err
      (λ l m. pick (eqb m (length s)) (Ok (v, m)) (Err (refusal bytes_after_end m)))) h

pub checked-made : (f d : Refusal) → f ≡ d → ◌≡◌ {A = Result (Layout × ℕ) Refusal} (Err f) (Err d)
checked-made f d e = ap Err e

pub ruleset signing = (on-credentials, on-credentials-refused, W.if-eq, W.if-ne, checked-made, passed-on)

pub ruleset checking = (from-check, W.if-le, W.if-not-le, on-unsigned, on-unsigned-refused, on-signed, checked-made, passed-on)
