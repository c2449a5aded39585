-- The laws of the format `items`
use Rattle.std.specs.Prelude.{◌≡◌}
use Rattle.std.proofs.Math.Path.{refl, ap}
use Rattle.std.proofs.Common.{sym, ◌∙◌, add_assoc, add-zero, length-append}
use Prim.Native.Nat.{ℕ, zero, suc, ◌+◌, ◌≤◌}
use native.Mathlib.Omega.{arith}
use mathlib.Core.List.{List, [], ◌∷◌, ◌++◌, append_assoc}
use Rattle.std.proofs.Math.ListN.{length, drop}
use Rattle.wire.specs.declared.Refusal.{Refusal}
use Rattle.wire.specs.Bytes.{Bytes}
use Rattle.wire.specs.Numbers.{rule_of, Ruled, cut_short}
use Rattle.wire.specs.Format.{Format, Parsed, took, refused, Stands, on_result}
use Rattle.wire.specs.Parsers.{list_parse, list_write, Chain, Listed}
use Rattle.wire.specs.laws.Bytes.{bytes-append, drop-step}
use Rattle.wire.specs.laws.Format.{moved, result-inv, result-same, result-stable, result-ruled, result-placed, parse-inv, parse-same, parse-stable}
use Rattle.wire.specs.laws.Format.{parse-ruled, parse-placed, stands-append, stands-extended, took-refused}

module _ {A S : Type 0} (P : S → Format A) (step : S → A → S) where
  pub list_same : {R : Type 0} (n : ℕ) (st : S) (s : List ℕ) (at : ℕ) (stop : Refusal → R) (go : List A → ℕ → R)
      → list_parse P step n st s at stop go ≡ on_result (list_parse P step n st s at refused took) stop go
  unfolding list_parse
  list_same {R = R} zero st s at stop go = refl
  list_same {R = R} (suc n) st s at stop go =
      parse-same (P st) s at _ _ stop go λ a m.
      list_same {R = R} n (step st a) s m stop _
      ∙ result-same (list_parse P step n (step st a) s m refused took) (λ l k. took (a ∷ l) k) _ stop go (λ l k. refl)
      ∙ ap (λ o. on_result o stop go) (sym (list_same {R = Parsed (List A)} n (step st a) s m refused _))

  pub list-inv : {B : Type 0} (n : ℕ) (st : S) (s : List ℕ) (at : ℕ) (k : List A → ℕ → Parsed B) (b : B) (next : ℕ)
      → list_parse P step n st s at refused k ≡ took b next
      → (l : List A) × (m : ℕ) × (list_parse P step n st s at refused took ≡ took l m) × (k l m ≡ took b next)
  list-inv n st s at k b next q = result-inv (list_parse P step n st s at refused took) k b next (sym (list_same n st s at refused k) ∙ q)

  pub list-sound : (n : ℕ) (st : S) (s : List ℕ) (at : ℕ) (v : List A) (next : ℕ) → Bytes s → list_parse P step n st s at refused took ≡ took v next
      → Listed P step n st v × Stands s at (list_write P step st v) next
  unfolding list_parse list_write
  list-sound zero st s at v next bs e =
      moved (λ w k. Listed P step zero st w × Stands s at (list_write P step st w) k) e ((refl, tt), record { ends = omega arith; there = refl })
  list-sound (suc n) st s at v next bs e =
      let (a, m, ea, e₁) = parse-inv (P st) s at _ v next e in
      let (l, k, el, e₂) = list-inv n (step st a) s m _ v next e₁ in
      let (ga, sa) = (P st).sound s at a m bs ea in
      let (gl, sl) = list-sound n (step st a) s m l k bs el in
      moved (λ w j. Listed P step (suc n) st w × Stands s at (list_write P step st w) j) e₂ (
        (ap suc gl.0, (ga, gl.1)),
        stands-append s at ((P st).write a) m (list_write P step (step st a) l) k sa sl,
      )

  pub list-complete : {R : Type 0} (n : ℕ) (st : S) (s : List ℕ) (at : ℕ) (v : List A) (t : List ℕ) (stop : Refusal → R) (go : List A → ℕ → R)
      → Listed P step n st v → drop at s ≡ list_write P step st v ++ t → list_parse P step n st s at stop go ≡ go v (at + length (list_write P step st v))
  unfolding list_parse list_write
  list-complete zero st s at [] t stop go h e = ap (go []) (rw add-zero)
  list-complete zero st s at (a ∷ l) t stop go h e = absurd (omega arith)
  list-complete (suc n) st s at [] t stop go h e = absurd (omega arith)
  list-complete (suc n) st s at (a ∷ l) t stop go h e =
      let wa : List ℕ = (P st).write a in
      let wl : List ℕ = list_write P step (step st a) l in
      let e₁ : drop at s ≡ wa ++ (wl ++ t) = e ∙ append_assoc wa wl t in
      (P st).complete s at a (wl ++ t) stop _ h.1.0 e₁
      ∙ list-complete n (step st a) s (at + length wa) l t stop _ (omega arith, h.1.1) (drop-step s at wa (wl ++ t) e₁)
      ∙ ap (go (a ∷ l)) (rw (length-append wa wl, add_assoc))

  pub list-bytes : (st : S) (v : List A) → Chain P step st v → Bytes (list_write P step st v)
  unfolding list_write
  list-bytes st [] h = tt
  list-bytes st (a ∷ l) h = bytes-append ((P st).write a) (list_write P step (step st a) l) ((P st).bytes a h.0) (list-bytes (step st a) l h.1)

  list-kept : (n : ℕ) (st : S) (s t : List ℕ) (at : ℕ) (v : List A) (next : ℕ) → Bytes s → list_parse P step n st s at refused took ≡ took v next
      → list_parse P step n st (s ++ t) at refused took ≡ took v next
  list-kept n st s t at v next bs e =
      let (g, h) = list-sound n st s at v next bs e in
      let (r, q) = stands-extended s t at (list_write P step st v) next h in
      list-complete n st (s ++ t) at v r refused took g q ∙ ap (took v) (sym h.ends)

  pub list-stable : (n : ℕ) (st : S) (s t : List ℕ) (at : ℕ) (e : Refusal) → Bytes s → (e.rule ≡ rule_of cut_short → ⊥)
      → list_parse P step n st s at refused took ≡ refused e
      → list_parse P step n st (s ++ t) at refused took ≡ refused e
  unfolding list_parse
  list-stable zero st s t at e bs ne q = took-refused [] at e q
  list-stable (suc n) st s t at e bs ne q =
      parse-stable (P st) s t at _ _ e bs ne
      (λ a m r q.
      list_same n (step st a) (s ++ t) m refused (λ l k. took (a ∷ l) k)
      ∙ result-stable (list_parse P step n (step st a) s m refused took) (list_parse P step n (step st a) (s ++ t) m refused took) (λ l k. took (a ∷ l) k)
      (λ l k. took (a ∷ l) k) e
      (λ l k. list-kept n (step st a) s t m l k bs) (list-stable n (step st a) s t m e bs ne) (λ l k r q. q)
      (sym (list_same n (step st a) s m refused (λ l k. took (a ∷ l) k)) ∙ q))
      q

  pub list-ruled : (n : ℕ) (st : S) (s : List ℕ) (at : ℕ) (e : Refusal) → list_parse P step n st s at refused took ≡ refused e → Ruled e.rule
  unfolding list_parse
  list-ruled zero st s at e q = took-refused [] at e q
  list-ruled (suc n) st s at e q =
      parse-ruled (P st) s at _ e
      (λ a m q.
      result-ruled (list_parse P step n (step st a) s m refused took) (λ l k. took (a ∷ l) k) e (list-ruled n (step st a) s m)
      (λ l k q. took-refused (a ∷ l) k e q)
      (sym (list_same n (step st a) s m refused (λ l k. took (a ∷ l) k)) ∙ q))
      q

  pub list-placed : (n : ℕ) (st : S) (s : List ℕ) (at : ℕ) (e : Refusal) → Bytes s → at ≤ length s → list_parse P step n st s at refused took ≡ refused e
      → e.place ≤ length s
  unfolding list_parse
  list-placed zero st s at e bs h q = took-refused [] at e q
  list-placed (suc n) st s at e bs h q =
      parse-placed (P st) s at _ e bs h
      (λ a m ga sa i q.
      result-placed (length s) (list_parse P step n (step st a) s m refused took) (λ l k. took (a ∷ l) k) e (λ d. list-placed n (step st a) s m d bs i)
      (λ l k r q. took-refused (a ∷ l) k e q) (sym (list_same n (step st a) s m refused (λ l k. took (a ∷ l) k)) ∙ q))
      q
