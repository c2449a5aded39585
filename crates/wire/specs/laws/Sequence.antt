-- The laws of the formats `and_then`, `guard_at`, `«as»`, `only` and `tag`
use Rattle.std.specs.Prelude.{◌≡◌, refl, ℕ, ◌+◌, ◌≤◌, Bool, true, false, List, [], ◌∷◌, ◌++◌, length, drop, eqb}
use Rattle.std.proofs.Common.{sym, ap, ap₂, ◌∙◌, arith, add_assoc, add-zero, append_assoc, length-append, eqb-true}
use Rattle.wire.specs.declared.Refusal.{Refusal}
use Rattle.wire.specs.Bytes.{Bytes, pick}
use Rattle.wire.specs.Numbers.{ReadingRule, rule_of, Ruled, by, cut_short}
use Rattle.wire.specs.Format.{Format, took, refused, Stands, on_result}
use Rattle.wire.specs.Parsers.{then_parse, then_write, Both, guard_parse, Kept, Same, as_parse, find, listed, tag_parse, Tagged}
use Rattle.wire.specs.laws.Bytes.{drop-step}
use Rattle.wire.specs.laws.Format.{moved, parse-inv, parse-same, parse-stable, parse-ruled, parse-placed, pick_inv, pick_same, pick-ruled}
use Rattle.wire.specs.laws.Format.{pick-placed, stands-append, took-refused}

-- ---- a format after another

module _ {A : Type 0} {B : A → Type 0} (F : Format A) (G : (a : A) → Format (B a)) where
  pub then_same : {R : Type 0} (s : List ℕ) (at : ℕ) (stop : Refusal → R) (go : ((a : A) × B a) → ℕ → R)
      → then_parse F G s at stop go ≡ on_result (then_parse F G s at refused took) stop go
  then_same s at stop go = parse-same F s at _ _ stop go (λ a m. parse-same (G a) s m _ _ stop go (λ b n. refl))

  pub then-sound : (s : List ℕ) (at : ℕ) (v : (a : A) × B a) (next : ℕ) → Bytes s → then_parse F G s at refused took ≡ took v next
      → Both F G v × Stands s at (then_write F G v) next
  then-sound s at v next bs e =
      let (a, m, ea, e₁) = parse-inv F s at _ v next e in
      let (b, n, eb, e₂) = parse-inv (G a) s m _ v next e₁ in
      let (ga, sa) = F.sound s at a m bs ea in
      let (gb, sb) = (G a).sound s m b n bs eb in
      moved (λ w k. Both F G w × Stands s at (then_write F G w) k) e₂ ((ga, gb), stands-append s at _ m _ n sa sb)

  pub then-complete : {R : Type 0} (s : List ℕ) (at : ℕ) (v : (a : A) × B a) (t : List ℕ) (stop : Refusal → R) (go : ((a : A) × B a) → ℕ → R)
      → Both F G v → drop at s ≡ then_write F G v ++ t → then_parse F G s at stop go ≡ go v (at + length (then_write F G v))
  then-complete s at v t stop go h e =
      let wa : List ℕ = F.write v.0 in
      let wb : List ℕ = (G v.0).write v.1 in
      let e₁ : drop at s ≡ wa ++ (wb ++ t) = e ∙ append_assoc wa wb t in
      F.complete s at v.0 (wb ++ t) stop _ h.0 e₁
      ∙ (G v.0).complete s (at + length wa) v.1 t stop _ h.1 (drop-step s at wa (wb ++ t) e₁)
      ∙ ap (go v) (rw (length-append, add_assoc))

  pub then-stable : (s t : List ℕ) (at : ℕ) (e : Refusal) → Bytes s → (e.rule ≡ rule_of cut_short → ⊥)
      → then_parse F G s at refused took ≡ refused e → then_parse F G (s ++ t) at refused took ≡ refused e
  then-stable s t at e bs ne = parse-stable F s t at _ _ e bs ne (λ a m r. parse-stable (G a) s t m _ _ e bs ne (λ b n r q. q))

  pub then-ruled : (s : List ℕ) (at : ℕ) (e : Refusal) → then_parse F G s at refused took ≡ refused e → Ruled e.rule
  then-ruled s at e = parse-ruled F s at _ e (λ a m. parse-ruled (G a) s m _ e (λ b n q. took-refused (a, b) n e q))

  pub then-placed : (s : List ℕ) (at : ℕ) (e : Refusal) → Bytes s → at ≤ length s → then_parse F G s at refused took ≡ refused e → e.place ≤ length s
  then-placed s at e bs h =
      parse-placed F s at _ e bs h (λ a m ga sa i. parse-placed (G a) s m _ e bs i (λ b n gb sb j q. took-refused (a, b) n e q))

-- ---- a rule on the value

module _ {A : Type 0} (F : Format A) (ok : A → Bool) (x : ReadingRule) (place : ℕ → A → ℕ) where
  pub guard-same : {R : Type 0} (s : List ℕ) (at : ℕ) (stop : Refusal → R) (go : A → ℕ → R)
      → guard_parse F ok x place s at stop go ≡ on_result (guard_parse F ok x place s at refused took) stop go
  guard-same s at stop go = parse-same F s at _ _ stop go (λ a m. pick_same (ok a) (by x (place at a)) a m stop go)

  pub guard-sound : (s : List ℕ) (at : ℕ) (v : A) (next : ℕ) → Bytes s → guard_parse F ok x place s at refused took ≡ took v next
      → Kept F ok v × Stands s at (F.write v) next
  guard-sound s at v next bs e =
      let (a, m, ea, e₁) = parse-inv F s at _ v next e in
      let (pass, e₂) = pick_inv (ok a) (by x (place at a)) _ v next e₁ in
      let (ga, sa) = F.sound s at a m bs ea in
      moved (λ w k. Kept F ok w × Stands s at (F.write w) k) e₂ ((ga, pass), sa)

  pub guard-complete : {R : Type 0} (s : List ℕ) (at : ℕ) (v : A) (t : List ℕ) (stop : Refusal → R) (go : A → ℕ → R) → Kept F ok v
      → drop at s ≡ F.write v ++ t → guard_parse F ok x place s at stop go ≡ go v (at + length (F.write v))
  guard-complete s at v t stop go h e = F.complete s at v t stop _ h.0 e ∙ rw h.1

  pub guard-stable : (s t : List ℕ) (at : ℕ) (e : Refusal) → Bytes s → (e.rule ≡ rule_of cut_short → ⊥)
      → guard_parse F ok x place s at refused took ≡ refused e → guard_parse F ok x place (s ++ t) at refused took ≡ refused e
  guard-stable s t at e bs ne = parse-stable F s t at _ _ e bs ne (λ a m r q. q)

  pub guard-ruled : (s : List ℕ) (at : ℕ) (e : Refusal) → guard_parse F ok x place s at refused took ≡ refused e → Ruled e.rule
  guard-ruled s at e = parse-ruled F s at _ e (λ a m. pick-ruled (ok a) x (place at a) a m e)

  pub guard-placed : ((at : ℕ) (a : A) → F.Good a → place at a ≤ at + length (F.write a))
      → (s : List ℕ) (at : ℕ) (e : Refusal) → Bytes s → at ≤ length s → guard_parse F ok x place s at refused took ≡ refused e → e.place ≤ length s
  guard-placed within s at e bs h =
      parse-placed F s at _ e bs h (λ a m ga sa i. pick-placed (length s) (ok a) (by x (place at a)) a m e (omega (arith, within at a ga)))

-- ---- the same bytes as a value of another type

module _ {A B : Type 0} (F : Format A) (to : A → B) where
  pub as_same : {R : Type 0} (s : List ℕ) (at : ℕ) (stop : Refusal → R) (go : B → ℕ → R)
      → as_parse F to s at stop go ≡ on_result (as_parse F to s at refused took) stop go
  as_same s at stop go = parse-same F s at _ _ stop go (λ a m. refl)

  pub as-stable : (s t : List ℕ) (at : ℕ) (e : Refusal) → Bytes s → (e.rule ≡ rule_of cut_short → ⊥)
      → as_parse F to s at refused took ≡ refused e → as_parse F to (s ++ t) at refused took ≡ refused e
  as-stable s t at e bs ne = parse-stable F s t at _ _ e bs ne (λ a m r q. q)

  pub as-ruled : (s : List ℕ) (at : ℕ) (e : Refusal) → as_parse F to s at refused took ≡ refused e → Ruled e.rule
  as-ruled s at e = parse-ruled F s at _ e (λ a m q. took-refused (to a) m e q)

  pub as-placed : (s : List ℕ) (at : ℕ) (e : Refusal) → Bytes s → at ≤ length s → as_parse F to s at refused took ≡ refused e → e.place ≤ length s
  as-placed s at e bs h = parse-placed F s at _ e bs h (λ a m ga sa j q. took-refused (to a) m e q)

module _ {A B : Type 0} (F : Format A) (Fit : B → Type 0) (i : Same F.Good Fit) where
  pub as-sound : (s : List ℕ) (at : ℕ) (v : B) (next : ℕ) → Bytes s → as_parse F i.to s at refused took ≡ took v next
      → Fit v × Stands s at (F.write (i.from v)) next
  as-sound s at v next bs e =
      let (a, m, ea, e₁) = parse-inv F s at _ v next e in
      let (ga, sa) = F.sound s at a m bs ea in
      moved (λ w k. Fit w × Stands s at (F.write (i.from w)) k) e₁ (i.fit a ga, rw (i.from-to a ga) sa)

  pub as-complete : {R : Type 0} (s : List ℕ) (at : ℕ) (v : B) (t : List ℕ) (stop : Refusal → R) (go : B → ℕ → R) → Fit v
      → drop at s ≡ F.write (i.from v) ++ t → as_parse F i.to s at stop go ≡ go v (at + length (F.write (i.from v)))
  as-complete s at v t stop go h e =
      F.complete s at (i.from v) t stop _ (i.has v h) e ∙ ap (λ b. go b (at + length (F.write (i.from v)))) (i.to-from v h)

-- ---- no bytes, for the single value a

module _ {A : Type 0} (a : A) where
  pub only-sound : (s : List ℕ) (at : ℕ) (v : A) (next : ℕ) → Bytes s → took a at ≡ took v next → (v ≡ a) × Stands s at [] next
  only-sound s at v next bs e = moved (λ w k. (w ≡ a) × Stands s at [] k) e (refl, record { ends = omega arith; there = refl })

  pub only-complete : {R : Type 0} (s : List ℕ) (at : ℕ) (v : A) (t : List ℕ) (stop : Refusal → R) (go : A → ℕ → R) → v ≡ a → drop at s ≡ [] ++ t
      → go a at ≡ go v (at + length {A = ℕ} [])
  only-complete s at v t stop go h e = ap₂ go (sym h) (sym (add-zero at))

-- ---- an integer that stands for one of the tags listed

module _ {K : Type 0} (code : K → ℕ) (N : Format ℕ) (ks : List K) (x : ReadingRule) where
  pub tag-stable : (s t : List ℕ) (at : ℕ) (e : Refusal) → Bytes s → (e.rule ≡ rule_of cut_short → ⊥)
      → tag_parse code N ks x s at refused took ≡ refused e → tag_parse code N ks x (s ++ t) at refused took ≡ refused e
  tag-stable s t at e bs ne = parse-stable N s t at _ _ e bs ne (λ n m r q. q)

module _ {K : Type 0} (code : K → ℕ) (decode : ℕ → K) (back : (k : K) → decode (code k) ≡ k) where
  pub find-is : {R : Type 0} (ks : List K) (n : ℕ) (go : K → R) (other : R) → find code ks n go other ≡ pick (listed code ks n) (go (decode n)) other
  find-is [] n go other = refl
  find-is (k ∷ ks) n go other = turn (eqb n (code k)) refl (find-is ks n go other)
    where
      turn : (b : Bool) → eqb n (code k) ≡ b → find code ks n go other ≡ pick (listed code ks n) (go (decode n)) other
          → pick b (go k) (find code ks n go other) ≡ pick (pick b true (listed code ks n)) (go (decode n)) other
      turn true p i = ap go (sym (back k) ∙ ap decode (sym (eqb-true n (code k) p)))
      turn false p i = i

  pub listed-code : (ks : List K) (n : ℕ) → listed code ks n ≡ true → code (decode n) ≡ n
  listed-code [] n q = let z : ◌≡◌ {A = ℕ} 0 1 = cc in absurd (omega arith)
  listed-code (k ∷ ks) n q = turn (eqb n (code k)) refl q (listed-code ks n)
    where
      turn : (b : Bool) → eqb n (code k) ≡ b → pick b true (listed code ks n) ≡ true → (listed code ks n ≡ true → code (decode n) ≡ n) → code (decode n) ≡ n
      turn true p q i = let e = eqb-true n (code k) p in ap code (ap decode e ∙ back k) ∙ sym e
      turn false p q i = i q

  module _ (N : Format ℕ) (ks : List K) (x : ReadingRule) where
    pub tag_same : {R : Type 0} (s : List ℕ) (at : ℕ) (stop : Refusal → R) (go : K → ℕ → R)
        → tag_parse code N ks x s at stop go ≡ on_result (tag_parse code N ks x s at refused took) stop go
    tag_same s at stop go =
        parse-same N s at _ _ stop go λ n m.
        find-is ks n (λ k. go k m) (stop (by x at)) ∙ pick_same (listed code ks n) (by x at) (decode n) m stop go
        ∙ ap (λ o. on_result o stop go) (sym (find-is ks n (λ k. took k m) (refused (by x at))))

    pub tag-sound : (s : List ℕ) (at : ℕ) (v : K) (next : ℕ) → Bytes s → tag_parse code N ks x s at refused took ≡ took v next
        → Tagged code N ks v × Stands s at (N.write (code v)) next
    tag-sound s at v next bs e =
        let (n, m, en, e₁) = parse-inv N s at _ v next e in
        let (has, e₂) = pick_inv (listed code ks n) (by x at) (took (decode n) m) v next (sym (find-is ks n (λ k. took k m) (refused (by x at))) ∙ e₁) in
        let (gn, sn) = N.sound s at n m bs en in
        moved (λ k j. Tagged code N ks k × Stands s at (N.write (code k)) j) e₂ (rw (listed-code ks n has) ((gn, has), sn))

    pub tag-complete : {R : Type 0} (s : List ℕ) (at : ℕ) (v : K) (t : List ℕ) (stop : Refusal → R) (go : K → ℕ → R) → Tagged code N ks v
        → drop at s ≡ N.write (code v) ++ t → tag_parse code N ks x s at stop go ≡ go v (at + length (N.write (code v)))
    tag-complete s at v t stop go h e =
        N.complete s at (code v) t stop _ h.0 e ∙ find-is ks (code v) _ (stop (by x at)) ∙ rw (h.1, back v)

    pub tag-ruled : (s : List ℕ) (at : ℕ) (e : Refusal) → tag_parse code N ks x s at refused took ≡ refused e → Ruled e.rule
    tag-ruled s at e =
        parse-ruled N s at _ e
        (λ n m q. pick-ruled (listed code ks n) x at (decode n) m e (sym (find-is ks n (λ k. took k m) (refused (by x at))) ∙ q))

    pub tag-placed : (s : List ℕ) (at : ℕ) (e : Refusal) → Bytes s → at ≤ length s → tag_parse code N ks x s at refused took ≡ refused e
        → e.place ≤ length s
    tag-placed s at e bs h =
        parse-placed N s at _ e bs h (λ n m gn sn i q.
        pick-placed (length s) (listed code ks n) (by x at) (decode n) m e h (sym (find-is ks n (λ k. took k m) (refused (by x at))) ∙ q))
