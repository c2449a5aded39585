-- Laws of any parser and any format: the laws of a combinator are made of these
use Rattle.std.specs.Prelude.{◌≡◌, refl, ℕ, ◌≤◌, Bool, true, false, List, [], ◌∷◌, ◌++◌, length, drop}
use Rattle.std.proofs.Common.{sym, ap, ◌∙◌, subst, subst₂, arith, append_assoc, length-append, length-drop, drop_of_length-le}
use Rattle.std.proofs.Math.Decide.{dec_le}
use Rattle.std.proofs.lemmas.List.{drop-append-le}
use Rattle.wire.specs.declared.Refusal.{Refusal}
use Rattle.wire.specs.Bytes.{Bytes, pick}
use Rattle.wire.specs.Numbers.{ReadingRule, rule_of, Ruled, by, cut_short}
use Rattle.wire.specs.Format.{Format, Parsed, took, refused, on_result, Stands, read}

pub refused-took : {A : Type 0} {P : Type 0} (e : Refusal) (v : A) (n : ℕ) → refused e ≡ took v n → P
refused-took e v n q = let z : ◌≡◌ {A = ℕ} 0 1 = cc in absurd (omega arith)

pub took-refused : {A P : Type 0} (v : A) (n : ℕ) (e : Refusal) → took v n ≡ refused e → P
took-refused v n e q = let z : ◌≡◌ {A = ℕ} 0 1 = cc in absurd (omega arith)

-- a property of the value and the offset that were taken holds of any equal value and offset
pub moved : {A : Type 0} (P : A → ℕ → Type 0) {a v : A} {m n : ℕ} → took a m ≡ took v n → P a m → P v n
moved P {a} {v} {m} {n} e p =
    let ev : a ≡ v = cc in
    let en : m ≡ n = cc in
    subst₂ P ev en p

pub result-inv : {A B : Type 0} (o : Parsed A) (k : A → ℕ → Parsed B) (b : B) (n : ℕ) → on_result o refused k ≡ took b n
    → (a : A) × (m : ℕ) × (o ≡ took a m) × (k a m ≡ took b n)
result-inv (took a m) k b n q = (a, m, refl, q)
result-inv (refused e) k b n q = refused-took e b n q

-- if a parser followed by k takes b, the parser itself takes some a, and k of a takes b
pub parse-inv : {A B : Type 0} (F : Format A) (s : List ℕ) (at : ℕ) (k : A → ℕ → Parsed B) (b : B) (n : ℕ) → F.parse s at refused k ≡ took b n
    → (a : A) × (m : ℕ) × (F.parse s at refused took ≡ took a m) × (k a m ≡ took b n)
parse-inv F s at k b n q = result-inv (F.parse s at refused took) k b n (sym (F.same s at refused k) ∙ q)

-- if the second parser does the same for all continuations, so do the two in sequence
pub result-same : {A B R : Type 0} (o : Parsed A) (k : A → ℕ → Parsed B) (h : A → ℕ → R) (stop : Refusal → R) (go : B → ℕ → R)
    → ((a : A) (m : ℕ) → h a m ≡ on_result (k a m) stop go) → on_result o stop h ≡ on_result (on_result o refused k) stop go
result-same (took a m) k h stop go q = q a m
result-same (refused e) k h stop go q = refl

pub parse-same : {A B R : Type 0} (F : Format A) (s : List ℕ) (at : ℕ) (k : A → ℕ → Parsed B) (h : A → ℕ → R) (stop : Refusal → R) (go : B → ℕ → R)
    → ((a : A) (m : ℕ) → h a m ≡ on_result (k a m) stop go) → F.parse s at stop h ≡ on_result (F.parse s at refused k) stop go
parse-same F s at k h stop go q =
    F.same s at stop h ∙ result-same (F.parse s at refused took) k h stop go q ∙ ap (λ o. on_result o stop go) (sym (F.same s at refused k))

-- ---- a test after a parse

pub pick_inv : {A : Type 0} (t : Bool) (e : Refusal) (o : Parsed A) (v : A) (n : ℕ) → pick t o (refused e) ≡ took v n → (t ≡ true) × (o ≡ took v n)
pick_inv true e o v n q = (refl, q)
pick_inv false e o v n q = refused-took e v n q

pub pick_same : {A R : Type 0} (t : Bool) (e : Refusal) (v : A) (n : ℕ) (stop : Refusal → R) (go : A → ℕ → R)
    → pick t (go v n) (stop e) ≡ on_result (pick t (took v n) (refused e)) stop go
pick_same true e v n stop go = refl
pick_same false e v n stop go = refl

pub refused-rule : {A : Type 0} (d e : Refusal) → ◌≡◌ {A = Parsed A} (refused d) (refused e) → e.rule ≡ d.rule
refused-rule d e q = let z : e ≡ d = cc in ap (λ (r : Refusal). r.rule) z

pub pick-ruled : {A : Type 0} (t : Bool) (r : ReadingRule) (p : ℕ) (v : A) (n : ℕ) (e : Refusal) → pick t (took v n) (refused (by r p)) ≡ refused e
    → Ruled e.rule
pick-ruled true r p v n e q = took-refused v n e q
pick-ruled false r p v n e q = (r, refused-rule (by r p) e q)

pub refused-placed : {A : Type 0} (b : ℕ) (d e : Refusal) → d.place ≤ b → ◌≡◌ {A = Parsed A} (refused d) (refused e) → e.place ≤ b
refused-placed b d e h q = let z : d ≡ e = cc in subst (λ (r : Refusal). r.place ≤ b) z h

pub pick-placed : {A : Type 0} (b : ℕ) (t : Bool) (d : Refusal) (v : A) (n : ℕ) (e : Refusal) → d.place ≤ b → pick t (took v n) (refused d) ≡ refused e
    → e.place ≤ b
pick-placed b true d v n e h q = took-refused v n e q
pick-placed {A} b false d v n e h q = refused-placed {A = A} b d e h q

-- ---- where written bytes stand

pub stands-append : (s : List ℕ) (at : ℕ) (a : List ℕ) (m : ℕ) (b : List ℕ) (n : ℕ) → Stands s at a m → Stands s m b n → Stands s at (a ++ b) n
stands-append s at a m b n h k =
    record {
      ends = omega (arith, length-append a b);
      there = h.there ∙ ap (λ (r : List ℕ). a ++ r) k.there ∙ sym (append_assoc a b (drop n s));
    }

-- if a value starts inside s, it ends inside s
pub stands-inside : (s : List ℕ) (at : ℕ) (w : List ℕ) (next : ℕ) → Stands s at w next → at ≤ length s → next ≤ length s
stands-inside s at w next h k = omega (arith, simp (length-drop, length-append) at (ap length h.there))

-- ---- appended bytes

pub stands-extended : (s t : List ℕ) (at : ℕ) (w : List ℕ) (n : ℕ) → Stands s at w n → (r : List ℕ) × (drop at (s ++ t) ≡ w ++ r)
stands-extended s t at w n h = elim (dec_le at (length s)) [ yes k ↦ inside k | no k ↦ beyond (omega arith) ]
  where
    inside : at ≤ length s → (r : List ℕ) × (drop at (s ++ t) ≡ w ++ r)
    inside k = (drop n s ++ t, drop-append-le at s t k ∙ ap (λ (r : List ℕ). r ++ t) h.there ∙ append_assoc w (drop n s) t)

    none-there : (w r : List ℕ) → w ++ r ≡ [] → w ≡ []
    none-there [] r e = refl
    none-there (x ∷ w) r e = absurd (cons-nil e)
      where
        cons-nil : x ∷ (w ++ r) ≡ [] → ⊥
        cons-nil q = let z : ◌≡◌ {A = ℕ} 0 1 = cc in omega arith

    beyond : length s ≤ at → (r : List ℕ) × (drop at (s ++ t) ≡ w ++ r)
    beyond k =
        let e : w ≡ [] = none-there w (drop n s) (sym h.there ∙ drop_of_length-le s k) in
        (drop at (s ++ t), ap (λ (v : List ℕ). v ++ drop at (s ++ t)) (sym e))

-- a value that is read is still read when bytes are appended
pub kept : {A : Type 0} (F : Format A) (s t : List ℕ) (at : ℕ) (v : A) (n : ℕ) → Bytes s → read F s at ≡ took v n → read F (s ++ t) at ≡ took v n
kept F s t at v n bs e =
    let (g, h) = F.sound s at v n bs e in
    let (r, q) = stands-extended s t at (F.write v) n h in
    F.complete (s ++ t) at v r refused took g q ∙ ap (took v) (sym h.ends)

-- a refusal of two parsers in sequence stays, if each parser's result stays
pub result-stable : {A B : Type 0} (o o' : Parsed A) (k k' : A → ℕ → Parsed B) (e : Refusal) → ((a : A) (m : ℕ) → o ≡ took a m → o' ≡ took a m)
    → (o ≡ refused e → o' ≡ refused e) → ((a : A) (m : ℕ) → o ≡ took a m → k a m ≡ refused e → k' a m ≡ refused e)
    → on_result o refused k ≡ refused e → on_result o' refused k' ≡ refused e
result-stable (took a m) o' k k' e f g h q = rw (f a m refl) (h a m refl q)
result-stable (refused d) o' k k' e f g h q = let z : d ≡ e = cc in rw (g (ap refused z))

pub parse-stable : {A B : Type 0} (F : Format A) (s t : List ℕ) (at : ℕ) (k k' : A → ℕ → Parsed B) (e : Refusal) → Bytes s → (e.rule ≡ rule_of cut_short → ⊥)
    → ((a : A) (m : ℕ) → read F s at ≡ took a m → k a m ≡ refused e → k' a m ≡ refused e)
    → F.parse s at refused k ≡ refused e → F.parse (s ++ t) at refused k' ≡ refused e
parse-stable F s t at k k' e bs ne h q =
    F.same (s ++ t) at refused k'
    ∙ result-stable (read F s at) (read F (s ++ t) at) k k' e (λ a m. kept F s t at a m bs) (F.stable s t at e bs ne) h (sym (F.same s at refused k) ∙ q)

-- ---- the rule of a refusal

pub result-ruled : {A B : Type 0} (o : Parsed A) (k : A → ℕ → Parsed B) (e : Refusal) → ((d : Refusal) → o ≡ refused d → Ruled d.rule)
    → ((a : A) (m : ℕ) → k a m ≡ refused e → Ruled e.rule) → on_result o refused k ≡ refused e → Ruled e.rule
result-ruled (took a m) k e f g q = g a m q
result-ruled (refused d) k e f g q = let z : d ≡ e = cc in f e (ap refused z)

pub parse-ruled : {A B : Type 0} (F : Format A) (s : List ℕ) (at : ℕ) (k : A → ℕ → Parsed B) (e : Refusal)
    → ((a : A) (m : ℕ) → k a m ≡ refused e → Ruled e.rule) → F.parse s at refused k ≡ refused e → Ruled e.rule
parse-ruled F s at k e g q = result-ruled (read F s at) k e (F.ruled s at) g (sym (F.same s at refused k) ∙ q)

-- ---- the place of a refusal

pub result-placed : {A B : Type 0} (b : ℕ) (o : Parsed A) (k : A → ℕ → Parsed B) (e : Refusal) → ((d : Refusal) → o ≡ refused d → d.place ≤ b)
    → ((a : A) (m : ℕ) → o ≡ took a m → k a m ≡ refused e → e.place ≤ b) → on_result o refused k ≡ refused e → e.place ≤ b
result-placed b (took a m) k e f g q = g a m refl q
result-placed b (refused d) k e f g q = let z : d ≡ e = cc in f e (ap refused z)

-- the continuation may use that a good value was read, and that it ends inside s
pub parse-placed : {A B : Type 0} (F : Format A) (s : List ℕ) (at : ℕ) (k : A → ℕ → Parsed B) (e : Refusal) → Bytes s → at ≤ length s
    → ((a : A) (m : ℕ) → F.Good a → Stands s at (F.write a) m → m ≤ length s → k a m ≡ refused e → e.place ≤ length s)
    → F.parse s at refused k ≡ refused e → e.place ≤ length s
parse-placed F s at k e bs h g q =
    result-placed (length s) (read F s at) k e (λ d. F.placed s at d bs h)
    (λ a m r. let (ga, sa) = F.sound s at a m bs r in g a m ga sa (stands-inside s at (F.write a) m sa h)) (sym (F.same s at refused k) ∙ q)
