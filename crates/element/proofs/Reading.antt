-- Laws for the readers of this crate, in the form of those of wire's proofs/Reading: each law of the form z ≡ (the parse) goes one step into a
-- format's parser, by what the code has found. The proofs of the functions use `search` over the rulesets.
--   answers          what the answer of a reader says of its format's parser, stated once for any answer
--   order            what the code compares, and what the format compares; a key
--   lists            the rest of a list, by what the code keeps of the element before
--   outputs .. initial states    for each element: how the parser of what holds it continues from the reader's answer (`on-..`,
--                    `on-..-refused`)
--   rulesets         a chain that ends in a refusal or in an answer that is returned
-- Assumes nothing.
use Rattle.std.specs.Prelude.{Ok, Err, Result, Option, Some, None}
use Prim.Native.Nat.{ℕ, zero, suc, ◌+◌, ◌-◌, ◌^◌, ◌≤◌, ◌<◌}
use mathlib.Core.Path.{◌≡◌, refl, sym, ap, ◌∙◌}
use mathlib.Core.Bool.{Bool, true, false, not}
use mathlib.Core.Logic.{◌⊎◌, inl, inr}
use mathlib.Core.List.{List, [], ◌∷◌, ◌++◌}
use native.Mathlib.Omega.{arith}
use lib.ListN.{length, take, length-append}
use lib.Seq.{take_at}
use lib.Dec.{ltb, eqb}
use borrow.Author.Tests.{ltb-true, ltb-false, eq-eqb, ne_eqb}
use Rattle.wire.specs.declared.Refusal.{Refusal}
use Rattle.wire.specs.Bytes.{Bytes, digits, below, pick, between}
use Rattle.wire.specs.laws.Bytes.{length_digits}
use Rattle.wire.specs.Format.{Format, Parsed, took, refused, on_result, read, Stands}
use Rattle.wire.specs.laws.Format.{parse-inv}
use Rattle.wire.proofs.Format.{stands-part, parse-alike-read}
use Rattle.wire.specs.Numbers.{by, cut_at, unknown_type, out_of_order}
use Rattle.wire.specs.Fields.{blob, integer}
use Rattle.wire.specs.laws.Sizes.{length-integer}
use Rattle.wire.specs.Sequence.{and_then, guard, tag, items}
use Rattle.wire.specs.Series.{left, not_below, series, series_from, nondecreasing}
use Rattle.wire.specs.Parsers.{list_parse}
use Rattle.wire.specs.code.Answer.{ended, valued, whole_at}
use Rattle.wire.proofs.Bytes.{Slice, slice-bytes, found, below-digits, key_below_lem}
use Rattle.wire.proofs.Orders.{empty-below}
use Rattle.wire.proofs.Trying.{passed-on, same-parts}
use Rattle.wire.proofs.Reading as W
use Rattle.string.proofs.Reading as S
use Rattle.owners.specs.Owners.{owners}
use Rattle.owners.proofs.Reading.{on-owners, on-owners-refused}
use Rattle.element.specs.Outputs.{amount}
use Rattle.element.specs.Inputs.{key, Input, spend, input_after, input}
use Rattle.element.specs.Operations.{OperationType, mint_nft, transfer_nft, operation_code, operation_type, operation_type-code, operation_owners}
use Rattle.element.specs.Operations.{terms, operation, Fx, secp_fx, nft_fx, fx_code, fx_of, fx_of-code, fx_id, state_outputs, InitialState}
use Rattle.element.specs.Operations.{initial_state_after, initial_state}
use Rattle.element.specs.declared.inputs.Key.{Key}
use Rattle.element.specs.code.Answer.{and_next, in_order, ordered, integer_follows, key_follows, keyed, key_of}

-- ---- answers: what an answer with one case for a value and one for a refusal says about the parse

pub took_of : {A T : Type 0} (o : Parsed A) (stop : Refusal → T) (whole : A → ℕ → T) (y : T) → on_result o stop whole ≡ y → ((e : Refusal) → stop e ≡ y → ⊥)
    → (v : A) × (m : ℕ) × (o ≡ took v m) × (whole v m ≡ y)
took_of (took v m) stop whole y q n = (v, m, refl, q)
took_of (refused e) stop whole y q n = absurd (n e q)

pub refused-of : {A T : Type 0} (o : Parsed A) (stop : Refusal → T) (whole : A → ℕ → T) (y : T) → on_result o stop whole ≡ y
    → ((v : A) (m : ℕ) → whole v m ≡ y → ⊥)
    → (e : Refusal) × (o ≡ refused e) × (stop e ≡ y)
refused-of (took v m) stop whole y q n = absurd (n v m q)
refused-of (refused e) stop whole y q n = (e, refl, q)

module _ {A T : Type 0} (F : Format A) (s : List ℕ) (at : ℕ) (stop : Refusal → T) (whole : A → ℕ → T) (x : T) (p : x ≡ F.parse s at stop whole) (y : T)
    (q : x ≡ y) where
  pub answer-took : ((e : Refusal) → stop e ≡ y → ⊥) → (v : A) × (m : ℕ) × (read F s at ≡ took v m) × (whole v m ≡ y)
  answer-took = took_of (read F s at) stop whole y (sym (F.same s at stop whole) ∙ found p q)

  pub answer-refused : ((v : A) (m : ℕ) → whole v m ≡ y → ⊥) → (e : Refusal) × (read F s at ≡ refused e) × (stop e ≡ y)
  answer-refused = refused-of (read F s at) stop whole y (sym (F.same s at stop whole) ∙ found p q)

-- How the parse of F, with the continuations stop and go, continues from the answer x of a reader of F, whose two cases are `no` and `whole`. The laws
-- `on-..` and `on-..-refused` below are these two, each for a format by name; there, `cc` shows that the cases differ and what each says
module _ {A T R : Type 0} (F : Format A) (no : Refusal → T) (whole : A → ℕ → T) (s : List ℕ) (at : ℕ) (z : R) (stop : Refusal → R) (go : A → ℕ → R)
    (x : T) (p : x ≡ F.parse s at no whole) where
  -- x is y, which is not a refusal and says that the value ends at n
  pub on-whole : (y : T) (n : ℕ) → x ≡ y → ((e : Refusal) → no e ≡ y → ◌≡◌ {A = ℕ} 0 1) → ((v : A) (m : ℕ) → whole v m ≡ y → m ≡ n)
      → ((v : A) → whole v n ≡ y → read F s at ≡ took v n → z ≡ go v n) → z ≡ F.parse s at stop go
  on-whole y n q never ends e =
      let (v, m, t, i) = answer-took F s at no whole x p y q (λ d j. let k : ◌≡◌ {A = ℕ} 0 1 = never d j in omega arith) in
      let em : m ≡ n = ends v m i in
      let u : read F s at ≡ took v n = t ∙ ap (took v) em in
      e v (ap (whole v) (sym em) ∙ i) u ∙ sym (W.parse-took F s at stop go v n u)

  -- the reader's refusal is returned
  pub on-refused : (e : Refusal) → x ≡ no e → ((v : A) (m : ℕ) → whole v m ≡ no e → ◌≡◌ {A = ℕ} 0 1) → ((d : Refusal) → no d ≡ no e → d ≡ e) → z ≡ stop e
      → z ≡ F.parse s at stop go
  on-refused e q never same r =
      let (d, t, i) = answer-refused F s at no whole x p (no e) q (λ v m j. let k : ◌≡◌ {A = ℕ} 0 1 = never v m j in omega arith) in
      r ∙ ap stop (sym (same d i)) ∙ sym (W.parse-refused F s at stop go d t)

-- ---- order: the code keeps the element before, if there is one; the format keeps its bytes, [] before the first

-- integers, such as indices
abbrev pub Small : Option ℕ → Type 0
Small None = Unit {0}
Small (Some n) = n < 256 ^ 4

abbrev pub integer_before : Option ℕ → List ℕ
integer_before None = []
integer_before (Some n) = (integer 4).write n

integer-below : (prev : Option ℕ) (v : ℕ) → Small prev → v < 256 ^ 4 → below (integer_before prev) ((integer 4).write v) ≡ integer_follows prev v
unfolding integer
integer-below None v h i = empty-below (digits 4 v) (omega (arith, length_digits 4 v))
integer-below (Some p) v h i = below-digits 4 p v h i

module _ {R : Type 0} (prev : Option ℕ) (v : ℕ) (t : Bool) (z X Y : R) (e : t ≡ integer_follows prev v) (h : Small prev) where
  pub if-integer-follows : t ≡ true → v < 256 ^ 4 → z ≡ X → z ≡ pick (below (integer_before prev) ((integer 4).write v)) X Y
  if-integer-follows q i j = rw (integer-below prev v h i, found e q) j

  pub if-integer-not : t ≡ false → v < 256 ^ 4 → z ≡ Y → z ≡ pick (below (integer_before prev) ((integer 4).write v)) X Y
  if-integer-not q i j = rw (integer-below prev v h i, found e q) j

-- keys, an identifier and an index
abbrev pub GoodBefore : Option Key → Type 0
GoodBefore None = Unit {0}
GoodBefore (Some k) = key.Good (k.id, k.index)

abbrev pub key_before : Option Key → List ℕ
key_before None = []
key_before (Some k) = key.write (k.id, k.index)

key-below : (prev : Option Key) (k : Key) → GoodBefore prev → key.Good (k.id, k.index)
    → below (key_before prev) (key.write (k.id, k.index)) ≡ key_follows prev k
unfolding key integer blob
key-below None k h i = empty-below (k.id ++ digits 4 k.index) (omega (arith, length-append k.id (digits 4 k.index), length_digits 4 k.index))
key-below (Some p) k h i = key_below_lem p.id k.id p.index k.index (h.0.0 ∙ sym i.0.0) h.1 i.1

module _ {R : Type 0} (prev : Option Key) (k : Key) (t : Bool) (z X Y : R) (e : t ≡ key_follows prev k) (h : GoodBefore prev) where
  pub if-key-follows : t ≡ true → key.Good (k.id, k.index) → z ≡ X → z ≡ pick (below (key_before prev) (key.write (k.id, k.index))) X Y
  if-key-follows q i j = rw (key-below prev k h i, found e q) j

  pub if-key-not : t ≡ false → key.Good (k.id, k.index) → z ≡ Y → z ≡ pick (below (key_before prev) (key.write (k.id, k.index))) X Y
  if-key-not q i j = rw (key-below prev k h i, found e q) j

-- a key's index is read with the key, and its identifier by value after it
key-id : (s : List ℕ) (at : ℕ) (v : List ℕ × ℕ) (n : ℕ) → read key s at ≡ took v n → whole_at 32 s at ≡ v.0
unfolding key and_then
key-id s at v n h =
    let (id, i, ei, e) = parse-inv (blob 32) s at _ v n h in
    let (index, k, ek, f) = parse-inv (integer 4) s i (λ index k. took (id, index) k) v n e in
    let same : (id, index) ≡ v = cc in
    W.whole_part 32 s at id i ei ∙ ap (λ (k : List ℕ × ℕ). k.0) same

key-parts : (s : List ℕ) (at : ℕ) (v : List ℕ × ℕ) (i : ℕ) (k : Key) → k ≡ key_of s at i → whole_at 32 s at ≡ v.0 → v.1 ≡ i → v ≡ (k.id, k.index)
key-parts s at v i k h e f = rw (h, e, f) refl

module _ (s : List ℕ) (at : ℕ) (x : Result (ℕ × ℕ) Refusal) (p : x ≡ keyed s at) where
  key-took : (k : Key) (n i : ℕ) → k ≡ key_of s at i → x ≡ Ok (i, n) → read key s at ≡ took (k.id, k.index) n
  key-took k n i h q =
      let (v, m, t, j) = answer-took key s at Err (λ v n. Ok (v.1, n)) x p (Ok (i, n)) q (λ e j. let z : ◌≡◌ {A = ℕ} 0 1 = cc in omega arith) in
      let (ei, em) = same-parts j in
      t ∙ rw (key-parts s at v i k h (key-id s at v m t) ei, em) refl

  pub key_read : (k : Key) (n i : ℕ) → k ≡ key_of s at i → x ≡ Ok (i, n) → Slice s → key.Good (k.id, k.index)
  key_read k n i h q b = (key.sound s at (k.id, k.index) n (slice-bytes s b) (key-took k n i h q)).0

  module _ {R : Type 0} (z : R) (stop : Refusal → R) (go : List ℕ × ℕ → ℕ → R) where
    pub on-key : (k : Key) (n i : ℕ) → k ≡ key_of s at i → x ≡ Ok (i, n) → z ≡ go (k.id, k.index) n → z ≡ key.parse s at stop go
    on-key k n i h q e = e ∙ sym (W.parse-took key s at stop go (k.id, k.index) n (key-took k n i h q))

    pub on-key-refused : (e : Refusal) → x ≡ Err e → z ≡ stop e → z ≡ key.parse s at stop go
    on-key-refused e q r = on-refused key Err (λ v n. Ok (v.1, n)) s at z stop go x p e q (λ v m j. cc) (λ d j. cc) r

-- ---- lists: what is left of one, given what the code keeps of the element before

-- elements that depend only on the first k bytes of the one before: the code keeps only these
module _ {A : Type 0} (G : List ℕ → Format A) (k : ℕ) (viewed : A → List ℕ) (front : (b : List ℕ) (a : A) → (G b).Good a
    → take k ((G b).write a) ≡ viewed a) where
  items-viewed : {R : Type 0} (s : List ℕ) → Bytes s → (n : ℕ) (prev : List ℕ) (at : ℕ) (stop : Refusal → R) (go : List A → ℕ → R)
      → (items G (λ b a. viewed a) (take k prev) n).parse s at stop go ≡ (items (λ p. G (take k p)) (left (λ p. G (take k p))) prev n).parse s at stop go
  unfolding items list_parse
  items-viewed s bs zero prev at stop go = refl
  items-viewed s bs (suc n) prev at stop go =
      parse-alike-read (G (take k prev)) s at stop _ _ (λ a m q.
      ap (λ (b : List ℕ). list_parse G (λ b a. viewed a) n b s m stop (λ l j. go (a ∷ l) j))
      (sym (front (take k prev) a ((G (take k prev)).sound s at a m bs q).0))
      ∙ items-viewed s bs n ((G (take k prev)).write a) m stop (λ l j. go (a ∷ l) j))

-- ---- outputs

pub on-amount : W.Ends amount
on-amount = W.ends amount

pub on-amount-refused : W.Stops amount
on-amount-refused = W.stops amount

-- the types are compared one by one; the code found the one after this
pub if-another : {R : Type 0} (a b v : ℕ) (z x y : R) → v ≡ b → eqb b a ≡ false → z ≡ y → z ≡ pick (eqb v a) x y
if-another a b v z x y h i e = rw (h, i) e

-- the code's answer for an element that must not be below the one before is that of the format of such an element
ordered-is : {A : Type 0} (F : Format A) (s : List ℕ) (prev at : ℕ) → Slice s → in_order s prev at (ended F s at) ≡ ended (not_below F (between prev at s)) s at
unfolding guard
ordered-is {A = A} F s prev at b =
    ap (in_order s prev at) (F.same s at Err (λ v n. Ok n))
    ∙ cases (read F s at) refl
    ∙ sym (F.same s at Err (λ v n. pick (not (below (F.write v) (between prev at s))) (Ok n) (Err (by out_of_order at))))
  where
    turned : (t : Bool) (x y : Result ℕ Refusal) → pick t x y ≡ pick (not t) y x
    turned true x y = refl
    turned false x y = refl

    cases : (o : Parsed A) → read F s at ≡ o
        → in_order s prev at (on_result o Err (λ v n. Ok n))
        ≡ on_result o Err (λ v n. pick (not (below (F.write v) (between prev at s))) (Ok n) (Err (by out_of_order at)))
    cases (took v n) e =
        rw (stands-part s at (F.write v) n (F.sound s at v n (slice-bytes s b) e).1)
        (turned (below (between at n s) (between prev at s)) (Err (by out_of_order at)) (Ok n))
    cases (refused e) q = refl

-- an element that must not be below the one before: x is the answer of reading F, y is that answer after the order was checked
module _ {A R : Type 0} (F : Format A) (s : List ℕ) (prev at : ℕ) (z : R) (stop : Refusal → R) (go : A → ℕ → R) (x y : Result ℕ Refusal)
    (p : x ≡ ended F s at) (q : y ≡ in_order s prev at x) (b : Slice s) where
  ordered-ended : y ≡ ended (not_below F (between prev at s)) s at
  ordered-ended = q ∙ ap (in_order s prev at) p ∙ ordered-is F s prev at b

  pub on-ordered : (n : ℕ) → y ≡ Ok n → ((v : A) → Stands s at ((not_below F (between prev at s)).write v) n → z ≡ go v n)
      → z ≡ (not_below F (between prev at s)).parse s at stop go
  on-ordered n h e =
      let (v, t) = W.next-took (not_below F (between prev at s)) s at y n ordered-ended h in
      e v ((not_below F (between prev at s)).sound s at v n (slice-bytes s b) t).1 ∙ sym (W.parse-took (not_below F (between prev at s)) s at stop go v n t)

  pub on-disordered : (e : Refusal) → y ≡ Err e → z ≡ stop e → z ≡ (not_below F (between prev at s)).parse s at stop go
  on-disordered e h r = W.stops (not_below F (between prev at s)) R s at z stop go y e ordered-ended h r

-- a list of such elements: what the code makes of the answers `ended F s`, one after another
pub ordered-list : {A : Type 0} (F : Format A) (s : List ℕ) → Slice s → (n prev at : ℕ)
    → ordered (λ k. ended F s k) s prev at n ≡ ended (series_from (not_below F) (between prev at s) n) s at
unfolding items list_parse
ordered-list F s b zero prev at = refl
ordered-list {A = A} F s b (suc n) prev at = turn (λ m. ordered-list F s b n at m) (in_order s prev at (ended F s at)) refl
  where
    turn : ((m : ℕ) → ordered (λ k. ended F s k) s at m n ≡ ended (series_from (not_below F) (between at m s) n) s m)
        → (y : Result ℕ Refusal) → y ≡ in_order s prev at (ended F s at)
        → and_next y (λ m. ordered (λ k. ended F s k) s at m n) ≡ ended (series_from (not_below F) (between prev at s) (suc n)) s at
    turn rest (Ok m) q =
        on-ordered F s prev at _ Err _ (ended F s at) (Ok m) refl q b m refl
        (λ v h.
        rest m
        ∙ ap (λ (w : List ℕ). ended (series_from (not_below F) w n) s m) (sym (stands-part s at ((not_below F (between prev at s)).write v) m h)))
    turn rest (Err e) q = on-disordered F s prev at _ Err _ (ended F s at) (Err e) refl q b e refl refl

pub ordered-start : {A : Type 0} (F : Format A) (s : List ℕ) → Slice s → (n at : ℕ) → ordered (λ k. ended F s k) s at at n ≡ ended (nondecreasing F n) s at
ordered-start F s b n at = ordered-list F s b n at at ∙ W.list-start (not_below F) (left (not_below F)) s n at Err (λ l k. Ok k) at

-- one turn: r is the answer of reading the element at `at`, number i of c
module _ (f : ℕ → Result ℕ Refusal) (s : List ℕ) (prev at c i : ℕ) (y : Result ℕ Refusal) (o : ordered f s prev at (c - i) ≡ y) where
  pub ordered-end : c ≤ i → Ok at ≡ y
  ordered-end h = none (c - i) (omega arith) o
    where
      none : (n : ℕ) → n ≤ 0 → ordered f s prev at n ≡ y → Ok at ≡ y
      none zero h k = k
      none (suc n) h k = absurd (omega arith)

  module _ (h : i < c) (r : Result ℕ Refusal) (p : r ≡ f at) where
    ordered-next : and_next (in_order s prev at r) (λ m. ordered f s at m (c - (i + 1))) ≡ y
    ordered-next = rw p (some (c - i) (c - (i + 1)) (omega arith) o)
      where
        some : (n k : ℕ) → n ≡ k + 1 → ordered f s prev at n ≡ y → and_next (in_order s prev at (f at)) (λ m. ordered f s at m k) ≡ y
        some zero k e j = absurd (omega arith)
        some (suc n) k e j = let d : n ≡ k = omega arith in rw (← d) j

    pub ordered-refused : (e : Refusal) (z : Result ℕ Refusal) → r ≡ Err e → z ≡ Err e → z ≡ y
    ordered-refused e z q k = k ∙ rw q at ordered-next

    module _ (m : ℕ) (q : r ≡ Ok m) (t : Bool) (d : t ≡ below (between at m s) (between prev at s)) where
      pub ordered-on : t ≡ false → ordered f s at m (c - (i + 1)) ≡ y
      ordered-on k = rw (q, found d k) at ordered-next

      pub ordered-below : t ≡ true → (g : Refusal) → g ≡ by out_of_order at → Err g ≡ y
      ordered-below k g u = ap Err u ∙ rw (q, found d k) at ordered-next

-- ---- inputs

-- an input after its key
pub on-spend : W.Ends spend
on-spend = W.ends spend

pub on-spend-refused : W.Stops spend
on-spend-refused = W.stops spend

pub key-wide : (v : List ℕ × ℕ) → key.Good v → length (key.write v) ≡ 36
unfolding key integer blob
key-wide v h = omega (arith, h.0.0, length-append v.0 (digits 4 v.1), length_digits 4 v.1)

abbrev pub input_key : Input → List ℕ
input_key i = key.write (i.txid, i.index)

input-front : (b : List ℕ) (i : Input) → (input_after b).Good i → take 36 ((input_after b).write i) ≡ input_key i
unfolding input_after guard
input-front b i g = take_at (input_key i) (spend.write (i.asset, (tt, (i.amount, i.indices)))) 36 (key-wide (i.txid, i.index) g.0.0)

-- the inputs that are left, given the key of the one before
abbrev pub inputs_after : List ℕ → ℕ → Format (List Input)
inputs_after before n = items input_after (λ b i. input_key i) before n

pub inputs_are : (s : List ℕ) → Slice s → (n at : ℕ) → ended (inputs_after [] (n - 0)) s at ≡ ended (series input n) s at
inputs_are s b n at =
    ap (λ (k : ℕ). ended (inputs_after [] k) s at) (omega arith)
    ∙ items-viewed input_after 36 input_key input-front s (slice-bytes s b) n [] at Err (λ l k. Ok k)

-- ---- operations

pub on-terms : W.Ends terms
on-terms = W.ends terms

pub on-terms-refused : W.Stops terms
on-terms-refused = W.stops terms

-- after the terms: the owners that the type has
module _ (type_id : ℕ) (s : List ℕ) (at : ℕ) (z : Result ℕ Refusal) where
  pub if-mint : type_id ≡ 12 → z ≡ ended (operation_owners mint_nft) s at → z ≡ ended (operation_owners (operation_type type_id)) s at
  if-mint h e = rw h e

  pub if-transfer : (type_id ≡ 12 → ⊥) → z ≡ ended owners s at → z ≡ ended (operation_owners (operation_type type_id)) s at
  if-transfer h e = rw (ne_eqb type_id 12 h) e

-- whether v is one of two types, c and the next
one_of : (c d v : ℕ) → d ≡ suc c → c ≤ v → v ≤ d → pick (eqb v c) true (pick (eqb v d) true false) ≡ true
one_of c d v e h i = cases (ltb v d) refl
  where
    cases : (b : Bool) → ltb v d ≡ b → pick (eqb v c) true (pick (eqb v d) true false) ≡ true
    cases true j = rw (eq-eqb v c (omega (arith, ltb-true v d j)))
    cases false j = rw (ne_eqb v c (λ k. omega (arith, ltb-false v d j)), eq-eqb v d (omega (arith, ltb-false v d j)))

none_of : (c d v : ℕ) → (v ≡ c → ⊥) → (v ≡ d → ⊥) → pick (eqb v c) true (pick (eqb v d) true false) ≡ false
none_of c d v h i = rw (ne_eqb v c h, ne_eqb v d i)

-- the type of an operation, which the code compares with 12 and 13
abbrev operation_tag : Format OperationType
operation_tag = tag operation_code operation_type operation_type-code (integer 4) (mint_nft ∷ transfer_nft ∷ []) unknown_type

module _ {R : Type 0} (s : List ℕ) (at : ℕ) (z : R) (stop : Refusal → R) (go : OperationType → ℕ → R) (x : Result (ℕ × ℕ) Refusal)
    (p : x ≡ valued (integer 4) s at) where
  pub on-operation-type : (v n : ℕ) → x ≡ Ok (v, n) → ((v ≡ 12 → ⊥) × (v ≡ 13)) ⊎ (v ≡ 12) → z ≡ go (operation_type v) n
      → z ≡ operation_tag.parse s at stop go
  on-operation-type v n q h =
      W.on-tag operation_code operation_type operation_type-code 4 (mint_nft ∷ transfer_nft ∷ []) unknown_type s at z stop go x p v n q (listed-type h)
    where
      listed-type : ((v ≡ 12 → ⊥) × (v ≡ 13)) ⊎ (v ≡ 12) → pick (eqb v 12) true (pick (eqb v 13) true false) ≡ true
      listed-type (inr i) = rw (eq-eqb v 12 i)
      listed-type (inl (i, j)) = rw (ne_eqb v 12 i, eq-eqb v 13 j)

  pub on-operation-type-unknown : (v n : ℕ) → x ≡ Ok (v, n) → (v ≡ 12 → ⊥) → (v ≡ 13 → ⊥) → z ≡ stop (by unknown_type at) → z ≡ operation_tag.parse s at stop go
  on-operation-type-unknown v n q h i =
      W.on-tag-unknown operation_code operation_type operation_type-code 4 (mint_nft ∷ transfer_nft ∷ []) unknown_type s at z stop go x p v n q
      (none_of 12 13 v h i)

  pub on-operation-type-refused : (e : Refusal) → x ≡ Err e → z ≡ stop e → z ≡ operation_tag.parse s at stop go
  unfolding tag
  on-operation-type-refused e q r = W.on-integer-refused 4 s at z stop _ x e p q r

pub on-operation : W.Ends operation
on-operation = W.ends operation

pub on-operation-refused : W.Stops operation
on-operation-refused = W.stops operation

-- ---- initial states

pub fx_of-write : (n : ℕ) → n ≤ 1 → fx_id.write (fx_of n) ≡ (integer 4).write n
unfolding fx_id
fx_of-write zero h = refl
fx_of-write (suc zero) h = refl
fx_of-write (suc (suc n)) h = absurd (omega arith)

module _ {R : Type 0} (s : List ℕ) (at : ℕ) (z : R) (stop : Refusal → R) (go : Fx → ℕ → R) (x : Result (ℕ × ℕ) Refusal) (p : x ≡ valued (integer 4) s at) where
  pub on-fx : (v n : ℕ) → x ≡ Ok (v, n) → v ≤ 1 → z ≡ go (fx_of v) n → z ≡ fx_id.parse s at stop go
  unfolding fx_id
  on-fx v n q h = W.on-tag fx_code fx_of fx_of-code 4 (secp_fx ∷ nft_fx ∷ []) unknown_type s at z stop go x p v n q (one_of 0 1 v refl (omega arith) h)

  pub on-fx-unknown : (v n : ℕ) → x ≡ Ok (v, n) → 1 < v → z ≡ stop (by unknown_type at) → z ≡ fx_id.parse s at stop go
  unfolding fx_id
  on-fx-unknown v n q h =
      W.on-tag-unknown fx_code fx_of fx_of-code 4 (secp_fx ∷ nft_fx ∷ []) unknown_type s at z stop go x p v n q
      (none_of 0 1 v (λ i. omega arith) (λ i. omega arith))

  pub on-fx-refused : (e : Refusal) → x ≡ Err e → z ≡ stop e → z ≡ fx_id.parse s at stop go
  unfolding fx_id tag
  on-fx-refused e q r = W.on-integer-refused 4 s at z stop _ x e p q r

  pub on-fx-short : (e : Refusal) → x ≡ Err e → (f : Refusal) → f ≡ cut_at 4 s at → z ≡ stop f → z ≡ fx_id.parse s at stop go
  unfolding fx_id
  on-fx-short = W.on-tag-short fx_code fx_of fx_of-code 4 (secp_fx ∷ nft_fx ∷ []) unknown_type s at z stop go x p

module _ (fx : ℕ) (small : fx ≤ 1) where
  module _ {R : Type 0} (prev : Option ℕ) (t : Bool) (z X Y : R) (e : t ≡ integer_follows prev fx) (h : Small prev) where
    pub if-fx-follows : t ≡ true → z ≡ X → z ≡ pick (below (integer_before prev) (fx_id.write (fx_of fx))) X Y
    if-fx-follows q i = rw (fx_of-write fx small) (if-integer-follows prev fx t z X Y e h q (omega arith) i)

    pub if-fx-not : t ≡ false → z ≡ Y → z ≡ pick (below (integer_before prev) (fx_id.write (fx_of fx))) X Y
    if-fx-not q i = rw (fx_of-write fx small) (if-integer-not prev fx t z X Y e h q (omega arith) i)

  pub fx-again : {A R : Type 0} (E : List ℕ → Format A) (step : List ℕ → A → List ℕ) (s : List ℕ) (m k : ℕ) (stop : Refusal → R) (go : List A → ℕ → R)
      → (items E step ((integer 4).write fx) m).parse s k stop go ≡ (items E step (fx_id.write (fx_of fx)) m).parse s k stop go
  fx-again E step s m k stop go = rw (fx_of-write fx small)

abbrev pub state_key : InitialState → List ℕ
state_key v = fx_id.write v.fx

state-front : (b : List ℕ) (v : InitialState) → (initial_state_after b).Good v → take 4 ((initial_state_after b).write v) ≡ state_key v
unfolding initial_state_after guard fx_id
state-front b v g = take_at (state_key v) ((state_outputs v.fx).write v.outputs) 4 (length-integer 4 (fx_code v.fx))

-- the initial states that are left, given the FxID of the one before
abbrev pub states_after : List ℕ → ℕ → Format (List InitialState)
states_after before n = items initial_state_after (λ b v. state_key v) before n

pub states-are : (s : List ℕ) → Slice s → (n at : ℕ) → ended (states_after [] (n - 0)) s at ≡ ended (series initial_state n) s at
states-are s b n at =
    ap (λ (k : ℕ). ended (states_after [] k) s at) (omega arith)
    ∙ items-viewed initial_state_after 4 state_key state-front s (slice-bytes s b) n [] at Err (λ l k. Ok k)

pub on-state-outputs : (k : Fx) → W.Ends (state_outputs k)
on-state-outputs k = W.ends (state_outputs k)

pub on-state-outputs-refused : (k : Fx) → W.Stops (state_outputs k)
on-state-outputs-refused k = W.stops (state_outputs k)

-- ---- rulesets: a chain that ends in a refusal or in an answer that is returned

pub ruleset reading = (W.reading, passed-on, S.on-string, S.on-string-refused, on-owners, on-owners-refused, on-amount, on-amount-refused)

-- an operation after its pairs
pub ruleset acting =
    (on-operation-type, on-operation-type-unknown, on-operation-type-refused, on-terms, on-terms-refused, passed-on, W.part-made)

-- an element that starts with a key
pub ruleset keys = (W.for_on, on-key, on-key-refused, key_read, if-key-follows, if-key-not, passed-on, W.part-made)
