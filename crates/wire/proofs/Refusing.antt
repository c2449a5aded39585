-- By which rules a format refuses: for each combinator, the rules of its components and the rule that it adds. `ruled`, of Format, says this of the
-- reading rules as a whole; here it is for any set of rules P. Assumes nothing.
use mathlib.Core.Path.{◌≡◌, refl, sym, ap, ◌∙◌, subst}
use Prim.Native.Nat.{ℕ, zero, suc, ◌+◌, ◌-◌, ◌≤◌}
use native.Mathlib.Omega.{arith}
use mathlib.Core.Logic.{◌⊎◌, inl, inr, ⊎_elim}
use mathlib.Core.Bool.{Bool, true, false, false≢true}
use mathlib.Core.List.{List, [], ◌∷◌}
use lib.ListN.{length, take, drop}
use lib.Dec.{leb, eqb}
use Rattle.wire.specs.declared.Rule.{Rule}
use Rattle.wire.specs.declared.Refusal.{Refusal}
use Rattle.wire.specs.Bytes.{value, pick}
use Rattle.wire.specs.Numbers.{rule_number, refusal, ReadingRule, rule_of, Ruled, by, empty_list, wrong_count, too_long, bytes_after_end}
use Rattle.wire.specs.Numbers.{cut_short, wrong_codec, unknown_type, zero_amount, out_of_order, bad_threshold, bad_length, not_printable, bad_denomination}
use Rattle.wire.specs.Format.{Format, Parsed, took, refused, on_result, read}
use Rattle.wire.specs.laws.Format.{refused-rule, took-refused}
use Rattle.wire.specs.Fields.{blob, integer, constant}
use Rattle.wire.specs.Sequence.{and_then, guard_at, guard, only, tag, items}
use Rattle.wire.specs.laws.Sequence.{find-is}
use Rattle.wire.specs.Series.{left, series_from, series, above, not_below, count_prefixed}
use Rattle.wire.specs.Parsers.{list_parse, blob_parse, listed}
use Rattle.wire.specs.laws.Items.{list_same}
use Rattle.wire.specs.Orders.{OneOf}
use Rattle.wire.specs.Whole.{whole}
use Rattle.wire.proofs.Orders.{listed-good}

-- a reading rule is the one for a field cut short, or another
pub cut-or-other : (x : Rule) → Ruled x → (x ≡ rule_of cut_short) ⊎ (x ≡ rule_of cut_short → ⊥)
cut-or-other x (r, e) = rw e (each r)
  where
    each : (r : ReadingRule) → (rule_of r ≡ rule_of cut_short) ⊎ (rule_of r ≡ rule_of cut_short → ⊥)
    each cut_short = inl refl
    each wrong_codec = inr (λ q. let z = ap rule_number q in omega arith)
    each unknown_type = inr (λ q. let z = ap rule_number q in omega arith)
    each zero_amount = inr (λ q. let z = ap rule_number q in omega arith)
    each out_of_order = inr (λ q. let z = ap rule_number q in omega arith)
    each bad_threshold = inr (λ q. let z = ap rule_number q in omega arith)
    each bad_length = inr (λ q. let z = ap rule_number q in omega arith)
    each not_printable = inr (λ q. let z = ap rule_number q in omega arith)
    each bad_denomination = inr (λ q. let z = ap rule_number q in omega arith)
    each empty_list = inr (λ q. let z = ap rule_number q in omega arith)
    each wrong_count = inr (λ q. let z = ap rule_number q in omega arith)

-- P holds of the rule of every refusal
abbrev pub RefusesBy : {A : Type 0} → Format A → (Rule → Type 0) → Type 0
RefusesBy F P = (s : List ℕ) (at : ℕ) (e : Refusal) → read F s at ≡ refused e → P e.rule

-- a number is in a list if the test finds it
pub one_of : (l : List ℕ) (n : ℕ) → listed (λ (k : ℕ). k) l n ≡ true → OneOf n l
one_of l n = (listed-good (λ (k : ℕ). k) (λ (k : ℕ). k) (λ k. refl) l n).0

-- every number of l is in m
abbrev pub contains : List ℕ → List ℕ → Bool
contains m [] = true
contains m (n ∷ l) = pick (listed (λ (k : ℕ). k) m n) (contains m l) false

pub contained : (m l : List ℕ) → contains m l ≡ true → (n : ℕ) → OneOf n l → OneOf n m
contained m [] e n h = absurd h
contained m (k ∷ l) e n h = turn (listed (λ (i : ℕ). i) m k) refl e (λ q. contained m l q n)
  where
    turn : (b : Bool) → listed (λ (i : ℕ). i) m k ≡ b → pick b (contains m l) false ≡ true → (contains m l ≡ true → OneOf n l → OneOf n m) → OneOf n m
    turn true p q more = ⊎_elim (λ i. subst (λ (j : ℕ). OneOf j m) (sym i) (one_of m k p)) (more q) h
    turn false p q more = absurd (false≢true q)

-- the number of the rule is in l
abbrev pub NumberIn : List ℕ → Rule → Type 0
NumberIn l r = OneOf (rule_number r) l

-- a format that refuses by the numbers of a list refuses by those of any list that contains it
pub refuses-more : {A : Type 0} (F : Format A) (l m : List ℕ) → contains m l ≡ true → RefusesBy F (NumberIn l) → RefusesBy F (NumberIn m)
refuses-more F l m h f s at e q = contained m l h (rule_number e.rule) (f s at e q)

module _ (P : Rule → Type 0) where
  -- ---- results of a parse

  refused-by : {A : Type 0} (d e : Refusal) → P d.rule → ◌≡◌ {A = Parsed A} (refused d) (refused e) → P e.rule
  refused-by {A} d e h q = subst P (sym (refused-rule {A = A} d e q)) h

  pub result-refuses : {A B : Type 0} (o : Parsed A) (k : A → ℕ → Parsed B) (e : Refusal) → ((d : Refusal) → o ≡ refused d → P d.rule)
      → ((a : A) (m : ℕ) → k a m ≡ refused e → P e.rule) → on_result o refused k ≡ refused e → P e.rule
  result-refuses (took a m) k e f g q = g a m q
  result-refuses {A} {B} (refused d) k e f g q = refused-by {A = B} d e (f d refl) q

  pub parse-refuses : {A B : Type 0} (F : Format A) (s : List ℕ) (at : ℕ) (k : A → ℕ → Parsed B) (e : Refusal) → RefusesBy F P
      → ((a : A) (m : ℕ) → k a m ≡ refused e → P e.rule) → F.parse s at refused k ≡ refused e → P e.rule
  parse-refuses F s at k e h g q = result-refuses (read F s at) k e (h s at) g (sym (F.same s at refused k) ∙ q)

  -- a test that refuses if it fails
  pub pick-refuses : {A : Type 0} (t : Bool) (d : Refusal) (o : Parsed A) (e : Refusal) → P d.rule → (o ≡ refused e → P e.rule)
      → pick t o (refused d) ≡ refused e → P e.rule
  pick-refuses true d o e h g q = g q
  pick-refuses {A} false d o e h g q = refused-by {A = A} d e h q

  -- ---- fields

  pub blob-refuses : (n : ℕ) → P (rule_of cut_short) → RefusesBy (blob n) P
  unfolding blob blob_parse
  blob-refuses n h s at e = pick-refuses (leb n (length s - at)) (by cut_short at) _ e h (λ q. took-refused (take n (drop at s)) (at + n) e q)

  -- ---- combinators

  pub then-refuses : {A : Type 0} {B : A → Type 0} (F : Format A) (G : (a : A) → Format (B a)) → RefusesBy F P → ((a : A) → RefusesBy (G a) P)
      → RefusesBy (and_then F G) P
  unfolding and_then
  then-refuses F G f g s at e = parse-refuses F s at _ e f (λ a m. parse-refuses (G a) s m _ e (g a) (λ b n q. took-refused (a, b) n e q))

  module _ {A : Type 0} (F : Format A) (ok : A → Bool) (x : ReadingRule) (f : RefusesBy F P) (h : P (rule_of x)) where
    pub guard_at-refuses : (place : ℕ → A → ℕ) (within : (at : ℕ) (a : A) → F.Good a → place at a ≤ at + length (F.write a))
        → RefusesBy (guard_at F ok x place within) P
    unfolding guard_at
    guard_at-refuses place within s at e = parse-refuses F s at _ e f (λ a m. pick-refuses (ok a) (by x (place at a)) _ e h (λ q. took-refused a m e q))

    pub guard-refuses : RefusesBy (guard F ok x) P
    unfolding guard guard_at
    guard-refuses s at e = parse-refuses F s at _ e f (λ a m. pick-refuses (ok a) (by x at) _ e h (λ q. took-refused a m e q))

  -- «as» and `named`: F is parsed, and `to` maps its value. Stated for the parse, the only field of their formats that matters here
  pub mapped-refuses : {A B : Type 0} (F : Format A) (to : A → B) → RefusesBy F P → (s : List ℕ) (at : ℕ) (e : Refusal)
      → F.parse s at refused (λ a m. took (to a) m) ≡ refused e → P e.rule
  mapped-refuses F to f s at e = parse-refuses F s at _ e f (λ a m q. took-refused (to a) m e q)

  pub only-refuses : {A : Type 0} (a : A) → RefusesBy (only a) P
  unfolding only
  only-refuses a s at e q = took-refused a at e q

  pub tag-refuses : {K : Type 0} (code : K → ℕ) (decode : ℕ → K) (back : (k : K) → decode (code k) ≡ k) (N : Format ℕ) (ks : List K) (x : ReadingRule)
      → RefusesBy N P → P (rule_of x) → RefusesBy (tag code decode back N ks x) P
  unfolding tag
  tag-refuses code decode back N ks x f h s at e =
      parse-refuses N s at _ e f λ n m q.
      pick-refuses (listed code ks n) (by x at) (took (decode n) m) e h (λ q. took-refused (decode n) m e q)
      (sym (find-is code decode back ks n (λ k. took k m) (refused (by x at))) ∙ q)

  -- ---- integers

  pub integer-refuses : (w : ℕ) → P (rule_of cut_short) → RefusesBy (integer w) P
  unfolding integer
  integer-refuses w h = mapped-refuses (blob w) value (blob-refuses w h)

  pub constant-refuses : (w v : ℕ) (x : ReadingRule) → P (rule_of cut_short) → P (rule_of x) → RefusesBy (constant w v x) P
  unfolding constant
  constant-refuses w v x h k = mapped-refuses (guard (integer w) (λ n. eqb n v) x) (λ n. tt)
      (guard-refuses (integer w) (λ n. eqb n v) x (integer-refuses w h) k)

  -- ---- lists

  pub items-refuses : {A S : Type 0} (E : S → Format A) (step : S → A → S) (st : S) (n : ℕ) → ((st : S) → RefusesBy (E st) P) → RefusesBy (items E step st n) P
  unfolding items list_parse
  items-refuses {A} E step st zero f s at e q = took-refused [] at e q
  items-refuses {A} E step st (suc n) f s at e q =
      parse-refuses (E st) s at _ e (f st)
      (λ a m q.
      result-refuses (list_parse E step n (step st a) s m refused took) (λ l k. took (a ∷ l) k) e (items-refuses E step (step st a) n f s m)
      (λ l k q. took-refused (a ∷ l) k e q) (sym (list_same E step n (step st a) s m refused (λ l k. took (a ∷ l) k)) ∙ q))
      q

  pub series-refuses : {A : Type 0} (E : List ℕ → Format A) (prev : List ℕ) (n : ℕ) → ((prev : List ℕ) → RefusesBy (E prev) P)
      → RefusesBy (series_from E prev n) P
  series-refuses E prev n = items-refuses E (left E) prev n

  pub above-refuses : {A : Type 0} (F : Format A) (prev : List ℕ) → RefusesBy F P → P (rule_of out_of_order) → RefusesBy (above F prev) P
  above-refuses F prev f h = guard-refuses F _ out_of_order f h

  pub not_below-refuses : {A : Type 0} (F : Format A) (prev : List ℕ) → RefusesBy F P → P (rule_of out_of_order) → RefusesBy (not_below F prev) P
  not_below-refuses F prev f h = guard-refuses F _ out_of_order f h

  pub counted-refuses : {A : Type 0} (C : Format ℕ) (E : List ℕ → Format A) → RefusesBy C P → ((prev : List ℕ) → RefusesBy (E prev) P)
      → RefusesBy (count_prefixed C E) P
  unfolding count_prefixed
  counted-refuses C E f g = mapped-refuses (and_then C (series E)) (λ v. v.1) (then-refuses C (series E) f (λ n. series-refuses E [] n g))

  -- ---- the whole of a byte string

  pub whole-refuses : {A : Type 0} (F : Format A) (most : ℕ) → RefusesBy F P → P too_long → P bytes_after_end → (s : List ℕ) (e : Refusal)
      → whole F most s refused took ≡ refused e → P e.rule
  whole-refuses F most f h k s e =
      pick-refuses (leb (length s) most) (refusal too_long 0) _ e h
      (parse-refuses F s 0 _ e f (λ v n. pick-refuses (eqb n (length s)) (refusal bytes_after_end n) _ e k (λ q. took-refused v n e q)))
