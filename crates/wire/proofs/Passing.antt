-- Laws for functions that skip over what was read. Each law goes one step into a format, by what a call ensures and what the match on its answer
-- found. `Yields` is opaque, so that `search` takes a format apart by these laws only.
-- Assumes nothing.
use Rattle.std.specs.Prelude.{Ok, Err, Result}
use Prim.Native.Nat.{ℕ, ◌+◌}
use mathlib.Core.Path.{◌≡◌, refl, sym, ap, ◌∙◌, subst}
use mathlib.Core.List.{List, ◌++◌}
use native.Mathlib.Omega.{arith}
use lib.ListN.{length, drop}
use Rattle.wire.specs.declared.Refusal.{Refusal}
use Rattle.wire.specs.Numbers.{ReadingRule, by}
use Rattle.wire.specs.Format.{Format, Parsed, took, refused, read}
use Rattle.wire.specs.laws.Format.{parse-inv, pick_inv, moved}
use Rattle.wire.proofs.Format.{read-complete}
use Rattle.wire.specs.Fields.{blob, integer}
use Rattle.wire.specs.laws.Sizes.{length-integer}
use Rattle.wire.specs.Sequence.{tag}
use Rattle.wire.specs.laws.Sequence.{find-is}
use Rattle.wire.specs.Parsers.{listed}
use Rattle.wire.specs.code.Answer.{ended, valued, Passes, Tells}
use Rattle.wire.proofs.Trying.{same-parts}
use Rattle.wire.proofs.Bytes.{found, Slice, slice-bytes}
use Rattle.wire.proofs.Reading.{parse-took}

-- if the result is a value, z is what `go` makes of it
unfoldable pub Yields : {A R : Type 0} → Parsed A → (A → ℕ → R) → R → Type 0
Yields {A} o go z = (v : A) (n : ℕ) → o ≡ took v n → z ≡ go v n

abbrev pub Leads : {A R : Type 0} → Format A → List ℕ → ℕ → (A → ℕ → R) → R → Type 0
Leads F s at go z = Yields (read F s at) go z

-- ---- answers

same_next : {j m : ℕ} → ◌≡◌ {A = Result ℕ Refusal} (Ok j) (Ok m) → j ≡ m
same_next e = cc

next-refused : {j : ℕ} {e : Refusal} → ◌≡◌ {A = Result ℕ Refusal} (Ok j) (Err e) → ⊥
next-refused r = let k : ◌≡◌ {A = ℕ} 0 1 = cc in omega arith

value-refused : {d j : ℕ} {e : Refusal} → ◌≡◌ {A = Result (ℕ × ℕ) Refusal} (Ok (d, j)) (Err e) → ⊥
value-refused r = let k : ◌≡◌ {A = ℕ} 0 1 = cc in omega arith

-- ---- contracts

abbrev pub next : {A : Type 0} → A → ℕ → Result ℕ Refusal
next v n = Ok n

abbrev pub answered : {A : Type 0} → (A → ℕ) → A → ℕ → Result (ℕ × ℕ) Refusal
answered f v n = Ok (f v, n)

module _ {A : Type 0} (F : Format A) (s : List ℕ) (at : ℕ) where
  pub passes : (z : Result ℕ Refusal) → Leads F s at next z → Passes F s at z
  unfolding Yields
  passes z h = h

  pub leads : (z : Result ℕ Refusal) → Passes F s at z → Leads F s at next z
  unfolding Yields
  leads z h = h

  pub tells : (f : A → ℕ) (z : Result (ℕ × ℕ) Refusal) → Leads F s at (answered f) z → Tells F f s at z
  unfolding Yields
  tells f z h = h

  -- an answer that is the whole parse, with its refusals
  pub leads-parse : {R : Type 0} (go : A → ℕ → R) (z : R) (stop : Refusal → R) → z ≡ F.parse s at stop go → Leads F s at go z
  unfolding Yields
  leads-parse go z stop h v n e = h ∙ parse-took F s at stop go v n e

-- ---- the same bytes, read by another format

-- every value of F is one of G, with the same bytes
abbrev pub Covers : {A B : Type 0} → Format A → Format B → (A → B) → Type 0
Covers {A} F G f = (v : A) → F.Good v → G.Good (f v) × (F.write v ≡ G.write (f v))

module _ {A B : Type 0} (F : Format A) (G : Format B) (f : A → B) (c : Covers F G f) (s : List ℕ) (at : ℕ) (b : Slice s) where
  pub reread : (v : A) (n : ℕ) → read F s at ≡ took v n → read G s at ≡ took (f v) n
  reread v n e =
      let (g, st) = F.sound s at v n (slice-bytes s b) e in
      let (h, w) = c v g in
      read-complete G s at (f v) (drop n s) h (st.there ∙ ap (λ (x : List ℕ). x ++ drop n s) w)
      ∙ ap (took (f v)) (sym (st.ends ∙ ap (λ (x : List ℕ). at + length x) w))

  pub leads-covered : {R : Type 0} (go : B → ℕ → R) (z : R) → Leads G s at go z → Leads F s at (λ a n. go (f a) n) z
  unfolding Yields
  leads-covered go z h v n e = h (f v) n (reread v n e)

-- every value of the format has k bytes
abbrev pub Wide : {A : Type 0} → Format A → ℕ → Type 0
Wide {A} F k = (v : A) → F.Good v → length (F.write v) ≡ k

pub wide-covers : {A : Type 0} (F : Format A) (k : ℕ) → Wide F k → Covers F (blob k) F.write
unfolding blob
wide-covers F k h v g = ((h v g, F.bytes v g), refl)

-- ---- one format after another: F was read, and k continues

-- the end: everything was read
pub yields-end : {A R : Type 0} (v : A) (n : ℕ) (go : A → ℕ → R) (z : R) → z ≡ go v n → Yields (took v n) go z
unfolding Yields
yields-end v n go z h w m e = moved (λ w m. z ≡ go w m) e h

module _ {A B R : Type 0} (F : Format A) (s : List ℕ) (at : ℕ) (k : A → ℕ → Parsed B) (go : B → ℕ → R) (z : R) where
  pub yields-parse : ((v : A) (n : ℕ) → read F s at ≡ took v n → Yields (k v n) go z) → Yields (F.parse s at refused k) go z
  unfolding Yields
  yields-parse h w m e =
      let (v, n, ev, e₁) = parse-inv F s at k w m e in
      h v n ev w m e₁

  -- x is the answer of a call that skips a value of F
  module _ (x : Result ℕ Refusal) (p : Passes F s at x) where
    pub parse-whole : ((v : A) (n : ℕ) → x ≡ Ok n → Yields (k v n) go z) → Yields (F.parse s at refused k) go z
    parse-whole h = yields-parse (λ v n e. h v n (p v n e))

    pub parse-next : (m : ℕ) → x ≡ Ok m → ((v : A) → Yields (k v m) go z) → Yields (F.parse s at refused k) go z
    parse-next m q h = parse-whole (λ v n e. subst (λ (j : ℕ). Yields (k v j) go z) (sym (same_next (found e q))) (h v))

    pub parse-refused : (e : Refusal) → x ≡ Err e → Yields (F.parse s at refused k) go z
    parse-refused e q = parse-whole (λ v n r. absurd (next-refused (found r q)))

  -- x is the answer of a call that skips a value of F and returns a number computed from it
  module _ (f : A → ℕ) (x : Result (ℕ × ℕ) Refusal) (p : Tells F f s at x) where
    pub answered-whole : ((v : A) (n : ℕ) → x ≡ Ok (f v, n) → Yields (k v n) go z) → Yields (F.parse s at refused k) go z
    answered-whole h = yields-parse (λ v n e. h v n (p v n e))

    pub answered-next : (c m : ℕ) → x ≡ Ok (c, m) → ((v : A) → c ≡ f v → Yields (k v m) go z) → Yields (F.parse s at refused k) go z
    answered-next c m q h =
        answered-whole (λ v n e.
        let (i, j) = same-parts (found e q) in
        subst (λ (j : ℕ). Yields (k v j) go z) (sym j) (h v (sym i)))

    pub answered-refused : (e : Refusal) → x ≡ Err e → Yields (F.parse s at refused k) go z
    answered-refused e q = answered-whole (λ v n r. absurd (value-refused (found r q)))

-- a format of one width, skipped as that many bytes
module _ {A : Type 0} (F : Format A) (w : ℕ) (wide : Wide F w) (s : List ℕ) (at : ℕ) (b : Slice s) (x : Result ℕ Refusal) (p : x ≡ ended (blob w) s at) where
  pub passes-wide : Passes F s at x
  passes-wide = passes F s at x (leads-covered F (blob w) F.write (wide-covers F w wide) s at b next x (leads-parse (blob w) s at next x Err p))

module _ {B R : Type 0} (s : List ℕ) (at : ℕ) (go : B → ℕ → R) (z : R) where
  module _ (w : ℕ) (k : List ℕ → ℕ → Parsed B) (x : Result ℕ Refusal) (p : x ≡ ended (blob w) s at) where
    part-passes : Passes (blob w) s at x
    part-passes = passes (blob w) s at x (leads-parse (blob w) s at next x Err p)

    pub part-next : (m : ℕ) → x ≡ Ok m → ((v : List ℕ) → Yields (k v m) go z) → Yields ((blob w).parse s at refused k) go z
    part-next = parse-next (blob w) s at k go z x part-passes

    pub part-refused : (e : Refusal) → x ≡ Err e → Yields ((blob w).parse s at refused k) go z
    part-refused = parse-refused (blob w) s at k go z x part-passes

  module _ (w : ℕ) (k : ℕ → ℕ → Parsed B) where
    module _ (x : Result (ℕ × ℕ) Refusal) (p : x ≡ valued (integer w) s at) where
      integer-tells : Tells (integer w) (λ c. c) s at x
      integer-tells = tells (integer w) s at (λ c. c) x (leads-parse (integer w) s at (λ v n. Ok (v, n)) x Err p)

      pub value-next : (c m : ℕ) → x ≡ Ok (c, m) → Yields (k c m) go z → Yields ((integer w).parse s at refused k) go z
      value-next c m q h =
          answered-next (integer w) s at k go z (λ c. c) x integer-tells c m q (λ v i. subst (λ (d : ℕ). Yields (k d m) go z) i h)

      pub value-short : (e : Refusal) → x ≡ Err e → Yields ((integer w).parse s at refused k) go z
      value-short = answered-refused (integer w) s at k go z (λ c. c) x integer-tells

    -- an integer that is skipped as bytes
    module _ (b : Slice s) (x : Result ℕ Refusal) (p : x ≡ ended (blob w) s at) where
      pub integer-next : (m : ℕ) → x ≡ Ok m → ((v : ℕ) → Yields (k v m) go z) → Yields ((integer w).parse s at refused k) go z
      integer-next = parse-next (integer w) s at k go z x (passes-wide (integer w) w (λ v g. length-integer w v) s at b x p)

      pub integer-refused : (e : Refusal) → x ≡ Err e → Yields ((integer w).parse s at refused k) go z
      integer-refused = parse-refused (integer w) s at k go z x (passes-wide (integer w) w (λ v g. length-integer w v) s at b x p)

-- along byte strings and integers, to the end
pub ruleset passing = (part-next, part-refused, value-next, value-short, integer-next, integer-refused, yields-end)

-- an integer that encodes a type
module _ {B K R : Type 0} (code : K → ℕ) (decode : ℕ → K) (back : (k : K) → decode (code k) ≡ k) (w : ℕ) (ks : List K) (r : ReadingRule)
    (s : List ℕ) (at : ℕ) (k : K → ℕ → Parsed B) (go : B → ℕ → R) (z : R) (x : Result (ℕ × ℕ) Refusal) (p : x ≡ valued (integer w) s at) where
  tag-parse : (Yields ((integer w).parse s at refused (λ n m. k (decode n) m)) go z)
      → Yields ((tag code decode back (integer w) ks r).parse s at refused k) go z
  unfolding tag Yields
  tag-parse h v n e =
      let (c, m, ec, e₁) = parse-inv (integer w) s at _ v n e in
      let (_, e₂) = pick_inv (listed code ks c) (by r at) (k (decode c) m) v n (sym (find-is code decode back ks c (λ j. k j m) (refused (by r at))) ∙ e₁) in
      h v n (parse-took (integer w) s at refused _ c m ec ∙ e₂)

  pub tag-next : (c m : ℕ) → x ≡ Ok (c, m) → Yields (k (decode c) m) go z → Yields ((tag code decode back (integer w) ks r).parse s at refused k) go z
  tag-next c m q h = tag-parse (value-next s at go z w (λ n m. k (decode n) m) x p c m q h)

  pub tag-short : (e : Refusal) → x ≡ Err e → Yields ((tag code decode back (integer w) ks r).parse s at refused k) go z
  tag-short e q = tag-parse (value-short s at go z w (λ n m. k (decode n) m) x p e q)

-- ---- a loop over a list

module _ {A S : Type 0} (E : S → Format A) (step : S → A → S) (s : List ℕ) where
  -- x is the answer of a call that skips the element at `at`, in any state
  unfoldable pub Each : ℕ → Result ℕ Refusal → Type 0
  Each at x = (st : S) → Leads (E st) s at next x
