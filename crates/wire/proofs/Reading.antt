-- Laws for functions that read a format. Each law goes one step into the format's parser, by what the code has found; the rulesets hold them all, so
-- that `search` follows the parser by what the calls ensure and what the code's tests found, with no path into its context. The conclusion of each
-- law is the whole goal of a `return`, z ≡ (the parse), for any answer z; its premises are what a call ensures, what the match on its answer found,
-- and the rest of the parse. The format, s and `at` are inferred from the goal; the answer x and its fields, from the context.
-- Assumes nothing.
use Rattle.std.specs.Prelude.{Ok, Err, Result, Option, Some, None}
use Rattle.std.specs.Result.{result_ok}
use Prim.Native.Nat.{ℕ, zero, suc, ◌+◌, ◌-◌, ◌*◌, ◌^◌, ◌≤◌, ◌<◌}
use mathlib.Core.Path.{◌≡◌, refl, sym, ap, ◌∙◌, subst}
use mathlib.Core.List.{List, [], ◌∷◌}
use mathlib.Core.Bool.{Bool, true, false, not}
use native.Mathlib.Omega.{arith}
use native.Mathlib.Numerals.{sub-one}
use native.Mathlib.Nat.{not-suc-le-zero, mul-zero, mul-suc, add_comm, mul-le-mul, le_of_lt}
use lib.ListN.{length, take, drop, replicate, length-append, length-drop, length-replicate}
use lib.Seq.{length-take-le, take_all}
use lib.Dec.{ltb, leb, eqb}
use borrow.Author.Tests.{lt-ltb, le-ltb, le-leb, lt-leb, leb-true, eq-eqb, ne_eqb}
use Rattle.wire.specs.declared.Refusal.{Refusal}
use Rattle.wire.specs.Bytes.{value, pick, between, below}
use Rattle.wire.specs.Numbers.{ReadingRule, by, cut_at}
use Rattle.wire.specs.Format.{Format, Parsed, took, refused, on_result, read, Stands}
use Rattle.wire.specs.laws.Format.{refused-took, took-refused, stands-append}
use Rattle.wire.proofs.Format.{stands-part}
use Rattle.wire.specs.Fields.{blob, integer}
use Rattle.wire.specs.laws.Sizes.{length-integer}
use Rattle.wire.specs.Sequence.{guard, tag, items}
use Rattle.wire.specs.laws.Sequence.{find-is}
use Rattle.wire.specs.Series.{left, above, increasing}
use Rattle.wire.specs.Parsers.{list_parse, list_write, Chain, blob_parse, listed}
use Rattle.wire.specs.code.Answer.{ended, valued, whole_at}
use Rattle.wire.proofs.Trying.{passed-on, same-parts, ok-some, ok-none}
use Rattle.wire.proofs.Bytes.{found, Slice, slice-bytes}

-- ---- what the two cases of each answer say about the parse. A crate with answers of its own states the same for them

module _ {A R : Type 0} (F : Format A) (s : List ℕ) (at : ℕ) (stop : Refusal → R) (go : A → ℕ → R) where
  -- the format read v, up to n
  pub parse-took : (v : A) (n : ℕ) → read F s at ≡ took v n → F.parse s at stop go ≡ go v n
  parse-took v n q = F.same s at stop go ∙ ap (λ o. on_result o stop go) q

  pub parse-refused : (e : Refusal) → read F s at ≡ refused e → F.parse s at stop go ≡ stop e
  parse-refused e q = F.same s at stop go ∙ ap (λ o. on_result o stop go) q

pub part-next-inv : {A : Type 0} (o : Parsed A) (n : ℕ) → on_result o Err (λ v m. Ok m) ≡ Ok n → (v : A) × (o ≡ took v n)
part-next-inv (took v m) n q = (v, ap (λ k. took v k) cc)
part-next-inv (refused e) n q = let z : ◌≡◌ {A = ℕ} 0 1 = cc in absurd (omega arith)

pub part-refused-inv : {A : Type 0} (o : Parsed A) (e : Refusal) → on_result o Err (λ v m. Ok m) ≡ Err e → o ≡ refused e
part-refused-inv (took v m) e q = let z : ◌≡◌ {A = ℕ} 0 1 = cc in absurd (omega arith)
part-refused-inv (refused d) e q = ap refused cc

pub integer-value-inv : (o : Parsed ℕ) (v n : ℕ) → on_result {R = Result (ℕ × ℕ) Refusal} o Err (λ v n. Ok (v, n)) ≡ Ok (v, n) → o ≡ took v n
integer-value-inv (took w m) v n q =
    let (a, b) = same-parts q in
    rw (a, b)
integer-value-inv (refused e) v n q = let z : ◌≡◌ {A = ℕ} 0 1 = cc in absurd (omega arith)

pub integer-refused-inv : (o : Parsed ℕ) (e : Refusal) → on_result {R = Result (ℕ × ℕ) Refusal} o Err (λ v n. Ok (v, n)) ≡ Err e → o ≡ refused e
integer-refused-inv (took v m) e q = let z : ◌≡◌ {A = ℕ} 0 1 = cc in absurd (omega arith)
integer-refused-inv (refused d) e q = ap refused cc

-- ---- leaves: t is the answer of the code's test whether the bytes are there

pub room-there : (k n at : ℕ) (t : Bool) → t ≡ leb k (n - at) → t ≡ true → k ≤ n - at
room-there k n at t p h = leb-true k (n - at) (found p h)

-- the offset just past them fits in 64 bits
pub room_fits : (k n at : ℕ) (t : Bool) → t ≡ leb k (n - at) → t ≡ true → n < 2 ^ 64 → at < 2 ^ 64 → at + k < 2 ^ 64
room_fits k n at t p h i j = omega (arith, room-there k n at t p h)

module _ {R : Type 0} (k : ℕ) (s : List ℕ) (at : ℕ) (z : R) (stop : Refusal → R) (t : Bool) where
  pub blob-there : (go : List ℕ → ℕ → R) → t ≡ leb k (length s - at) → t ≡ true → z ≡ go (take k (drop at s)) (at + k) → z ≡ (blob k).parse s at stop go
  unfolding blob blob_parse
  blob-there go p h e = rw (found p h) e

  pub blob-cut : (go : List ℕ → ℕ → R) → t ≡ leb k (length s - at) → t ≡ false → (f : Refusal) → f ≡ cut_at k s at → z ≡ stop f
      → z ≡ (blob k).parse s at stop go
  unfolding blob blob_parse
  blob-cut go p h f g e = rw (found p h) (e ∙ ap stop g)

  pub integer-there : (go : ℕ → ℕ → R) (v : ℕ) → t ≡ leb k (length s - at) → t ≡ true → v ≡ value (take k (drop at s)) → z ≡ go v (at + k)
      → z ≡ (integer k).parse s at stop go
  unfolding integer
  integer-there go v p h q e = blob-there (λ b m. go (value b) m) p h (e ∙ ap (λ u. go u (at + k)) q)

  pub integer-cut : (go : ℕ → ℕ → R) → t ≡ leb k (length s - at) → t ≡ false → (f : Refusal) → f ≡ cut_at k s at → z ≡ stop f
      → z ≡ (integer k).parse s at stop go
  unfolding integer
  integer-cut go p h f g e = blob-cut (λ b m. go (value b) m) p h f g e

pub ruleset leaf = (blob-there, blob-cut, integer-there, integer-cut)

-- the same, if it is known without a test
pub blob-has : {R : Type 0} (k : ℕ) (s : List ℕ) (at : ℕ) (z : R) (stop : Refusal → R) (go : List ℕ → ℕ → R) → k ≤ length s - at
    → z ≡ go (take k (drop at s)) (at + k) → z ≡ (blob k).parse s at stop go
blob-has k s at z stop go h = blob-there k s at z stop true go (sym (le-leb k (length s - at) h)) refl

-- ---- a call's answer: what it ensures, what the match found, and how the parse continues

-- a leaf has only one refusal
pub blob-stops : (k : ℕ) (s : List ℕ) (at : ℕ) (e : Refusal) → read (blob k) s at ≡ refused e → e ≡ cut_at k s at
unfolding blob blob_parse
blob-stops k s at e = cases (leb k (length s - at))
  where
    cases : (b : Bool) → pick b (took (take k (drop at s)) (at + k)) (refused (cut_at k s at)) ≡ refused e → e ≡ cut_at k s at
    cases true q = took-refused (take k (drop at s)) (at + k) e q
    cases false q = cc

-- the bytes read are those of s from `at` up to n
pub blob-part : (k : ℕ) (s : List ℕ) (at : ℕ) (v : List ℕ) (n : ℕ) → read (blob k) s at ≡ took v n → v ≡ between at n s
unfolding blob blob_parse
blob-part k s at v n = cases (leb k (length s - at))
  where
    cases : (b : Bool) → pick b (took (take k (drop at s)) (at + k)) (refused (cut_at k s at)) ≡ took v n → v ≡ between at n s
    cases true q = let e : at + k ≡ n = cc in let d : n - at ≡ k = omega arith in let f : take k (drop at s) ≡ v = cc in sym f
        ∙ ap (λ i. take i (drop at s)) (sym d)
    cases false q = refused-took (cut_at k s at) v n q

pub integer-stops : (k : ℕ) (s : List ℕ) (at : ℕ) (e : Refusal) → read (integer k) s at ≡ refused e → e ≡ cut_at k s at
unfolding integer
integer-stops k s at e q = blob-stops k s at e (cases (read (blob k) s at) (sym ((blob k).same s at refused (λ b m. took (value b) m)) ∙ q))
  where
    cases : (o : Parsed (List ℕ)) → on_result o refused (λ b m. took (value b) m) ≡ refused e → o ≡ refused e
    cases (took b m) q = took-refused (value b) m e q
    cases (refused d) q = ap refused cc

module _ {A : Type 0} (F : Format A) (s : List ℕ) (at : ℕ) (x : Result ℕ Refusal) where
  pub next-took : (n : ℕ) → x ≡ ended F s at → x ≡ Ok n → (v : A) × (read F s at ≡ took v n)
  next-took n p q = part-next-inv (read F s at) n (sym (F.same s at Err (λ v n. Ok n)) ∙ found p q)

  pub next-refused : (e : Refusal) → x ≡ ended F s at → x ≡ Err e → read F s at ≡ refused e
  next-refused e p q = part-refused-inv (read F s at) e (sym (F.same s at Err (λ v n. Ok n)) ∙ found p q)

-- Any format whose reader returns an `End`: a crate states these two by name for each format of its own. (Stated for any F, they would fit every
-- parse, and `search` would try them everywhere)
module _ {A : Type 0} (F : Format A) where
  abbrev pub Ends : Type 1
  Ends = (R : Type 0) (s : List ℕ) (at : ℕ) (z : R) (stop : Refusal → R) (go : A → ℕ → R) (x : Result ℕ Refusal) (n : ℕ) → x ≡ ended F s at → x ≡ Ok n
      → ((v : A) → z ≡ go v n) → z ≡ F.parse s at stop go

  abbrev pub Stops : Type 1
  Stops = (R : Type 0) (s : List ℕ) (at : ℕ) (z : R) (stop : Refusal → R) (go : A → ℕ → R) (x : Result ℕ Refusal) (e : Refusal) → x ≡ ended F s at → x ≡ Err e
      → z ≡ stop e → z ≡ F.parse s at stop go

  pub ends : Ends
  ends R s at z stop go x n p q e = let (v, t) = next-took F s at x n p q in e v ∙ sym (parse-took F s at stop go v n t)

  pub stops : Stops
  stops R s at z stop go x e p q r = r ∙ sym (parse-refused F s at stop go e (next-refused F s at x e p q))

-- a list: the code keeps none of its elements
module _ {A S R : Type 0} (E : S → Format A) (step : S → A → S) (st : S) (c : ℕ) (s : List ℕ) (at : ℕ) (z : R) (stop : Refusal → R) (go : List A → ℕ → R)
    (x : Result ℕ Refusal) where
  pub on_list : (n : ℕ) → x ≡ ended (items E step st c) s at → x ≡ Ok n → ((l : List A) → z ≡ go l n) → z ≡ (items E step st c).parse s at stop go
  on_list = ends (items E step st c) R s at z stop go x

  pub on-list-refused : (e : Refusal) → x ≡ ended (items E step st c) s at → x ≡ Err e → z ≡ stop e → z ≡ (items E step st c).parse s at stop go
  on-list-refused = stops (items E step st c) R s at z stop go x

-- a list of elements of one width that was read: how many there are, and where they end
module _ {A : Type 0} (F : Format A) (k : ℕ) (wide : (a : A) → F.Good a → length (F.write a) ≡ k) where
  pub wide-chain : (prev : List ℕ) (l : List A) → Chain (above F) (left (above F)) prev l → length (list_write (above F) (left (above F)) prev l) ≡ k * length l
  unfolding list_write guard
  wide-chain prev [] h = rw mul-zero
  wide-chain prev (a ∷ l) h =
      rw (length-append (F.write a) (list_write (above F) (left (above F)) (F.write a) l), wide a h.0.0, wide-chain (F.write a) l h.1, mul-suc)
      (add_comm k (k * length l))

  pub wide-took : (c : ℕ) (s : List ℕ) (at : ℕ) (l : List A) (n : ℕ) → Slice s → read (increasing F c) s at ≡ took l n
      → (c ≡ length l) × (n ≡ at + k * length l)
  unfolding items
  wide-took c s at l n b t =
      let (g, h) = (increasing F c).sound s at l n (slice-bytes s b) t in
      (sym g.0, h.ends ∙ ap (λ j. at + j) (wide-chain [] l g.1))

pub blob-wide : (k : ℕ) (b : List ℕ) → (blob k).Good b → length ((blob k).write b) ≡ k
unfolding blob
blob-wide k b h = h.0

-- a byte string that was read is the bytes of s from `at` up to n
part-took : (k : ℕ) (s : List ℕ) (at : ℕ) (x : Result ℕ Refusal) (n : ℕ) → x ≡ ended (blob k) s at → x ≡ Ok n → read (blob k) s at ≡ took (between at n s) n
part-took k s at x n p q = let (v, t) = next-took (blob k) s at x n p q in t ∙ ap (λ b. took b n) (blob-part k s at v n t)

value-took : (k : ℕ) (s : List ℕ) (at : ℕ) (x : Result (ℕ × ℕ) Refusal) (v n : ℕ) → x ≡ valued (integer k) s at → x ≡ Ok (v, n)
    → read (integer k) s at ≡ took v n
value-took k s at x v n p q = integer-value-inv (read (integer k) s at) v n (sym ((integer k).same s at Err (λ v n. Ok (v, n))) ∙ found p q)

module _ {R : Type 0} (k : ℕ) (s : List ℕ) (at : ℕ) (z : R) (stop : Refusal → R) where
  module _ (go : List ℕ → ℕ → R) (x : Result ℕ Refusal) where
    pub on-part : (n : ℕ) → x ≡ ended (blob k) s at → x ≡ Ok n → z ≡ go (between at n s) n → z ≡ (blob k).parse s at stop go
    on-part n p q e = e ∙ sym (parse-took (blob k) s at stop go (between at n s) n (part-took k s at x n p q))

    -- the same, for a need about where the bytes are
    pub on-part-there : (n : ℕ) → x ≡ ended (blob k) s at → x ≡ Ok n → Slice s → (Stands s at ((blob k).write (between at n s)) n → z ≡ go (between at n s) n)
        → z ≡ (blob k).parse s at stop go
    on-part-there n p q b e = on-part n p q (e ((blob k).sound s at (between at n s) n (slice-bytes s b) (part-took k s at x n p q)).1)

    -- the call's own refusal, returned
    pub on-part-refused : (e : Refusal) → x ≡ ended (blob k) s at → x ≡ Err e → z ≡ stop e → z ≡ (blob k).parse s at stop go
    on-part-refused = stops (blob k) R s at z stop go x

    -- a refusal f that the code made by a call
    pub on-cut : (e : Refusal) → x ≡ ended (blob k) s at → x ≡ Err e → (f : Refusal) → f ≡ cut_at k s at → z ≡ stop f → z ≡ (blob k).parse s at stop go
    on-cut e p q f g r =
        let o = next-refused (blob k) s at x e p q in
        on-part-refused e p q (r ∙ ap stop (g ∙ sym (blob-stops k s at e o)))

  module _ (go : ℕ → ℕ → R) (x : Result (ℕ × ℕ) Refusal) where
    pub on_value : (v n : ℕ) → x ≡ valued (integer k) s at → x ≡ Ok (v, n) → z ≡ go v n → z ≡ (integer k).parse s at stop go
    on_value v n p q e = e ∙ sym (parse-took (integer k) s at stop go v n (value-took k s at x v n p q))

    -- the same, for a need about where the integer is
    pub on-value-there : (v n : ℕ) → x ≡ valued (integer k) s at → x ≡ Ok (v, n) → Slice s → (Stands s at ((integer k).write v) n → z ≡ go v n)
        → z ≡ (integer k).parse s at stop go
    on-value-there v n p q b e = on_value v n p q (e ((integer k).sound s at v n (slice-bytes s b) (value-took k s at x v n p q)).1)

    -- the call's own refusal, returned
    pub on-integer-refused : (e : Refusal) → x ≡ valued (integer k) s at → x ≡ Err e → z ≡ stop e → z ≡ (integer k).parse s at stop go
    on-integer-refused e p q r =
        r ∙ sym (parse-refused (integer k) s at stop go e
        (integer-refused-inv (read (integer k) s at) e (sym ((integer k).same s at Err (λ v n. Ok (v, n))) ∙ found p q)))

    pub on-short : (e : Refusal) → x ≡ valued (integer k) s at → x ≡ Err e → (f : Refusal) → f ≡ cut_at k s at → z ≡ stop f
        → z ≡ (integer k).parse s at stop go
    on-short e p q f g r =
        let o = integer-refused-inv (read (integer k) s at) e (sym ((integer k).same s at Err (λ v n. Ok (v, n))) ∙ found p q) in
        on-integer-refused e p q (r ∙ ap stop (g ∙ sym (integer-stops k s at e o)))

-- the same, if the answer went through `.ok()` and `?`
module _ {R : Type 0} (k : ℕ) (s : List ℕ) (at : ℕ) (z : R) (stop : Refusal → R) where
  module _ (go : List ℕ → ℕ → R) (x : Result ℕ Refusal) (p : x ≡ ended (blob k) s at) (y : Option ℕ) (o : y ≡ result_ok x) where
    pub some-part : (n : ℕ) → y ≡ Some n → z ≡ go (between at n s) n → z ≡ (blob k).parse s at stop go
    some-part n q = on-part k s at z stop go x n p (ok-some x y o n q)

    pub none-part : y ≡ None → ((e : Refusal) → z ≡ stop e) → z ≡ (blob k).parse s at stop go
    none-part q e = let (d, r) = ok-none x y o q in on-part-refused k s at z stop go x d p r (e d)

  module _ (go : ℕ → ℕ → R) (x : Result (ℕ × ℕ) Refusal) (p : x ≡ valued (integer k) s at) (y : Option (ℕ × ℕ)) (o : y ≡ result_ok x) where
    pub some-value : (v n : ℕ) → y ≡ Some (v, n) → z ≡ go v n → z ≡ (integer k).parse s at stop go
    some-value v n q = on_value k s at z stop go x v n p (ok-some x y o (v, n) q)

    pub none-value : y ≡ None → ((e : Refusal) → z ≡ stop e) → z ≡ (integer k).parse s at stop go
    none-value q e = let (d, r) = ok-none x y o q in on-integer-refused k s at z stop go x d p r (e d)

-- an array that is filled from the bytes, or zeros
pub array-short : (k : ℕ) (s : List ℕ) (at : ℕ) → length s < at + k → replicate k 0 ≡ whole_at k s at
unfolding blob blob_parse
array-short zero s at h = rw (le-leb zero (length s - at) (omega arith))
array-short (suc k) s at h = rw (lt-leb (suc k) (length s - at) (omega arith))

-- r is what s has from `at` on
pub array-there : (k : ℕ) (s : List ℕ) (at : ℕ) (r z : List ℕ) → r ≡ take (length s - at) (drop at s) → k ≤ length s - at → z ≡ take k r
    → z ≡ whole_at k s at
unfolding blob blob_parse
array-there k s at r z d h e =
    let i : r ≡ drop at s = d ∙ take_all (length s - at) (drop at s) (rw length-drop (omega arith)) in
    rw (le-leb k (length s - at) h, ← i) e

-- ---- an integer that encodes a type

module _ {K R : Type 0} (code : K → ℕ) (decode : ℕ → K) (back : (k : K) → decode (code k) ≡ k) (w : ℕ) (ks : List K) (r : ReadingRule)
    (s : List ℕ) (at : ℕ) (z : R) (stop : Refusal → R) (go : K → ℕ → R) (x : Result (ℕ × ℕ) Refusal) (p : x ≡ valued (integer w) s at) where
  pub on-tag : (v n : ℕ) → x ≡ Ok (v, n) → listed code ks v ≡ true → z ≡ go (decode v) n → z ≡ (tag code decode back (integer w) ks r).parse s at stop go
  unfolding tag
  on-tag v n q h e = on_value w s at z stop _ x v n p q (rw (find-is code decode back ks v (λ k. go k n) (stop (by r at)), h) e)

  pub on-tag-unknown : (v n : ℕ) → x ≡ Ok (v, n) → listed code ks v ≡ false → z ≡ stop (by r at)
      → z ≡ (tag code decode back (integer w) ks r).parse s at stop go
  unfolding tag
  on-tag-unknown v n q h e = on_value w s at z stop _ x v n p q (rw (find-is code decode back ks v (λ k. go k n) (stop (by r at)), h) e)

  pub on-tag-short : (e : Refusal) → x ≡ Err e → (f : Refusal) → f ≡ cut_at w s at → z ≡ stop f
      → z ≡ (tag code decode back (integer w) ks r).parse s at stop go
  unfolding tag
  on-tag-short e = on-short w s at z stop _ x e p

-- ---- the width of an integer or of bytes that were read, and where the parse continues

module _ (k : ℕ) (s : List ℕ) (at : ℕ) (x : Result (ℕ × ℕ) Refusal) (v n : ℕ) (p : x ≡ valued (integer k) s at) (q : x ≡ Ok (v, n)) (b : Slice s) where
  value_read : (integer k).Good v × Stands s at ((integer k).write v) n
  value_read = (integer k).sound s at v n (slice-bytes s b) (value-took k s at x v n p q)

  -- the integer fits in k bytes
  pub value-small : v < 256 ^ k
  unfolding integer
  value-small = value_read.0

  pub value-ends : n ≡ at + k
  value-ends = value_read.1.ends ∙ ap (λ j. at + j) (length-integer k v)

-- a count of 32 bits times a small width fits in 64 bits
pub product-fits : (w c : ℕ) → w ≤ 64 → c < 256 ^ 4 → w * c < 2 ^ 64
product-fits w c h i = omega (arith, mul-le-mul h (le_of_lt i))

pub blob-ends : (k : ℕ) (s : List ℕ) (at : ℕ) (v : List ℕ) (n : ℕ) → read (blob k) s at ≡ took v n → n ≡ at + k
unfolding blob blob_parse
blob-ends k s at v n = cases (leb k (length s - at))
  where
    cases : (b : Bool) → pick b (took (take k (drop at s)) (at + k)) (refused (cut_at k s at)) ≡ took v n → n ≡ at + k
    cases true q = cc
    cases false q = refused-took (cut_at k s at) v n q

module _ (k : ℕ) (s : List ℕ) (at : ℕ) (x : Result ℕ Refusal) (n : ℕ) (p : x ≡ ended (blob k) s at) (q : x ≡ Ok n) where
  pub part-ends : n ≡ at + k
  part-ends = let (v, t) = next-took (blob k) s at x n p q in blob-ends k s at v n t

  pub part-long : Slice s → length (between at n s) ≡ k
  unfolding blob
  part-long b =
      let (v, t) = next-took (blob k) s at x n p q in
      ap length (sym (blob-part k s at v n t)) ∙ ((blob k).sound s at v n (slice-bytes s b) t).0.0

-- ---- bytes returned by value

module _ (k : ℕ) (s : List ℕ) (at : ℕ) where
  -- if the bytes are all there, they are returned
  pub whole_part : (v : List ℕ) (n : ℕ) → read (blob k) s at ≡ took v n → whole_at k s at ≡ v
  whole_part v n = parse-took (blob k) s at (λ e. replicate k 0) (λ b n. b) v n

  -- the returned bytes y are those of s from `at` up to n
  pub whole-next : (y : List ℕ) (x : Result ℕ Refusal) (n : ℕ) → y ≡ whole_at k s at → x ≡ ended (blob k) s at → x ≡ Ok n → y ≡ between at n s
  whole-next y x n w p q = w ∙ whole_part (between at n s) n (part-took k s at x n p q)

  pub whole_length : length (whole_at k s at) ≡ k
  unfolding blob blob_parse
  whole_length = cases (leb k (length s - at)) refl
    where
      cases : (b : Bool) → leb k (length s - at) ≡ b → length (pick b (take k (drop at s)) (replicate k 0)) ≡ k
      cases true h = length-take-le k (drop at s) (rw length-drop (leb-true k (length s - at) h))
      cases false h = length-replicate k 0

-- ---- a test: what the code found by a comparison, or by a call that returns a bool

module _ {R : Type 0} where
  pub if-lt : (a b : ℕ) (z x y : R) → a < b → z ≡ x → z ≡ pick (ltb a b) x y
  if-lt a b z x y h e = rw (lt-ltb a b h) e

  pub if-not-lt : (a b : ℕ) (z x y : R) → b ≤ a → z ≡ y → z ≡ pick (ltb a b) x y
  if-not-lt a b z x y h e = rw (le-ltb a b h) e

  pub if-le : (a b : ℕ) (z x y : R) → a ≤ b → z ≡ x → z ≡ pick (leb a b) x y
  if-le a b z x y h e = rw (le-leb a b h) e

  pub if-not-le : (a b : ℕ) (z x y : R) → b < a → z ≡ y → z ≡ pick (leb a b) x y
  if-not-le a b z x y h e = rw (lt-leb a b h) e

  pub if-eq : (a b : ℕ) (z x y : R) → a ≡ b → z ≡ x → z ≡ pick (eqb a b) x y
  if-eq a b z x y h e = rw (eq-eqb a b h) e

  pub if-ne : (a b : ℕ) (z x y : R) → (a ≡ b → ⊥) → z ≡ y → z ≡ pick (eqb a b) x y
  if-ne a b z x y h e = rw (ne_eqb a b h) e

  -- an amount must not be 0
  pub if-zero : (n : ℕ) (z x y : R) → n ≡ 0 → z ≡ y → z ≡ pick (ltb 0 n) x y
  if-zero n z x y h e = if-not-lt 0 n z x y (omega arith) e

  pub if_some : (n : ℕ) (z x y : R) → (n ≡ 0 → ⊥) → z ≡ x → z ≡ pick (ltb 0 n) x y
  if_some n z x y h e = if-lt 0 n z x y (omega arith) e

  -- the code compares ranges of s; the format compares what it writes for its elements
  module _ (p q at n : ℕ) (s w : List ℕ) (t : Bool) (z x y : R) (h : Stands s at w n) where
    pub if-above : t ≡ below (between p q s) (between at n s) → t ≡ true → z ≡ x → z ≡ pick (below (between p q s) w) x y
    if-above i j e = rw (stands-part s at w n h, found i j) e

    pub if-not-above : t ≡ below (between p q s) (between at n s) → t ≡ false → z ≡ y → z ≡ pick (below (between p q s) w) x y
    if-not-above i j e = rw (stands-part s at w n h, found i j) e

    pub if-below : t ≡ below (between at n s) (between p q s) → t ≡ true → z ≡ y → z ≡ pick (not (below w (between p q s))) x y
    if-below i j e = rw (stands-part s at w n h, found i j) e

    pub if-not-below : t ≡ below (between at n s) (between p q s) → t ≡ false → z ≡ x → z ≡ pick (not (below w (between p q s))) x y
    if-not-below i j e = rw (stands-part s at w n h, found i j) e

pub ruleset tests = (if-lt, if-not-lt, if-le, if-not-le, if-eq, if-ne, if-zero, if_some)

-- ---- a refusal f that the code made by a call, where the definition has d

pub part-made : (f d : Refusal) → f ≡ d → ◌≡◌ {A = Result ℕ Refusal} (Err f) (Err d)
part-made f d e = ap Err e

pub integer-made : (f d : Refusal) → f ≡ d → ◌≡◌ {A = Result (ℕ × ℕ) Refusal} (Err f) (Err d)
integer-made f d e = ap Err e

-- a let-else chain up to a refusal
pub ruleset reading = (on_value, on-short, on-integer-refused, passed-on, on-part, on-cut, on-part-refused, on_list, on-list-refused, tests, part-made)

-- ---- a loop: the code counts down, the format goes by `suc`. The invariant: parsing what is left gives y, the answer of the whole parse

module _ {A S R : Type 0} (E : S → Format A) (step : S → A → S) (s : List ℕ) (at : ℕ) (stop : Refusal → R) (go : List A → ℕ → R) where
  pub list_on : (st : S) (n : ℕ) (z y : R) → (items E step st n).parse s at stop go ≡ y → 0 < n
      → z ≡ (E st).parse s at stop (λ a m. (items E step (step st a) (n - 1)).parse s m stop (λ l k. go (a ∷ l) k)) → z ≡ y
  unfolding items list_parse
  list_on st zero z y i h e = absurd (not-suc-le-zero h)
  list_on st (suc n) z y i h e = (rw (sub-one (suc n)) at e) ∙ i

  pub list-end : (st : S) (n : ℕ) (z y : R) → (items E step st n).parse s at stop go ≡ y → n ≤ 0 → z ≡ go [] at → z ≡ y
  unfolding items list_parse
  list-end st zero z y i h e = e ∙ i
  list-end st (suc n) z y i h e = absurd (not-suc-le-zero h)

  -- the same by the number i of elements that were read, out of c
  pub for_on : (st : S) (c i : ℕ) (z y : R) → (items E step st (c - i)).parse s at stop go ≡ y → i < c
      → z ≡ (E st).parse s at stop (λ a m. (items E step (step st a) (c - (i + 1))).parse s m stop (λ l k. go (a ∷ l) k)) → z ≡ y
  for_on st c i z y h l e =
      let k : c - (i + 1) ≡ (c - i) - 1 = omega arith in
      list_on st (c - i) z y h (omega arith)
      (subst (λ (n : ℕ). z ≡ (E st).parse s at stop (λ a m. (items E step (step st a) n).parse s m stop (λ l k. go (a ∷ l) k))) k e)

  pub for_end : (st : S) (c i : ℕ) (z y : R) → (items E step st (c - i)).parse s at stop go ≡ y → c ≤ i → z ≡ go [] at → z ≡ y
  for_end st c i z y h l e = list-end st (c - i) z y h (omega arith) e

module _ {A R : Type 0} (E : List ℕ → Format A) (step : List ℕ → A → List ℕ) (s : List ℕ) (n at : ℕ) (stop : Refusal → R) (go : List A → ℕ → R) where
  -- before the first element the state is empty
  pub list-start : (a : ℕ) → (items E step (between a a s) n).parse s at stop go ≡ (items E step [] n).parse s at stop go
  list-start a = let e : a - a ≡ 0 = omega arith in rw e

  -- the state after an element is the element's bytes
  pub list-again : (p q : ℕ) (w : List ℕ) → Stands s p w q → (items E step (between p q s) n).parse s at stop go ≡ (items E step w n).parse s at stop go
  list-again p q w h = rw (stands-part s p w q h)

-- without an order, the parse does not depend on the element before
pub unordered-again : {A : Type 0} (F : Format A) (s : List ℕ) (n at : ℕ) (stop : Refusal → Result ℕ Refusal) (go : List A → ℕ → Result ℕ Refusal)
    (p q : List ℕ) → (items (λ prev. F) (left (λ prev. F)) p n).parse s at stop go ≡ (items (λ prev. F) (left (λ prev. F)) q n).parse s at stop go
unfolding items list_parse
unordered-again F s zero at stop go p q = refl
unordered-again F s (suc n) at stop go p q = refl

-- one turn of a loop: the code knows an element only by its offsets
pub ruleset turn = (
  for_on,
  on-value-there,
  on-short,
  on-integer-refused,
  on-part-there,
  on-cut,
  on-part-refused,
  passed-on,
  if-above,
  if-not-above,
  if-below,
  if-not-below,
  stands-append,
  list-again,
  part-made,
)
