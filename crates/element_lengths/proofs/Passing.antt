-- Laws for functions that skip an element: its bytes, as the fields that the code steps over. A contract is entered by a law `..-passed` or
-- `..-answered`; the laws `..-next`, `..-refused` and `..-whole` continue after a call, as those of wire's proofs/Passing do.
-- Assumes nothing.
use Rattle.std.specs.Prelude.{Ok, Err, Result}
use Prim.Native.Nat.{ℕ, ◌+◌, ◌*◌, ◌^◌, ◌<◌}
use mathlib.Core.Path.{◌≡◌, refl, sym, ap, subst}
use mathlib.Core.Bool.{Bool, true, false}
use mathlib.Core.List.{List, [], ◌∷◌, ◌++◌, append_assoc}
use native.Mathlib.Omega.{arith}
use lib.ListN.{length, length-append}
use lib.Dec.{eqb}
use borrow.Author.Tests.{ne_eqb}
use Rattle.wire.specs.declared.Refusal.{Refusal}
use Rattle.wire.specs.Bytes.{pick}
use Rattle.wire.specs.Numbers.{unknown_type}
use Rattle.wire.specs.Format.{Format, Parsed, took, refused}
use Rattle.wire.specs.Fields.{blob, integer, constant}
use Rattle.wire.specs.laws.Sizes.{length-integer}
use Rattle.wire.specs.Sequence.{and_then, guard, tag, items}
use Rattle.wire.specs.Series.{left, above, not_below, count_prefixed, unordered, nondecreasing}
use Rattle.wire.specs.Parsers.{list_write}
use Rattle.wire.specs.laws.Items.{list-bytes}
use Rattle.wire.specs.code.Answer.{ended, valued, Passes, Tells}
use Rattle.wire.proofs.Bytes.{Slice}
use Rattle.wire.proofs.Reading.{wide-chain, blob-wide, blob-ends, part-ends, value-ends, product-fits}
use Rattle.wire.proofs.Passing as W
use Rattle.wire.proofs.Passing.{Yields, Leads, next, answered, passes, leads, tells, Covers, reread, leads-covered, Wide, wide-covers, passes-wide}
use Rattle.wire.proofs.Passing.{yields-parse, yields-end, parse-whole, parse-next, parse-refused, answered-whole, answered-next, answered-refused}
use Rattle.wire.proofs.Passing.{value-next, value-short, tag-next, tag-short, Each}
use Rattle.string.specs.Strings.{payload}
use Rattle.string.proofs.Passing as S
use Rattle.owners.specs.Owners.{Owners, owners}
use Rattle.element.specs.Outputs.{OutputType, output_code, output_type, output_type-code, output_body}
use Rattle.element.specs.Outputs.{amount, transfer_body, Output, output, transferable_output}
use Rattle.element.specs.Inputs.{key, indices, spend, input_after, input}
use Rattle.element.specs.Operations.{OperationType, mint_nft, transfer_nft, operation_code, operation_type, operation_type-code}
use Rattle.element.specs.Operations.{OperationOwners, operation_owners, terms, action, operation}
use Rattle.element.specs.Operations.{Fx, secp_fx, fx_code, fx_outputs, fx_id, state_outputs, initial_state_after, initial_state}
use Rattle.element.specs.code.Answer.{Terms, Action}
use Rattle.element_lengths.specs.code.Lengths.{by_count, Repeated}
use Rattle.element_lengths.proofs.Repeating.{repeats}
use Rattle.element.proofs.Reading.{key-wide}

-- ---- widths

integer-wide : (w : ℕ) → Wide (integer w) w
integer-wide w v g = length-integer w v

amount-wide : Wide amount 8
unfolding amount
amount-wide v g = length-integer 8 v

fx-wide : Wide fx_id 4
unfolding fx_id
fx-wide k g = length-integer 4 (fx_code k)

-- two fields of one width each, one after the other
then-wide : {A B : Type 0} (F : Format A) (G : Format B) (j k : ℕ) → Wide F j → Wide G k → Wide (and_then F (λ a. G)) (j + k)
unfolding and_then
then-wide F G j k f h v g = omega (arith, length-append (F.write v.0) (G.write v.1), f v.0 g.0, h v.1 g.1)

-- ---- the same bytes as other fields

covered : {A B : Type 0} (F : Format A) (G : Format B) (f : A → B) → Covers F G f → (s : List ℕ) (at : ℕ) → Slice s → (z : Result ℕ Refusal)
    → Passes G s at z → Passes F s at z
covered F G f c s at b z p v n e = p (f v) n (reread F G f c s at b v n e)

then-covers : {A B C : Type 0} (F : Format A) (H : Format B) (f : A → B) (G : Format C) → Covers F H f
    → Covers (and_then F (λ a. G)) (and_then H (λ a. G)) (λ v. (f v.0, v.1))
unfolding and_then
then-covers F H f G c v g = let (h, w) = c v.0 g.0 in ((h, g.1), ap (λ (x : List ℕ). x ++ G.write v.1) w)

-- a first field of one width may be read as that many bytes
front-covers : {A C : Type 0} (F : Format A) (k : ℕ) (G : Format C) → Wide F k
    → Covers (and_then F (λ a. G)) (and_then (blob k) (λ b. G)) (λ v. (F.write v.0, v.1))
front-covers F k G wide = then-covers F (blob k) F.write G (wide-covers F k wide)

-- a list of elements of one width, each above the one before
module _ {A : Type 0} (F : Format A) (k : ℕ) (wide : Wide F k) where
  abbrev passed : List A → ℕ × List ℕ
  passed l = (length l, list_write (above F) (left (above F)) [] l)

  list-covers : Covers (count_prefixed (integer 4) (above F)) (by_count k) passed
  unfolding count_prefixed items blob by_count
  list-covers l g = ((g.0, (wide-chain F k wide [] l g.1.1, list-bytes (above F) (left (above F)) [] l g.1.1)), refl)

module _ (w : ℕ) (s : List ℕ) (at : ℕ) where
  pub list-answered : (z : Result (ℕ × ℕ) Refusal) → Leads (by_count w) s at (answered (λ v. v.0)) z → Tells (by_count w) (λ v. v.0) s at z
  list-answered = tells (by_count w) s at (λ v. v.0)

  -- after a call of `list_past`, whose answer is x
  module _ {B R : Type 0} (k : ℕ × List ℕ → ℕ → Parsed B) (go : B → ℕ → R) (z : R) (x : Result (ℕ × ℕ) Refusal) where
    pub list-next : (c m : ℕ) → x ≡ Ok (c, m) → Tells (by_count w) (λ v. v.0) s at x → ((v : ℕ × List ℕ) → c ≡ v.0 → Yields (k v m) go z)
        → Yields ((by_count w).parse s at refused k) go z
    list-next c m q p = answered-next (by_count w) s at k go z (λ v. v.0) x p c m q

    pub list-refused : (e : Refusal) → x ≡ Err e → Tells (by_count w) (λ v. v.0) s at x → Yields ((by_count w).parse s at refused k) go z
    list-refused e q p = answered-refused (by_count w) s at k go z (λ v. v.0) x p e q

-- ---- owners

abbrev before_addresses : Format (ℕ × ℕ)
before_addresses = and_then (integer 8) (λ locktime. integer 4)

abbrev owners_passed : Format (List ℕ × (ℕ × List ℕ))
owners_passed = and_then (blob 12) (λ front. by_count 20)

owners-covers : Covers owners owners_passed (λ o. (before_addresses.write (o.locktime, o.threshold), passed (blob 20) 20 (blob-wide 20) o.addresses))
unfolding owners items blob count_prefixed by_count
owners-covers o g = (
  (
    (wide-covers before_addresses 12 (then-wide (integer 8) (integer 4) 8 4 (integer-wide 8) (integer-wide 4)) (o.locktime, o.threshold)
        (g.0, g.1.0.0.0)).0,
    (list-covers (blob 20) 20 (blob-wide 20) o.addresses (g.1.0.0.1, g.1.1)).0,
  ),
  simp append_assoc,
)

pub owners-passed : (s : List ℕ) (at : ℕ) → Slice s → (z : Result ℕ Refusal) → Leads owners_passed s at next z → Passes owners s at z
owners-passed s at b z h = covered owners owners_passed _ owners-covers s at b z (passes owners_passed s at z h)

-- after a call of `owners_past`, whose answer is z
pub owners-whole : {B : Type 0} (s : List ℕ) (at : ℕ) (k : Owners → ℕ → Parsed B) (go : B → ℕ → Result ℕ Refusal) (z : Result ℕ Refusal) → Passes owners s at z
    → ((v : Owners) (n : ℕ) → z ≡ Ok n → Yields (k v n) go z) → Yields (owners.parse s at refused k) go z
owners-whole s at k go z p = parse-whole owners s at k go z z p

-- owners after a field of w bytes
abbrev after_passed : ℕ → Format (List ℕ × Owners)
after_passed w = and_then (blob w) (λ field. owners)

pub after-passed : (w : ℕ) (s : List ℕ) (at : ℕ) (z : Result ℕ Refusal) → Leads (after_passed w) s at next z → Passes (after_passed w) s at z
after-passed w s at z = passes (after_passed w) s at z

-- ---- outputs

transfer-covers : Covers transfer_body (after_passed 8) (λ v. (amount.write v.0, v.1))
unfolding transfer_body
transfer-covers = front-covers amount 8 owners amount-wide

abbrev payload_passed : Format (List ℕ × (List ℕ × Owners))
payload_passed = and_then (blob 4) (λ group. and_then payload (λ p. owners))

pub payload-passed : (s : List ℕ) (at : ℕ) (z : Result ℕ Refusal) → Leads payload_passed s at next z → Passes payload_passed s at z
payload-passed s at z = passes payload_passed s at z

-- the body, after the code has compared the type
module _ (s : List ℕ) (at : ℕ) (b : Slice s) (z : Result ℕ Refusal) (type_id : ℕ) where
  body-transfer : type_id ≡ 7 → Passes (after_passed 8) s at z → Passes (output_body (output_type type_id)) s at z
  body-transfer h p = rw h (covered transfer_body (after_passed 8) _ transfer-covers s at b z p)

  body-nft-mint : type_id ≡ 10 → Passes (after_passed 4) s at z → Passes (output_body (output_type type_id)) s at z
  body-nft-mint h p = rw h (covered (and_then (integer 4) (λ group. owners)) (after_passed 4) _ (front-covers (integer 4) 4 owners (integer-wide 4)) s at b z p)

  body-nft-transfer : (type_id ≡ 6 → ⊥) → (type_id ≡ 7 → ⊥) → (type_id ≡ 10 → ⊥) → Passes payload_passed s at z
      → Passes (output_body (output_type type_id)) s at z
  body-nft-transfer h i j p =
      rw (ne_eqb type_id 6 h, ne_eqb type_id 7 i, ne_eqb type_id 10 j)
      (covered (and_then (integer 4) (λ group. and_then payload (λ p. owners))) payload_passed _
      (front-covers (integer 4) 4 (and_then payload (λ p. owners)) (integer-wide 4)) s at b z p)

-- an output after its type
abbrev type_then : List ℕ → OutputType → ℕ → Parsed Output
type_then s k m = (output_body k).parse s m refused (λ o n. took (k, o) n)

module _ (s : List ℕ) (at : ℕ) (b : Slice s) (z : Result ℕ Refusal) (x : Result (ℕ × ℕ) Refusal) (p : x ≡ valued (integer 4) s at) where
  module _ (type_id m : ℕ) (q : x ≡ Ok (type_id, m)) where
    output-typed : Passes (output_body (output_type type_id)) s m z → (fx : Fx) → Passes (output (fx_outputs fx)) s at z
    unfolding output
    output-typed h fx =
        passes (output (fx_outputs fx)) s at z
        (tag-next output_code output_type output_type-code 4 (fx_outputs fx) unknown_type s at (type_then s) next z x p type_id m q
        (parse-whole (output_body (output_type type_id)) s m _ next z z h (λ v n e. yields-end _ n next z e)))

    pub output-mint : type_id ≡ 6 → Passes owners s m z → (fx : Fx) → Passes (output (fx_outputs fx)) s at z
    output-mint h r = output-typed (rw h r)

    pub output-transfer : type_id ≡ 7 → Passes (after_passed 8) s m z → (fx : Fx) → Passes (output (fx_outputs fx)) s at z
    output-transfer h r = output-typed (body-transfer s m b z type_id h r)

    pub output-nft-mint : type_id ≡ 10 → Passes (after_passed 4) s m z → (fx : Fx) → Passes (output (fx_outputs fx)) s at z
    output-nft-mint h r = output-typed (body-nft-mint s m b z type_id h r)

    pub output-nft-transfer : (type_id ≡ 6 → ⊥) → (type_id ≡ 7 → ⊥) → (type_id ≡ 10 → ⊥) → Passes payload_passed s m z → (fx : Fx)
        → Passes (output (fx_outputs fx)) s at z
    output-nft-transfer h i j r = output-typed (body-nft-transfer s m b z type_id h i j r)

  pub output-short : (e : Refusal) → x ≡ Err e → (fx : Fx) → Passes (output (fx_outputs fx)) s at z
  unfolding output
  output-short e q fx =
      passes (output (fx_outputs fx)) s at z
      (tag-short output_code output_type output_type-code 4 (fx_outputs fx) unknown_type s at (type_then s) next z x p e q)

-- after a call of `output_past`, for the output types of FxID 0
pub output-whole : {B : Type 0} (s : List ℕ) (at : ℕ) (k : Output → ℕ → Parsed B) (go : B → ℕ → Result ℕ Refusal) (z : Result ℕ Refusal)
    → ((fx : Fx) → Passes (output (fx_outputs fx)) s at z) → ((v : Output) (n : ℕ) → z ≡ Ok n → Yields (k v n) go z)
    → Yields ((output (fx_outputs secp_fx)).parse s at refused k) go z
output-whole s at k go z p = parse-whole (output (fx_outputs secp_fx)) s at k go z z (p secp_fx)

abbrev transferable_passed : Format (List ℕ × Output)
transferable_passed = and_then (blob 32) (λ asset. output (fx_outputs secp_fx))

transferable-covers : (prev : List ℕ) → Covers (not_below transferable_output prev) transferable_passed (λ o. (o.asset, o.output))
unfolding guard transferable_output
transferable-covers prev o g = ((g.0.0, ((g.0.1.0.0, more (eqb (output_code o.output.0) 6) g.0.1.0.1), g.0.1.1)), refl)
  where
    -- a type that is allowed stays allowed if one more type is
    more : (t : Bool) {u : Bool} → u ≡ true → pick t true u ≡ true
    more true h = refl
    more false h = h

pub transferable-passed : (s : List ℕ) (at : ℕ) → Slice s → (z : Result ℕ Refusal) → Leads transferable_passed s at next z
    → (prev : List ℕ) → Passes (not_below transferable_output prev) s at z
transferable-passed s at b z h prev =
    covered (not_below transferable_output prev) transferable_passed _ (transferable-covers prev) s at b z (passes transferable_passed s at z h)

-- ---- inputs

abbrev before_indices : Format ((List ℕ × ℕ) × (List ℕ × (ℕ × ℕ)))
before_indices = and_then key (λ k. and_then (blob 32) (λ asset. and_then (integer 4) (λ type. integer 8)))

before-indices-wide : Wide before_indices 80
before-indices-wide =
    then-wide key (and_then (blob 32) (λ asset. and_then (integer 4) (λ type. integer 8))) 36 44 key-wide
    (then-wide (blob 32) (and_then (integer 4) (λ type. integer 8)) 32 12 (blob-wide 32)
    (then-wide (integer 4) (integer 8) 4 8 (integer-wide 4) (integer-wide 8)))

-- everything before the indices, with their count
unfoldable pub input_front : Format (List ℕ × ℕ)
unfolding and_then
input_front = and_then (blob 80) (λ front. integer 4)

input-front-wide : Wide input_front 84
unfolding input_front
input-front-wide = then-wide (blob 80) (integer 4) 80 4 (blob-wide 80) (integer-wide 4)

abbrev input_passed : Format ((List ℕ × ℕ) × List ℕ)
input_passed = and_then input_front (λ v. blob (4 * v.1))

input-covers : (prev : List ℕ) → Covers (input prev) input_passed (λ v.
    ((before_indices.write ((v.txid, v.index), (v.asset, (5, v.amount))), length v.indices), (passed (integer 4) 4 (integer-wide 4) v.indices).1))
unfolding input_front input_after guard key spend indices constant amount items blob count_prefixed by_count
input-covers prev v g =
    let h : (by_count 4).Good (passed (integer 4) 4 (integer-wide 4) v.indices) = (list-covers (integer 4) 4 (integer-wide 4) v.indices
    g.1.1.1.1).0 in (
      (
        (
          (wide-covers before_indices 80 before-indices-wide
              ((v.txid, v.index), (v.asset, (5, v.amount))) (g.0.0, (g.1.0, (g.1.1.0.0, g.1.1.1.0.0)))).0,
          h.0,
        ),
        h.1,
      ),
      regrouped v.txid ((integer 4).write v.index) v.asset ((integer 4).write 5) ((integer 8).write v.amount)
          ((integer 4).write (length v.indices)) (passed (integer 4) 4 (integer-wide 4) v.indices).1,
    )
  where
    regrouped : (a b c d e f h : List ℕ) → (a ++ b) ++ (c ++ (d ++ (e ++ (f ++ h)))) ≡ (((a ++ b) ++ (c ++ (d ++ e))) ++ f) ++ h
    regrouped a b c d e f h = simp append_assoc

pub input-answered : (s : List ℕ) (at : ℕ) → Slice s → (z : Result (ℕ × ℕ) Refusal) → Leads input_passed s at (answered (λ v. v.0.1)) z
    → (prev : List ℕ) → Tells (input prev) (λ v. length v.indices) s at z
input-answered s at b z h prev =
    tells (input prev) s at (λ v. length v.indices) z (leads-covered (input prev) input_passed _ (input-covers prev) s at b (answered (λ v. v.0.1)) z h)

pub indices-fit : (c : ℕ) → c < 256 ^ 4 → 4 * c < 2 ^ 64
indices-fit c = product-fits 4 c (omega arith)

-- x is the answer of the one test for the whole front; y is that of reading the count
pub front_fits : (s : List ℕ) (at : ℕ) (x : Result ℕ Refusal) (m : ℕ) → x ≡ ended (blob 84) s at → x ≡ Ok m → m < 2 ^ 64 → at + 80 < 2 ^ 64
front_fits s at x m p q h = omega (arith, part-ends 84 s at x m p q)

module _ {B R : Type 0} (s : List ℕ) (at : ℕ) (k : List ℕ × ℕ → ℕ → Parsed B) (go : B → ℕ → R) (z : R) where
  front-count : ((f : List ℕ) → Yields ((integer 4).parse s (at + 80) refused (λ c n. k (f, c) n)) go z) → Yields (input_front.parse s at refused k) go z
  unfolding input_front
  front-count h =
      yields-parse (blob 80) s at _ go z (λ f j e.
      subst (λ (i : ℕ). Yields ((integer 4).parse s i refused (λ c n. k (f, c) n)) go z) (sym (blob-ends 80 s at f j e)) (h f))

  module _ (b : Slice s) (x : Result ℕ Refusal) (p : x ≡ ended (blob 84) s at) where
    pub front-refused : (e : Refusal) → x ≡ Err e → Yields (input_front.parse s at refused k) go z
    front-refused = parse-refused input_front s at k go z x (passes-wide input_front 84 input-front-wide s at b x p)

    pub front-next : (m : ℕ) → x ≡ Ok m → (y : Result (ℕ × ℕ) Refusal) (c n : ℕ) → y ≡ valued (integer 4) s (at + 80) → y ≡ Ok (c, n)
        → ((f : List ℕ) → Yields (k (f, c) m) go z) → Yields (input_front.parse s at refused k) go z
    front-next m q y c n r i h =
        let e : m ≡ n = omega (arith, part-ends 84 s at x m p q, value-ends 4 s (at + 80) y c n r i b) in
        front-count (λ f. value-next s (at + 80) go z 4 (λ c n. k (f, c) n) y r c n i (subst (λ (j : ℕ). Yields (k (f, c) j) go z) e (h f)))

  pub front-short : (y : Result (ℕ × ℕ) Refusal) (e : Refusal) → y ≡ valued (integer 4) s (at + 80) → y ≡ Err e → Yields (input_front.parse s at refused k) go z
  front-short y e r i = front-count (λ f. value-short s (at + 80) go z 4 (λ c n. k (f, c) n) y r e i)

-- ---- operations

abbrev terms_passed : Format ((ℕ × List ℕ) × (ℕ × List ℕ))
terms_passed = and_then (by_count 4) (λ list. and_then (integer 4) (λ group. payload))

terms-covers : Covers terms terms_passed (λ v. (passed (integer 4) 4 (integer-wide 4) v.0, v.1))
unfolding terms
terms-covers =
    then-covers (count_prefixed (integer 4) (above (integer 4))) (by_count 4) _ (and_then (integer 4) (λ group. payload))
    (list-covers (integer 4) 4 (integer-wide 4))

abbrev action_passed : Format Action
action_passed =
    and_then (tag operation_code operation_type operation_type-code (integer 4) (mint_nft ∷ transfer_nft ∷ []) unknown_type) (λ k.
    and_then terms (λ v. operation_owners k))

abbrev operation_passed : Format (List ℕ × ((ℕ × List ℕ) × Action))
operation_passed = and_then (blob 32) (λ asset. and_then (by_count 36) (λ pairs. action))

operation-covers : Covers operation operation_passed (λ v. (v.asset, (passed key 36 key-wide v.outputs, (v.owners.0, (v.terms, v.owners.1)))))
unfolding operation blob items by_count
operation-covers v g = ((g.0, ((list-covers key 36 key-wide v.outputs g.1.0).0, g.1.1)), refl)

module _ (s : List ℕ) (at : ℕ) (b : Slice s) (z : Result (ℕ × ℕ) Refusal) where
  pub terms-answered : Leads terms_passed s at (answered (λ v. v.0.0)) z → Tells terms (λ v. length v.0) s at z
  terms-answered h = tells terms s at (λ v. length v.0) z (leads-covered terms terms_passed _ terms-covers s at b (answered (λ v. v.0.0)) z h)

  pub action-answered : Leads action_passed s at (answered (λ v. length v.1.0.0)) z → Tells action (λ v. length v.1.0.0) s at z
  unfolding action
  action-answered h = tells action_passed s at (λ v. length v.1.0.0) z h

  pub operation-answered : Leads operation_passed s at (answered (λ v. length v.1.1.1.0.0)) z → Tells operation (λ v. length v.terms.0) s at z
  operation-answered h =
      tells operation s at (λ v. length v.terms.0) z
      (leads-covered operation operation_passed _ operation-covers s at b (answered (λ v. length v.1.1.1.0.0)) z h)

-- the type of an operation
module _ {B : Type 0} (s : List ℕ) (at : ℕ) (k : OperationType → ℕ → Parsed B) (go : B → ℕ → Result (ℕ × ℕ) Refusal) (z : Result (ℕ × ℕ) Refusal)
    (x : Result (ℕ × ℕ) Refusal)
    (p : x ≡ valued (integer 4) s at) where
  pub type-next : (c m : ℕ) → x ≡ Ok (c, m) → Yields (k (operation_type c) m) go z
      → Yields ((tag operation_code operation_type operation_type-code (integer 4) (mint_nft ∷ transfer_nft ∷ []) unknown_type).parse s at refused k) go z
  type-next = tag-next operation_code operation_type operation_type-code 4 (mint_nft ∷ transfer_nft ∷ []) unknown_type s at k go z x p

  pub type-short : (e : Refusal) → x ≡ Err e
      → Yields ((tag operation_code operation_type operation_type-code (integer 4) (mint_nft ∷ transfer_nft ∷ []) unknown_type).parse s at refused k) go z
  type-short = tag-short operation_code operation_type operation_type-code 4 (mint_nft ∷ transfer_nft ∷ []) unknown_type s at k go z x p

-- after calls of `terms_past`, `recipients_past` and `action_past`
module _ {B R : Type 0} (s : List ℕ) (at : ℕ) (go : B → ℕ → R) (z : R) where
  module _ (k : Terms → ℕ → Parsed B) (x : Result (ℕ × ℕ) Refusal) where
    pub terms-next : (c m : ℕ) → x ≡ Ok (c, m) → Tells terms (λ v. length v.0) s at x → ((v : Terms) → c ≡ length v.0 → Yields (k v m) go z)
        → Yields (terms.parse s at refused k) go z
    terms-next c m q p = answered-next terms s at k go z (λ v. length v.0) x p c m q

    pub terms-refused : (e : Refusal) → x ≡ Err e → Tells terms (λ v. length v.0) s at x → Yields (terms.parse s at refused k) go z
    terms-refused e q p = answered-refused terms s at k go z (λ v. length v.0) x p e q

  module _ (type : OperationType) (k : OperationOwners type → ℕ → Parsed B) (x : Result ℕ Refusal) where
    pub recipients-next : (m : ℕ) → x ≡ Ok m → Passes (operation_owners type) s at x → ((v : OperationOwners type) → Yields (k v m) go z)
        → Yields ((operation_owners type).parse s at refused k) go z
    recipients-next m q p = parse-next (operation_owners type) s at k go z x p m q

    pub recipients-refused : (e : Refusal) → x ≡ Err e → Passes (operation_owners type) s at x
        → Yields ((operation_owners type).parse s at refused k) go z
    recipients-refused e q p = parse-refused (operation_owners type) s at k go z x p e q

pub action-whole : {B : Type 0} (s : List ℕ) (at : ℕ) (k : Action → ℕ → Parsed B) (go : B → ℕ → Result (ℕ × ℕ) Refusal) (z : Result (ℕ × ℕ) Refusal)
    → Tells action (λ v. length v.1.0.0) s at z → ((v : Action) (n : ℕ) → z ≡ Ok (length v.1.0.0, n) → Yields (k v n) go z)
    → Yields (action.parse s at refused k) go z
action-whole s at k go z p = answered-whole action s at k go z (λ v. length v.1.0.0) z p

-- after the terms: the owners that the type has
module _ (s : List ℕ) (at : ℕ) (b : Slice s) (z : Result ℕ Refusal) (type_id : ℕ) where
  pub transfer-passed : (type_id ≡ 12 → ⊥) → Passes owners s at z → Passes (operation_owners (operation_type type_id)) s at z
  transfer-passed h p = rw (ne_eqb type_id 12 h) p

  module _ (h : type_id ≡ 12) (x : Result (ℕ × ℕ) Refusal) (p : x ≡ valued (integer 4) s at) where
    mint-passed : Leads (and_then (integer 4) (unordered owners)) s at next z → Passes (operation_owners (operation_type type_id)) s at z
    unfolding count_prefixed
    mint-passed q =
        rw h
        (covered (operation_owners mint_nft) (and_then (integer 4) (unordered owners)) (λ l. (length l, l)) (λ l g. (g, refl)) s at b z
        (passes (and_then (integer 4) (unordered owners)) s at z q))

    pub mint-list : (c m : ℕ) → x ≡ Ok (c, m) → Passes (unordered owners c) s m z → Passes (operation_owners (operation_type type_id)) s at z
    unfolding and_then
    mint-list c m q r =
        mint-passed
        (value-next s at next z 4 _ x p c m q
        (parse-whole (unordered owners c) s m (λ l n. took (c, l) n) next z z r (λ v n e. yields-end _ n next z e)))

    pub mint-short : (e : Refusal) → x ≡ Err e → Passes (operation_owners (operation_type type_id)) s at z
    unfolding and_then
    mint-short e q = mint-passed (value-short s at next z 4 _ x p e q)

-- ---- initial states

abbrev state_passed : Format ((k : Fx) × (ℕ × List Output))
state_passed = and_then fx_id (λ k. and_then (integer 4) (nondecreasing (output (fx_outputs k))))

state-covers : (prev : List ℕ) → Covers (initial_state prev) state_passed (λ v. (v.fx, (length v.outputs, v.outputs)))
unfolding initial_state_after guard state_outputs
state-covers prev v g = ((g.0.0, g.1), refl)

pub state-passed : (s : List ℕ) (at : ℕ) → Slice s → (z : Result ℕ Refusal) → Leads state_passed s at next z → (prev : List ℕ)
    → Passes (initial_state prev) s at z
state-passed s at b z h prev = covered (initial_state prev) state_passed _ (state-covers prev) s at b z (passes state_passed s at z h)

-- the FxID, skipped as 4 bytes
module _ {B R : Type 0} (s : List ℕ) (at : ℕ) (k : Fx → ℕ → Parsed B) (go : B → ℕ → R) (z : R) (b : Slice s) (x : Result ℕ Refusal)
    (p : x ≡ ended (blob 4) s at) where
  pub fx-next : (m : ℕ) → x ≡ Ok m → ((v : Fx) → Yields (k v m) go z) → Yields (fx_id.parse s at refused k) go z
  fx-next = parse-next fx_id s at k go z x (passes-wide fx_id 4 fx-wide s at b x p)

  pub fx-refused : (e : Refusal) → x ≡ Err e → Yields (fx_id.parse s at refused k) go z
  fx-refused = parse-refused fx_id s at k go z x (passes-wide fx_id 4 fx-wide s at b x p)

-- after a call of `outputs_past`, whose answer is z
pub outputs-whole : {B : Type 0} (fx : Fx) (c : ℕ) (s : List ℕ) (at : ℕ) (k : List Output → ℕ → Parsed B) (go : B → ℕ → Result ℕ Refusal) (z : Result ℕ Refusal)
    → ((fx : Fx) → Passes (nondecreasing (output (fx_outputs fx)) c) s at z) → ((v : List Output) (n : ℕ) → z ≡ Ok n → Yields (k v n) go z)
    → Yields ((nondecreasing (output (fx_outputs fx)) c).parse s at refused k) go z
outputs-whole fx c s at k go z p = parse-whole (nondecreasing (output (fx_outputs fx)) c) s at k go z z (p fx)

-- ---- the integer that is returned

pub value_made : (c d n : ℕ) → c ≡ d → ◌≡◌ {A = Result (ℕ × ℕ) Refusal} (Ok (c, n)) (Ok (d, n))
value_made c d n e = rw e

-- ---- lists, whose elements are skipped by a step that is repeated

-- the outputs of an initial state: the code that skips them does not know the FxID, so the law is for any FxID
abbrev Outputs : Fx → List ℕ → Format Output
Outputs fx = not_below (output (fx_outputs fx))

module _ (Step : ℕ → Result ℕ Refusal → Type 0) (c : ℕ) (s : List ℕ) (at : ℕ) (z : Result ℕ Refusal) (r : Repeated Step c at z) where
  pub owners-repeated : ((at : ℕ) (x : Result ℕ Refusal) → Step at x → Passes owners s at x) → Passes (unordered owners c) s at z
  unfolding Each
  owners-repeated each = passes (unordered owners c) s at z (repeats (λ prev. owners) (left (λ prev. owners)) s Step one c at z r [])
    where
      one : (at : ℕ) (x : Result ℕ Refusal) → Step at x → Each (λ prev. owners) (left (λ prev. owners)) s at x
      one at x p prev = leads owners s at x (each at x p)

  pub outputs-repeated : Slice s → ((at : ℕ) (x : Result ℕ Refusal) → Step at x → (fx : Fx) → Passes (output (fx_outputs fx)) s at x)
      → (fx : Fx) → Passes (nondecreasing (output (fx_outputs fx)) c) s at z
  unfolding Each guard
  outputs-repeated b each fx =
      passes (nondecreasing (output (fx_outputs fx)) c) s at z (repeats (Outputs fx) (left (Outputs fx)) s Step one c at z r [])
    where
      one : (at : ℕ) (x : Result ℕ Refusal) → Step at x → Each (Outputs fx) (left (Outputs fx)) s at x
      one at x p prev =
          leads (Outputs fx prev) s at x
          (covered (Outputs fx prev) (output (fx_outputs fx)) (λ v. v) (λ v g. (g.0, refl)) s at b x (each at x p fx))

-- ---- rulesets: along the fields of an element, and by its type

pub ruleset calls = (S.string-next, S.string-refused, list-next, list-refused, owners-whole, output-whole, outputs-whole)

pub ruleset acting = (type-next, type-short, terms-next, terms-refused, recipients-next, recipients-refused, action-whole)

pub ruleset passing = (W.passing, calls, acting, front-next, front-refused, front-short, fx-next, fx-refused, value_made)

pub ruleset typed = (output-mint, output-transfer, output-nft-mint, output-nft-transfer, output-short, mint-list, mint-short, transfer-passed)
