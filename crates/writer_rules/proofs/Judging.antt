-- Fields are read back as they were written, whether they keep the rules or not, and the first rule that one breaks is the verdict. So a step that
-- is given fields is judged by tests on them. Assumes nothing.
use Prim.Native.Nat.{ℕ, suc, ◌+◌, ◌-◌, ◌%◌, ◌^◌, ◌≤◌}
use mathlib.Core.Path.{◌≡◌, refl, sym, ap, ◌∙◌}
use mathlib.Core.Bool.{Bool, true, false}
use mathlib.Core.List.{List, [], ◌∷◌, ◌++◌, append_assoc}
use native.Mathlib.Omega.{arith}
use native.Mathlib.Nat.{mod-lt, div-add-mod', add-zero}
use lib.ListN.{length, drop, length-append, length-drop}
use lib.Seq.{take_at}
use borrow.Author.Tests.{le-leb}
use Rattle.wire.specs.declared.Refusal.{Refusal}
use Rattle.wire.specs.Bytes.{pick, value, digits, below}
use Rattle.wire.specs.laws.Bytes.{length_digits, value-digits, pow-positive, drop-step}
use Rattle.wire.specs.Numbers.{by, out_of_order}
use Rattle.wire.specs.Format.{Format}
use Rattle.wire.specs.Fields.{blob, integer}
use Rattle.wire.specs.Sequence.{guard, items}
use Rattle.wire.specs.Series.{left, above}
use Rattle.wire.specs.Parsers.{list_parse, list_write, blob_parse}
use Rattle.wire.specs.Orders.{All}
use Rattle.writer_rules.specs.code.Elements.{each_above}

-- ---- F reads a back at any offset at which it is written

abbrev pub Back : {A : Type 0} → Format A → A → Type 1
Back {A} F a = (R : Type 0) (s : List ℕ) (at : ℕ) (t : List ℕ) (stop : Refusal → R) (go : A → ℕ → R) → drop at s ≡ F.write a ++ t
    → F.parse s at stop go ≡ go a (at + length (F.write a))

pub blob-back : (n : ℕ) (b : List ℕ) → length b ≡ n → Back (blob n) b
unfolding blob blob_parse
blob-back n b h R s at t stop go e =
    let fits : n ≤ length s - at = omega (arith, simp (length-drop, length-append) at (ap length e)) in
    rw (le-leb n (length s - at) fits, e, take_at b t n h, h)

-- an integer too large for its width is read back as well: its first digit is no byte
value-back : (w v : ℕ) → value (digits (suc w) v) ≡ v
unfolding digits value
value-back w v = rw (length_digits w (v % 256 ^ w), value-digits w (v % 256 ^ w) (mod-lt v (pow-positive w))) (div-add-mod' v (256 ^ w))

pub integer-back : (w v : ℕ) → Back (integer (suc w)) v
unfolding integer
integer-back w v R s at t stop go e =
    blob-back (suc w) (digits (suc w) v) (length_digits (suc w) v) R s at t stop (λ b m. go (value b) m) e
    ∙ ap (λ n. go n (at + length (digits (suc w) v))) (value-back w v)

-- ---- one field after the other

-- t is the bytes of s from the offset `at` on
pub record Rest (s : List ℕ) (at : ℕ) (t : List ℕ) : Type 0 where
  pub there : drop at s ≡ t
  pub ends : at + length t ≡ length s

pub rest_all : (s : List ℕ) → Rest s 0 s
rest_all s = record { there = refl; ends = omega arith }

pub rest-after : (s : List ℕ) (at : ℕ) (w t : List ℕ) → Rest s at (w ++ t) → Rest s (at + length w) t
rest-after s at w t r = record { there = drop-step s at w t r.there; ends = omega (arith, r.ends, length-append w t) }

pub rest-as : (s : List ℕ) (at : ℕ) (t u : List ℕ) → t ≡ u → Rest s at t → Rest s at u
rest-as s at t u e r = rw e at r

module _ {A R : Type 0} (F : Format A) (a : A) (back : Back F a) (s : List ℕ) (at : ℕ) (t : List ℕ) (stop : Refusal → R) (go : A → ℕ → R) (z : R) where
  pub field_back : Rest s at (F.write a ++ t) → (Rest s (at + length (F.write a)) t → go a (at + length (F.write a)) ≡ z) → F.parse s at stop go ≡ z
  field_back r k = back R s at t stop go r.there ∙ k (rest-after s at (F.write a) t r)

pub test-alike : {R : Type 0} (b : Bool) (x y z : R) → x ≡ y → pick b x z ≡ pick b y z
test-alike b x y z e = ap (λ r. pick b r z) e

-- ---- a list whose elements strictly increase: it is read if each is above the one before, and else refused as out of order at some place

-- one test, and then the tests after it
tested : {R : Type 0} (b c : Bool) (at : ℕ) (x y z : R) (stop : Refusal → R) → z ≡ pick b x (stop (by out_of_order at))
    → (p : ℕ) × (x ≡ pick c y (stop (by out_of_order p))) → (p : ℕ) × (z ≡ pick (pick b c false) y (stop (by out_of_order p)))
tested true c at x y z stop e (p, q) = (p, e ∙ q)
tested false c at x y z stop e (p, q) = (at, e)

-- the list's bytes
abbrev pub list_bytes : {A : Type 0} → Format A → List ℕ → List A → List ℕ
list_bytes F prev l = (items (above F) (left (above F)) prev (length l)).write l

module _ {A : Type 0} (F : Format A) (Fit : A → Type 0) (back : (a : A) → Fit a → Back F a) where
  pub list_back : {R : Type 0} (prev : List ℕ) (l : List A) (s : List ℕ) (at : ℕ) (t : List ℕ) (stop : Refusal → R) (go : List A → ℕ → R) → All Fit l
      → drop at s ≡ list_bytes F prev l ++ t
      → (p : ℕ) × ((items (above F) (left (above F)) prev (length l)).parse s at stop go
      ≡ pick (each_above F prev l) (go l (at + length (list_bytes F prev l))) (stop (by out_of_order p)))
  unfolding items list_parse list_write guard each_above
  list_back prev [] s at t stop go h e = (at, ap (go []) (sym (add-zero at)))
  list_back prev (a ∷ l) s at t stop go h e =
      let wa : List ℕ = F.write a in
      let wl : List ℕ = list_bytes F wa l in
      let e₁ : drop at s ≡ wa ++ (wl ++ t) = e ∙ append_assoc wa wl t in
      let n : at + length wa + length wl ≡ at + length (wa ++ wl) = rw (length-append wa wl) (omega arith) in
      let (p, q) = list_back wa l s (at + length wa) t stop (λ l k. go (a ∷ l) k) h.1 (drop-step s at wa (wl ++ t) e₁) in
      tested (below prev wa) (each_above F wa l) at _ _ _ stop (back a h.0 _ s at (wl ++ t) stop _ e₁) (
        p,
        q
            ∙ ap (λ k. pick (each_above F wa l) (go (a ∷ l) k) (stop (by out_of_order p))) n,
      )
