-- Integers stored one after the other. Assumes nothing.
use Prim.Native.Nat.{ℕ, zero, suc, ◌≤◌}
use mathlib.Core.Path.{◌≡◌, refl, ap, ◌∙◌}
use mathlib.Core.List.{List, [], ◌∷◌}
use native.Mathlib.Omega.{arith}
use lib.ListN.{length, set}
use Rattle.owners.specs.declared.OwnersFields.{OwnersFields}
use Rattle.element.specs.declared.OutputFields.{OutputFields}
use Rattle.element.specs.declared.OutputFields.TheVariants as O
use Rattle.element.specs.declared.OperationFields.{OperationFields}
use Rattle.std.specs.Prelude.{Result, Ok}
use Rattle.wire.specs.declared.Refusal.{Refusal}
use Rattle.entry.specs.declared.Found.{Found}
use Rattle.entry.specs.declared.EntryRead.{EntryRead}
use Rattle.test_exports.specs.code.Values.{put_id, exported_entry, encoded_entry, Value, put_at, owners_values, output_values, recipients_values}
use Rattle.test_exports.specs.code.Values.{operation_values, entry_values, answer_values}

pub put_one : (i v : ℕ) (l : List Value) (t u w : List ℕ) → u ≡ set t i v → w ≡ put_at l u → w ≡ put_at ((i, v) ∷ l) t
unfolding put_at
put_one i v l t u w e h = h ∙ ap (put_at l) e

-- the integer that is put is known to be v
pub put-known : (i n v : ℕ) (l : List Value) (t u w : List ℕ) → u ≡ set t i n → n ≡ v → w ≡ put_at l u → w ≡ put_at ((i, v) ∷ l) t
put-known i n v l t u w e k = put_one i v l t u w (e ∙ ap (set t i) k)

pub put-none : (t : List ℕ) → t ≡ put_at [] t
unfolding put_at
put-none t = refl

-- Several integers, and then what l puts. Each law takes all the stores at once, so that `search` finds them in one step
module _ (i j : ℕ) (v w : ℕ) (t a b : List ℕ) (first : a ≡ set t i v) (second : b ≡ set a j w) where
  pub put_two : (l : List Value) (z : List ℕ) → z ≡ put_at l b → z ≡ put_at ((i, v) ∷ (j, w) ∷ l) t
  put_two l z h = put_one i v ((j, w) ∷ l) t a z first (put_one j w l a b z second h)

  module _ (k : ℕ) (x : ℕ) (c : List ℕ) (third : c ≡ set b k x) where
    pub put_three : c ≡ put_at ((i, v) ∷ (j, w) ∷ (k, x) ∷ []) t
    put_three = put_two ((k, x) ∷ []) c (put_one k x [] b c c third (put-none c))

    module _ (n : ℕ) (y : ℕ) (d : List ℕ) (fourth : d ≡ set c n y) where
      pub put_four : (l : List Value) (z : List ℕ) → z ≡ put_at l d → z ≡ put_at ((i, v) ∷ (j, w) ∷ (k, x) ∷ (n, y) ∷ l) t
      put_four l z h = put_two ((k, x) ∷ (n, y) ∷ l) z (put_one k x ((n, y) ∷ l) b c z third (put_one n y l c d z fourth h))

      pub all-four : d ≡ put_at ((i, v) ∷ (j, w) ∷ (k, x) ∷ (n, y) ∷ []) t
      all-four = put_four [] d (put-none d)

-- what a case puts, if the case is known
pub by-case : {X : Type 0} (f : X → List Value) (x y : X) (t w : List ℕ) → x ≡ y → w ≡ put_at (f y) t → w ≡ put_at (f x) t
by-case f x y t w e h = rw e h

-- the longest cases, one law each with all that it puts: searched for step by step they take too long
pub put-nft-transfer : (x : OutputFields) (group at long : ℕ) (o : OwnersFields) → x ≡ O.NftTransfer group at long o → (t a b c d z : List ℕ)
    → a ≡ set t 5 11 → b ≡ set a 7 group → c ≡ set b 8 at → d ≡ set c 9 long → z ≡ put_at (owners_values o) d → z ≡ put_at (output_values x) t
put-nft-transfer x group at long o e t a b c d z first second third fourth h =
    by-case output_values x (O.NftTransfer group at long o) t z e (put_four 5 7 11 group t a b first second 8 at c third 9 long d fourth (owners_values o) z h)

pub put-found : (x : Result Found Refusal) (f : Found) → x ≡ Ok f → (t a b c d z : List ℕ)
    → a ≡ set t 0 0 → b ≡ set a 1 f.bytes → c ≡ set b 3 f.start → d ≡ set c 4 f.end → z ≡ put_at (entry_values f.fields) d → z ≡ put_at (answer_values x) t
put-found x f e t a b c d z first second third fourth h =
    by-case answer_values x (Ok f) t z e (put_four 0 1 0 f.bytes t a b first second 3 f.start c third 4 f.end d fourth (entry_values f.fields) z h)

pub put-fields : (o : OperationFields) (t a b c d e f g z : List ℕ)
    → a ≡ set t 17 o.outputs_at → b ≡ set a 18 o.outputs_count → c ≡ set b 15 o.terms.indices_at → d ≡ set c 16 o.terms.indices_count
    → e ≡ set d 7 o.terms.group → f ≡ set e 8 o.terms.payload_at → g ≡ set f 9 o.terms.payload_length
    → z ≡ put_at (recipients_values o.recipients) g → z ≡ put_at (operation_values o) t
put-fields o t a b c d e f g z ha hb hc hd he hf hg h =
    put_four _ _ _ _ t a b ha hb _ _ c hc _ _ d hd _ z (put_two _ _ _ _ d e f he hf _ z (put_one _ _ _ f g z hg h))

-- a put past the last integer changes nothing
pub put-past : (t : List ℕ) (i v : ℕ) → length t ≤ i → t ≡ set t i v
put-past [] i v h = refl
put-past (x ∷ t) zero v h = absurd (omega arith)
put-past (x ∷ t) (suc i) v h = ap (λ r. x ∷ r) (put-past t i v (omega arith))

-- the entry r that was read is e, and its encoding is that of e
pub entry-encoded : (r e : EntryRead) (n a t m b u : List ℕ) → r ≡ e → m ≡ put_at (answer_values r.answer) n → b ≡ put_id r.asset a → u ≡ put_id r.txid t
    → exported_entry m b u ≡ encoded_entry e n a t
entry-encoded r e n a t m b u h hm hb hu = rw (hm, hb, hu) (ap (λ (x : EntryRead). encoded_entry x n a t) h)
