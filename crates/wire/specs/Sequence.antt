-- Combinators: one format after another, a rule on a value, the same bytes as a value of another type, no bytes, an integer that stands for one of
-- several tags, n elements. Assumes nothing.
use Rattle.std.specs.Prelude.{◌≡◌, refl, ℕ, ◌+◌, ◌≤◌, Bool, List, [], length}
use Rattle.std.proofs.Common.{sym, arith}
use Rattle.std.proofs.Math.Path.{subst}
use Rattle.wire.specs.Numbers.{ReadingRule}
use Rattle.wire.specs.Format.{Format}
use Rattle.wire.specs.Parsers.{then_parse, then_write, Both, guard_parse, Kept, Same, as_parse, tag_parse, Tagged, list_parse, list_write, Listed}
use Rattle.wire.specs.laws.Bytes.{bytes-append}
use Rattle.wire.specs.laws.Format.{took-refused}
use Rattle.wire.specs.laws.Sequence.{then_same, then-sound, then-complete, then-stable, then-ruled, then-placed}
use Rattle.wire.specs.laws.Sequence.{guard-same, guard-sound, guard-complete, guard-stable, guard-ruled, guard-placed}
use Rattle.wire.specs.laws.Sequence.{as_same, as-sound, as-complete, as-stable, as-ruled, as-placed, only-sound, only-complete}
use Rattle.wire.specs.laws.Sequence.{tag_same, tag-sound, tag-complete, tag-stable, tag-ruled, tag-placed}
use Rattle.wire.specs.laws.Items.{list_same, list-sound, list-complete, list-bytes, list-stable, list-ruled, list-placed}

-- ---- a format after another; it may depend on the first one's value

unfoldable pub and_then : {A : Type 0} {B : A → Type 0} → Format A → ((a : A) → Format (B a)) → Format ((a : A) × B a)
and_then F G =
    record {
      parse = then_parse F G;
      write = then_write F G;
      Good = Both F G;
      same = then_same F G;
      sound = then-sound F G;
      complete = then-complete F G;
      bytes = λ v h. bytes-append (F.write v.0) ((G v.0).write v.1) (F.bytes v.0 h.0) ((G v.0).bytes v.1 h.1);
      stable = then-stable F G;
      ruled = then-ruled F G;
      placed = then-placed F G;
    }

-- ---- a rule on the value, checked when the value is wholly read; a value that breaks it is refused at `place`, computed from its start and itself

module _ {A : Type 0} (F : Format A) (ok : A → Bool) (x : ReadingRule) (place : ℕ → A → ℕ) where
  -- the place is inside the value, or just past it
  module _ (within : (at : ℕ) (a : A) → F.Good a → place at a ≤ at + length (F.write a)) where
    unfoldable pub guard_at : Format A
    guard_at =
        record {
          parse = guard_parse F ok x place;
          write = F.write;
          Good = Kept F ok;
          same = guard-same F ok x place;
          sound = guard-sound F ok x place;
          complete = guard-complete F ok x place;
          bytes = λ v h. F.bytes v h.0;
          stable = guard-stable F ok x place;
          ruled = guard-ruled F ok x place;
          placed = guard-placed F ok x place within;
        }

-- the usual place is the start of the value
unfoldable pub guard : {A : Type 0} → Format A → (A → Bool) → ReadingRule → Format A
unfolding guard_at
guard F ok x = guard_at F ok x (λ at a. at) (λ at a h. omega arith)

-- ---- the same bytes as a value of another type; `Fit` says which of its values the format has

module _ {A B : Type 0} (F : Format A) (Fit : B → Type 0) (i : Same F.Good Fit) where
  unfoldable pub «as» : Format B
  «as» =
      record {
        parse = as_parse F i.to;
        write = λ v. F.write (i.from v);
        Good = Fit;
        same = as_same F i.to;
        sound = as-sound F Fit i;
        complete = as-complete F Fit i;
        bytes = λ v h. F.bytes (i.from v) (i.has v h);
        stable = as-stable F i.to;
        ruled = as-ruled F i.to;
        placed = as-placed F i.to;
      }

-- a record type, or any other type with an inverse
module _ {A B : Type 0} (F : Format A) (to : A → B) (from : B → A) (from-to : (a : A) → F.Good a → from (to a) ≡ a) (to-from : (b : B) → to (from b) ≡ b) where
  unfoldable pub named : Format B
  unfolding «as»
  named =
      «as» F (λ b. F.Good (from b))
      record {
        to = to;
        from = from;
        fit = λ a h. subst F.Good (sym (from-to a h)) h;
        has = λ b h. h;
        from-to = from-to;
        to-from = λ b h. to-from b;
      }

-- ---- no bytes, for the single value a

module _ {A : Type 0} (a : A) where
  unfoldable pub only : Format A
  only =
      record {
        parse = λ s at stop go. go a at;
        write = λ v. [];
        Good = λ v. v ≡ a;
        same = λ s at stop go. refl;
        sound = only-sound a;
        complete = only-complete a;
        bytes = λ v h. tt;
        stable = λ s t at e bs ne q. q;
        ruled = λ s at e q. took-refused a at e q;
        placed = λ s at e bs h q. took-refused a at e q;
      }

-- ---- an integer that stands for one of the tags listed; any other is refused by x, at its start

module _ {K : Type 0} (code : K → ℕ) (decode : ℕ → K) (back : (k : K) → decode (code k) ≡ k) (N : Format ℕ) (ks : List K) (x : ReadingRule) where
  unfoldable pub tag : Format K
  tag =
      record {
        parse = tag_parse code N ks x;
        write = λ k. N.write (code k);
        Good = Tagged code N ks;
        same = tag_same code decode back N ks x;
        sound = tag-sound code decode back N ks x;
        complete = tag-complete code decode back N ks x;
        bytes = λ v h. N.bytes (code v) h.0;
        stable = tag-stable code N ks x;
        ruled = tag-ruled code decode back N ks x;
        placed = tag-placed code decode back N ks x;
      }

-- ---- n elements; an element's format may depend on a state that the elements before it determine

module _ {A S : Type 0} (P : S → Format A) (step : S → A → S) where
  unfoldable pub items : S → ℕ → Format (List A)
  items st n =
      record {
        parse = list_parse P step n st;
        write = list_write P step st;
        Good = Listed P step n st;
        same = list_same P step n st;
        sound = list-sound P step n st;
        complete = list-complete P step n st;
        bytes = λ v h. list-bytes P step st v h.1;
        stable = list-stable P step n st;
        ruled = list-ruled P step n st;
        placed = list-placed P step n st;
      }
