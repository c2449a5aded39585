-- What a call of fill does and leaves, and a transaction made from its blank draft by such calls (demand 2, "then filling in its signatures").
-- Assumes nothing.
use Rattle.std.specs.Prelude.{◌≡◌, List, [], ◌∷◌, map, ℕ, suc, ◌<◌, length, Ok}
use Rattle.wire.specs.Bytes.{Bytes}
use Rattle.wire.specs.Numbers.{conflict}
use Rattle.wire.specs.Format.{took}
use Rattle.transaction.specs.Slots.{signature_width, blank, slot_at, put_all}
use Rattle.transaction.specs.Credentials.{layout, blanks}
use Rattle.transaction.specs.Signed as AnySigned
use Rattle.transaction.specs.Family.{Family, Signed, unsigned, wants, check}
use Rattle.draft_slots.specs.Joining.{Filled, Clash}
use Rattle.draft.specs.Reader.{Reader, reader, Draft, body, slot_count, slot}
use Rattle.draft.specs.Calls.{refuse, fill_call}
use Rattle.draft_theorems.specs.Demand.{Frame}

-- the signatures of a draft, in the order of its slots; and the draft with every slot emptied
abbrev pub signatures : Reader → List ℕ → List (List ℕ)
signatures R d = map (slot_at d) (R.slots d)

unfoldable pub emptied : Reader → List ℕ → List ℕ
unfolding put_all
emptied R d = put_all (R.slots d) (λ p. blank) d

-- a draft with no signature, of d's unsigned transaction
pub record BlankOf (R : Reader) (d b : List ℕ) : Type 0 where
  pub draft : Draft R b
  pub same-unsigned : body R b ≡ body R d
  pub empty : (k : ℕ) → k < slot_count R b → slot R b k ≡ blank

-- calls of fill from slot k on, each over what the last one left: each is done, with the draft's length, and the last one leaves e
abbrev pub Fills : Reader → ℕ → List (List ℕ) → List ℕ → List ℕ → Type 0
Fills R k [] d e = d ≡ e
Fills R k (s ∷ ss) d e = ((fill_call R d k s).0 ≡ Ok (length d)) × Fills R (suc k) ss (fill_call R d k s).1 e

-- what a call of fill over d, with slot k and signature s, leaves in e if it is done
pub record Leaves (R : Reader) (d : List ℕ) (k : ℕ) (s e : List ℕ) : Type 0 where
  pub draft : Draft R e
  pub same-unsigned : body R e ≡ body R d
  pub same-slots : R.slots e ≡ R.slots d
  pub outside : Frame (R.slots d) d e
  -- the slot then holds the signature; 65 zero bytes change nothing
  pub holds : Filled s → slot R e k ≡ s
  pub unchanged : s ≡ blank → e ≡ d
  pub others : (j : ℕ) → j < slot_count R d → (j ≡ k → ⊥) → slot R e j ≡ slot R d j

-- for any draft d, any of its slots, and any 65 bytes
pub record Filling (R : Reader) : Type 0 where
  -- refused exactly if the slot holds another signature
  pub refused : (d : List ℕ) → Draft R d → (k : ℕ) → k < slot_count R d → (s : List ℕ) → length s ≡ signature_width → Clash (slot R d k) s
      → fill_call R d k s ≡ (refuse conflict k, d)
  pub done : (d : List ℕ) → Draft R d → (k : ℕ) → k < slot_count R d → (s : List ℕ) → length s ≡ signature_width → (Clash (slot R d k) s → ⊥)
      → (fill_call R d k s).0 ≡ Ok (length d)
  pub leaves : (d : List ℕ) → Draft R d → (k : ℕ) → k < slot_count R d → (s : List ℕ) → length s ≡ signature_width → (Clash (slot R d k) s → ⊥)
      → Bytes s → Leaves R d k s (fill_call R d k s).1
  -- every transaction is its blank draft with its signatures filled in, call by call
  pub fills : (d : List ℕ) → Draft R d → (b : List ℕ) → BlankOf R d b → Fills R 0 (signatures R d) b d
  pub blank : (d : List ℕ) → Draft R d → BlankOf R d (emptied R d)

-- d is accepted and v is its reading: the blank transaction of v's unsigned part, filled with v's signatures, is d
pub record ReadingFilled (F : Family) : Type 0 where
  pub filled : (d : List ℕ) (v : Signed F) (n : ℕ) → Bytes d → check F d ≡ took v n
      → Fills (reader F) 0 v.1 (AnySigned.assemble (unsigned F) (wants F) v.0 (blanks (layout (wants F v.0)))) d
