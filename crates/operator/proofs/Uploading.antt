-- An upload's state and answers as integers. Assumes nothing.
use Rattle.std.specs.Prelude.{Ok, Err, Result, Option, None, Some}
use Prim.Native.Nat.{ℕ, ◌+◌, ◌*◌, ◌/◌, ◌%◌}
use Rattle.std.specs.Option.{unwrap_or}
use mathlib.Core.Path.{◌≡◌, refl, ap, ap₂, ◌∙◌}
use mathlib.Core.List.{List, [], ◌∷◌}
use native.Mathlib.Omega.{arith}
use lib.ListN.{get_or}
use borrow.Author.Tests.{eq-eqb, ne_eqb}
use Rattle.wire.specs.declared.Rule.{Rule}
use Rattle.wire.specs.declared.Refusal.{Refusal}
use Rattle.wire.specs.Numbers.{refusal, number_of, rule_of, cut_short}
use Rattle.transaction.specs.declared.Layout.{Layout}
use Rattle.upload.specs.declared.Upload.{Upload}
use Rattle.upload.specs.Calls.{upload, piece_call, end_call}
use Rattle.operator.specs.Uploads.{rule_at, upload_of, refusal_word, standing_word, piece_word, end_word, sent, sent_piece}

-- ---- words

pub refusal-packed : (e : Refusal) (n : ℕ) → n ≡ number_of e → n * 4294967296 + e.place % 4294967296 ≡ refusal_word e
unfolding refusal_word
refusal-packed e n h = ap (λ (i : ℕ). i * 4294967296 + e.place % 4294967296) h

module _ (x : Option Refusal) where
  pub nothing-word : x ≡ None → 0 ≡ standing_word x
  unfolding standing_word
  nothing-word q = rw q

  pub refused-word : (e : Refusal) → x ≡ Some e → (w : ℕ) → w ≡ refusal_word e → w ≡ standing_word x
  unfolding standing_word
  refused-word e q w h = rw q h

  pub piece-answer : (d e : Refusal) → d ≡ refusal (rule_of cut_short) 0 → e ≡ unwrap_or x d → (w : ℕ) → w ≡ refusal_word e → w ≡ piece_word x
  unfolding piece_word refusal_word
  piece-answer d e h i w j = j ∙ ap refusal_word (i ∙ ap (unwrap_or x) h) ∙ go x
    where
      go : (x : Option Refusal) → refusal_word (unwrap_or x (refusal (rule_of cut_short) 0)) ≡ piece_word x
      go None = refl
      go (Some e) = refl

pub ruleset standing-words = (nothing-word, refused-word)

-- ---- the state

module _ (n : List ℕ) where
  pub nothing-stands : get_or n 1 0 / 4294967296 ≡ 0 → upload (get_or n 0 0) None ≡ upload_of n
  unfolding upload_of
  nothing-stands h = rw (eq-eqb (get_or n 1 0 / 4294967296) 0 h)

  pub refusal-stands : (get_or n 1 0 / 4294967296 ≡ 0 → ⊥) → (x : Rule) → x ≡ rule_at (get_or n 1 0 / 4294967296)
      → (e : Refusal) → e ≡ refusal x (get_or n 1 0 % 4294967296)
      → upload (get_or n 0 0) (Some e) ≡ upload_of n
  unfolding upload_of
  refusal-stands h x i e j =
      rw (ne_eqb (get_or n 1 0 / 4294967296) 0 h)
      (ap (λ (d : Refusal). upload (get_or n 0 0) (Some d)) (j ∙ ap (λ (y : Rule). refusal y (get_or n 1 0 % 4294967296)) i))

pub ruleset state = (nothing-stands, refusal-stands)

-- ---- the calls: u is the upload that the state v encodes

module _ (most : ℕ) (u v : Upload) (h : u ≡ v) where
  module _ (s : List ℕ) (x : Result (Layout × ℕ) Refusal) (i : x ≡ end_call most u s) where
    ended : (w : ℕ) → w ≡ end_word x → w ≡ end_word (end_call most v s)
    ended w j = j ∙ ap end_word (i ∙ ap (λ (y : Upload). end_call most y s) h)

    pub ended-accepted : (l : Layout) (n : ℕ) → x ≡ Ok (l, n) → n % 4294967296 ≡ end_word (end_call most v s)
    unfolding end_word
    ended-accepted l n q = ended (n % 4294967296) (rw q (omega arith))

    pub ended-refused : (e : Refusal) → x ≡ Err e → (w : ℕ) → w ≡ refusal_word e → w ≡ end_word (end_call most v s)
    unfolding end_word refusal_word
    ended-refused e q w j = ended w (rw q j)

  pub piece_sent : (s p t : List ℕ) (r : Upload) → (r, t) ≡ piece_call most u s p → (a b : ℕ) → a ≡ standing_word r.standing → b ≡ piece_word r.standing
      → sent b (r.stored ∷ a ∷ []) t ≡ sent_piece (piece_call most v s p)
  piece_sent s p t r i a b j k =
      ap₂ (λ (y z : ℕ). sent z (r.stored ∷ y ∷ []) t) j k
      ∙ ap sent_piece (i ∙ ap (λ (y : Upload). piece_call most y s p) h)

pub ruleset ending = (ended-accepted, ended-refused)
