-- A refusal names the first broken rule and its place (demand 2), as one statement over every byte string. The first broken rule is the one broken by
-- the shortest prefix that settles the answer: every shorter prefix is only cut short, and the bytes after it do not matter.
-- Assumes nothing.
use Rattle.std.specs.Prelude.{◌≡◌, ◌↔◌, true, List, ℕ, ◌≤◌, ◌<◌, length, take}
use Rattle.wire.specs.Bytes.{Bytes}
use Rattle.wire.specs.Format.{refused}
use Rattle.wire.specs.declared.Rule.{Rule}
use Rattle.wire.specs.Numbers.{refusal, rule_of, cut_short, too_long, bytes_after_end}
use Rattle.transaction.specs.Signed.{most_bytes}
use Rattle.transaction.specs.Family.{Family, check, accepted}

module _ (F : Family) where
  -- s is refused by rule r at place p
  abbrev pub Refuses : List ℕ → Rule → ℕ → Type 0
  Refuses s r p = check F s ≡ refused (refusal r p)

  -- s is refused by rule 2, at some place
  abbrev pub Cut : List ℕ → Type 0
  Cut s = (p : ℕ) × Refuses s (rule_of cut_short) p

  -- the first m bytes of s are the fewest that break rule r, at place p
  pub record Moment (s : List ℕ) (r : Rule) (p m : ℕ) : Type 0 where
    pub inside : m ≤ length s
    -- fewer bytes break no rule: they are only cut short
    pub before : (k : ℕ) → k < m → Cut (take k s)
    -- m bytes or more are refused by r at p
    pub since : (k : ℕ) → m ≤ k → Refuses (take k s) r p
    -- so are all bytes that start with these m, if they are not too long
    pub whatever-follows : (t : List ℕ) → length t ≤ most_bytes → take m t ≡ take m s → Refuses t r p

  pub record FirstBroken : Type 0 where
    -- "Rule 1 comes first": s is refused by rule 1 exactly if it has more than 65,536 bytes, and then at place 0
    pub above_most : (s : List ℕ) (p : ℕ) → Refuses s too_long p ↔ ((most_bytes < length s) × (p ≡ 0))
    -- "Bytes after the end: last", at the first of them: the bytes before that place are accepted
    pub after-end : (s : List ℕ) (n : ℕ) → Bytes s
        → Refuses s bytes_after_end n ↔ ((length s ≤ most_bytes) × (n < length s) × (accepted F (take n s) ≡ true))
    -- "A field cut short ends the reading there": if s is cut short, so is every prefix; none breaks another rule, and none is accepted
    pub cut_throughout : (s : List ℕ) (p : ℕ) → Bytes s → Refuses s (rule_of cut_short) p → (k : ℕ) → Cut (take k s)
    -- "Then fields are taken left to right; a rule is judged at the moment named below": every other refusal has its moment
    pub broken : (s : List ℕ) (r : Rule) (p : ℕ) → Bytes s → (r ≡ too_long → ⊥) → (r ≡ rule_of cut_short → ⊥) → (r ≡ bytes_after_end → ⊥)
        → Refuses s r p → (m : ℕ) × Moment s r p m
    -- every proper prefix of accepted bytes is cut short, and breaks no other rule
    pub accepted : (s : List ℕ) → Bytes s → accepted F s ≡ true → (k : ℕ) → k < length s → Cut (take k s)
