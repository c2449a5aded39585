-- DEMAND 3 of document 00, as document 01 ("Drafts, slots, merging") spells it out: one claim about every list of drafts and every grouping over it
-- that uses each. Its calls are those that merge's contract cites, its slots those of demand 2's reading (specs/Slots). Assumes nothing.
use Rattle.std.specs.Prelude.{◌≡◌, ◌⊎◌, ◌↔◌, List, [], ◌∷◌, ℕ, ◌<◌, length, drop, get_or, None, Some}
use Rattle.transaction.specs.Slots.{blank, slot_at, put_all, Outside}
use Rattle.draft_slots.specs.Joining.{Filled, Clash, join}
use Rattle.draft.specs.Reader.{Reader, Draft, body, slot_count, slot}
use Rattle.draft.specs.Calls.{answer_number, answer_place, merge_call}
use Rattle.draft_theorems.specs.Groupings.{at, Drafts, Grouping, Uses, Fits, Call, call_number, call_place, call_buffer, result, Made, Meets}

-- ---- conflicts

-- some slot holds two different signatures among the drafts
pub record Conflict (R : Reader) (ds : List (List ℕ)) : Type 0 where
  pub k : ℕ
  pub i : ℕ
  pub j : ℕ
  pub i-in : i < length ds
  pub j-in : j < length ds
  pub k-in : k < slot_count R (at ds i)
  pub clash : Clash (slot R (at ds i) k) (slot R (at ds j) k)

-- k is the first slot where d and e hold different signatures
pub record FirstClash (R : Reader) (d e : List ℕ) (k : ℕ) : Type 0 where
  pub k-in : k < slot_count R d
  pub here : Clash (slot R d k) (slot R e k)
  pub before : (n : ℕ) → n < k → Clash (slot R d n) (slot R e n) → ⊥

-- ---- the merge of a list

-- e is as long as d, and has the same bytes outside the slots
pub record Frame (slots d e : List ℕ) : Type 0 where
  pub long : length e ≡ length d
  pub outside : (n : ℕ) → Outside slots n → get_or e n 0 ≡ get_or d n 0

-- the signature of the first draft that holds one at p, or blank if none does
unfoldable pub held_at : ℕ → List (List ℕ) → List ℕ
unfolding join
held_at p [] = blank
held_at p (d ∷ ds) = join (slot_at d p) (held_at p ds)

-- the bytes of the first draft, except that each slot holds what `held_at` finds there
unfoldable pub merge_of : Reader → List (List ℕ) → List ℕ
unfolding held_at put_all
merge_of R ds = put_all (R.slots (at ds 0)) (λ p. held_at p ds) (at ds 0)

-- what it means that m is the merge of a list, however it is computed
pub record IsMerge (R : Reader) (ds : List (List ℕ)) (m : List ℕ) : Type 0 where
  -- accepted, and of the same unsigned transaction
  pub draft : Draft R m
  pub same-unsigned : (i : ℕ) → i < length ds → body R m ≡ body R (at ds i)
  -- "every byte outside the slots is as in each draft", and the slots are where they were
  pub same-slots : (i : ℕ) → i < length ds → R.slots m ≡ R.slots (at ds i)
  pub outside : (i : ℕ) → i < length ds → Frame (R.slots (at ds i)) (at ds i) m
  -- "each slot holds the signature that any of the drafts holds there"
  pub holds : (k : ℕ) → k < slot_count R m → (i : ℕ) → i < length ds → Filled (slot R (at ds i) k) → slot R m k ≡ slot R (at ds i) k
  -- "and is empty only if all are"; and if all are
  pub empty : (k : ℕ) → k < slot_count R m → (slot R m k ≡ blank) ↔ ((i : ℕ) → i < length ds → slot R (at ds i) k ≡ blank)

-- the merge of one or more drafts of one unsigned transaction, stated of the list alone
pub record MergeOfList (R : Reader) (ds : List (List ℕ)) : Type 0 where
  -- "exists exactly when no slot holds two different signatures among them"
  pub exists : ((m : List ℕ) × IsMerge R ds m) ↔ (Conflict R ds → ⊥)
  -- and is then the bytes of `merge_of`
  pub merge : (Conflict R ds → ⊥) → IsMerge R ds (merge_of R ds)
  -- nothing else is the merge
  pub one : (m : List ℕ) → IsMerge R ds m → m ≡ merge_of R ds

-- ---- one grouping over a list

-- "answers 0 with a draft's length"; the bytes of its buffer after the result are as before
pub record Done (R : Reader) (ds : List (List ℕ)) (c : Call) : Type 0 where
  pub number : call_number R c ≡ 0
  pub place : (i : ℕ) → i < length ds → call_place R c ≡ length (at ds i)
  pub long : length (call_buffer R c) ≡ length c.out
  pub after : drop (call_place R c) (call_buffer R c) ≡ drop (call_place R c) c.out

-- "answers 20 with the first slot where its own two drafts hold different signatures"; nothing is written
pub record Refused (R : Reader) (c : Call) : Type 0 where
  pub number : call_number R c ≡ 20
  pub place : FirstClash R c.first c.second (call_place R c)
  pub buffer : call_buffer R c ≡ c.out

pub record Promise (R : Reader) (ds : List (List ℕ)) (g : Grouping) : Type 0 where
  -- "the conflict refusal is met exactly when some signature slot holds two different signatures among the drafts"
  pub conflict : Meets R ds g 20 ↔ Conflict R ds
  -- "and no other refusal is ever met"
  pub no_other : (n : ℕ) → Meets R ds g n → (n ≡ 0) ⊎ (n ≡ 20)
  -- how each call that is made ends
  pub each-call : (c : Call) → Made R ds g c → Done R ds c ⊎ Refused R c
  -- "every such order and grouping gives the same bytes, the merge of the list"
  pub gives : (Conflict R ds → ⊥) → result R ds g ≡ Some (merge_of R ds)
  -- "a call that is refused ends the grouping .. and there is no result"
  pub no_result : Conflict R ds → result R ds g ≡ None
  -- a grouping always ends in one of the two: the merge as its result, or the conflict refusal
  pub ends : (result R ds g ≡ Some (merge_of R ds)) ⊎ Meets R ds g 20

-- ---- one pair

-- two accepted drafts d and e, whether of the same unsigned transaction or not, and any output buffer
pub record Pair (R : Reader) (d e out : List ℕ) : Type 0 where
  -- "a pair that agrees wherever both are filled never meets the conflict refusal"
  pub agreeing : ((k : ℕ) → k < slot_count R d → Filled (slot R d k) → Filled (slot R e k) → slot R d k ≡ slot R e k)
      → answer_number (merge_call R d e out).0 ≡ 20 → ⊥
  -- a pair of the same unsigned transaction meets it exactly if the two disagree in some slot, and reports the first such slot
  pub exactly : body R d ≡ body R e → (k : ℕ) → ((answer_number (merge_call R d e out).0 ≡ 20) × (answer_place (merge_call R d e out).0 ≡ k))
      ↔ FirstClash R d e k

-- ---- the demand

pub record Demand3 (R : Reader) : Type 0 where
  pub merges : (ds : List (List ℕ)) → Drafts R ds → MergeOfList R ds
  pub groupings : (ds : List (List ℕ)) → Drafts R ds → (g : Grouping) → Fits ds g → ((i : ℕ) → i < length ds → Uses g i) → Promise R ds g
  pub pairs : (d e out : List ℕ) → Draft R d → Draft R e → Pair R d e out
