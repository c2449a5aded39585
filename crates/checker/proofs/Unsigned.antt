-- The unsigned part: the head, the outputs, and the rest of the plan. Assumes nothing.
use Rattle.std.specs.Prelude.{Ok, Err, Result, None}
use Prim.Native.Nat.{ℕ, ◌+◌, ◌^◌, ◌<◌}
use mathlib.Core.Path.{◌≡◌, refl, sym, ap, ◌∙◌}
use mathlib.Core.List.{List, ◌++◌}
use native.Mathlib.Omega.{arith}
use lib.ListN.{length, length-append}
use Rattle.wire.specs.declared.Refusal.{Refusal}
use Rattle.wire.specs.Format.{Format, Parsed, took, refused, on_result, read}
use Rattle.wire.specs.code.Answer.{ended}
use Rattle.wire.proofs.Bytes.{Slice}
use Rattle.wire.proofs.Reading as W
use Rattle.wire.proofs.Trying.{passed-on, same-parts}
use Rattle.element.proofs.Reading.{answer-took}
use Rattle.transaction.specs.Plan.{Plan, plan, type_id, type_of, type_of-id, plan_of}
use Rattle.transaction.specs.Form.{list_of, form, element_asks, asked, wanted}
use Rattle.transaction.specs.Avm.{avm}
use Rattle.transaction.specs.Family.{Head, head}
use Rattle.transaction.specs.Answer.{memo_most, layout}
use Rattle.transaction.specs.code.Answer.{head_at}
use Rattle.transaction.specs.declared.TransactionType.{TransactionType}
use Rattle.transaction.specs.declared.ListName.TheVariants as L
use Rattle.transaction.specs.declared.Layout.{Layout}
use Rattle.transaction.proofs.Good.{type_id-fits}
use Rattle.transaction.proofs.Reading.{on-answered, on-answered-refused, written_next}
use Rattle.plan.specs.Due.{tail, due}
use Rattle.checker.specs.code.Segments.{plan_at}
use Rattle.credentials.proofs.Asked.{none-asked}

module _ {R : Type 0} (most : ℕ) (s : List ℕ) (z : R) (stop : Refusal → R) (go : Head TransactionType → ℕ → R) (x : Result (ℕ × ℕ) Refusal)
    (p : x ≡ head_at s 0) where
  pub on-head : (k n : ℕ) → x ≡ Ok (k, n) → ((h : Head TransactionType) → k ≡ type_id h.type → read (head (avm most)) s 0 ≡ took h n → z ≡ go h n)
      → z ≡ (head (avm most)).parse s 0 stop go
  unfolding head
  on-head = on-answered (head (avm most)) (λ h. type_id h.type) s 0 z stop go x p

  pub on-head-refused : (e : Refusal) → x ≡ Err e → z ≡ stop e → z ≡ (head (avm most)).parse s 0 stop go
  unfolding head
  on-head-refused = on-answered-refused (head (avm most)) (λ h. type_id h.type) s 0 z stop go x p

-- the id of a type fits in 32 bits
pub head_small : (s : List ℕ) (x : Result (ℕ × ℕ) Refusal) (k n : ℕ) → x ≡ head_at s 0 → x ≡ Ok (k, n) → k < 2 ^ 32
unfolding head
head_small s x k n p q =
    let (h, m, t, i) = answer-took (head (avm memo_most)) s 0 Err (λ h n. Ok (type_id h.type, n)) x p (Ok (k, n)) q
    (λ e i. let z : ◌≡◌ {A = ℕ} 0 1 = cc in omega arith) in
    let e : type_id h.type ≡ k = (same-parts i).0 in
    omega (arith, type_id-fits h.type)

-- continuations that agree on every value that is read give the same answer
parse-read : {A R : Type 0} (F : Format A) (s : List ℕ) (at : ℕ) (stop : Refusal → R) (go on : A → ℕ → R)
    → ((v : A) (n : ℕ) → read F s at ≡ took v n → go v n ≡ on v n) → F.parse s at stop go ≡ F.parse s at stop on
parse-read F s at stop go on h = F.same s at stop go ∙ cases (read F s at) refl ∙ sym (F.same s at stop on)
  where
    cases : (o : Parsed _) → read F s at ≡ o → on_result o stop go ≡ on_result o stop on
    cases (took v n) e = h v n e
    cases (refused e) q = refl

-- after a head that was read
module _ (most : ℕ) (s : List ℕ) (k : ℕ) (h : Head TransactionType) (n : ℕ) (hk : k ≡ type_id h.type) (hn : read (head (avm most)) s 0 ≡ took h n)
    (y : Result ℕ Refusal) (r : y ≡ ended (list_of L.Output 0) s n) where
  abbrev Body : Result Layout Refusal
  Body = (form most (plan h.type)).parse s n Err (λ v m. Ok (layout most (h, v)))

  pub outputs-refused : (e : Refusal) → y ≡ Err e → (z : Result Layout Refusal) → z ≡ Err e → z ≡ Body
  unfolding form
  outputs-refused e t z i = W.stops (list_of L.Output 0) (Result Layout Refusal) s n z Err _ y e r t i

  pub outputs-passed : (i : ℕ) → y ≡ Ok i → Slice s → (z : Result Layout Refusal) → z ≡ plan_at most k i 0 (due 2 (plan_of k)) s i → z ≡ Body
  unfolding form wanted
  outputs-passed i t b z g =
      let o : Plan = tail (plan h.type) in
      let same : z ≡ plan_at most k i 0 o s i = g ∙ ap (λ (j : TransactionType). plan_at most k i 0 (tail (plan j)) s i) (ap type_of hk ∙ type_of-id h.type) in
      let (outs, eo) = W.next-took (list_of L.Output 0) s n y i r t in
      let a : List ℕ = (list_of L.Output 0).write outs in
      let l : List ℕ = (head (avm most)).write h in
      let ei : i ≡ length l + length a = omega (arith, written_next (head (avm most)) s 0 h n b hn, written_next (list_of L.Output 0) s n outs i b eo) in
      same
      ∙ parse-read (form most o) s i Err _ (λ v m. Ok (layout most (h, (outs, v)))) (λ v m ev.
      let silent : length (asked (element_asks L.Output) outs) ≡ 0 = ap length (none-asked None (λ v. 0) 0 refl refl outs) in
      let count : 0 + length (wanted o v) ≡ length (asked (element_asks L.Output) outs ++ wanted o v) =
      omega (arith, length-append (asked (element_asks L.Output) outs) (wanted o v)) in
      let end : m ≡ length l + length (a ++ (form most o).write v) =
      omega (arith, written_next (form most o) s i v m b ev, length-append a ((form most o).write v)) in
      ap Ok (made k _ i _ _ _ m _ hk ei count end))
      ∙ sym (W.parse-took (list_of L.Output 0) s n Err _ outs i eo)
    where
      made : (k k' i i' w w' m m' : ℕ) → k ≡ k' → i ≡ i' → w ≡ w' → m ≡ m'
          → ◌≡◌ {A = Layout} record { type_id = k; inputs_at = i; credentials_count = w; credentials_at = m }
          record { type_id = k'; inputs_at = i'; credentials_count = w'; credentials_at = m' }
      made k k' i i' w w' m m' a b c d = rw (a, b, c, d)

pub ruleset unsigning = (on-head, on-head-refused, outputs-refused, outputs-passed, passed-on)
