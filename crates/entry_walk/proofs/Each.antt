-- What holds of the entries of each element and of each credential that was read holds of all entries ahead of a cursor. Assumes nothing.
use Prim.Native.Nat.{ℕ, zero, suc}
use mathlib.Core.Path.{◌≡◌, sym, subst}
use mathlib.Core.List.{List, [], ◌∷◌, ◌++◌}
use native.Mathlib.Omega.{arith}
use native.Mathlib.Numerals.{sub-one}
use native.Mathlib.Nat.{zero-lt-suc}
use Rattle.wire.specs.Format.{Format, took, read}
use Rattle.wire.proofs.Bytes.{Slice}
use Rattle.transaction.specs.Credentials.{Want, each, pieces}
use Rattle.transaction.specs.Entries.{EntryAt, credential_entry, credential_entries}
use Rattle.transaction.specs.Plan.{elements_of, Plan, shut, end, field, many}
use Rattle.transaction.specs.declared.ListName.{ListName}
use Rattle.entry_walk.specs.code.Walk.{Rest, Credentials, PlanAhead}
use Rattle.entry_walk.proofs.Advancing.{rest-done, one_of, Leading, leading-of}

module _ (P : EntryAt → Type 0) where
  abbrev pub Each : List EntryAt → Type 0
  Each [] = Unit {0}
  Each (e ∷ es) = P e × Each es

  pub each_append : (xs ys : List EntryAt) → Each xs → Each ys → Each (xs ++ ys)
  each_append [] ys h k = k
  each_append (e ∷ xs) ys (a, h) k = (a, each_append xs ys h k)

  module _ (s : List ℕ) (b : Slice s) where
    module _ {A : Type 0} (E : List ℕ → Format A) (entry : ℕ → ℕ → A → List EntryAt) (Later : ℕ → List EntryAt → Type 0)
        (one : (prev : List ℕ) (at : ℕ) (v : A) (m : ℕ) → read (E prev) s at ≡ took v m → Each (entry at m v))
        (later : (at : ℕ) (es : List EntryAt) → Later at es → Each es) where
      pub rest-each : (c at : ℕ) (es : List EntryAt) → Rest s E entry Later c at es → Each es
      rest-each zero at es r = later at es (rest-done E entry Later s zero at es (omega arith) r)
      rest-each (suc c) at es r =
          let o = one_of E entry Later s b (suc c) at es (zero-lt-suc c) r in
          subst Each (sym o.entries)
          (each_append (entry at o.next o.value) o.others (one o.prev at o.value o.next o.stands)
          (rest-each c o.next o.others (subst (λ (k : ℕ). Rest s E entry Later k o.next o.others) (sub-one (suc c)) o.after)))

    module _ (element : (l : ListName) (prev : List ℕ) (at : ℕ) (v : (elements_of l).Element) (m : ℕ) → read ((elements_of l).element prev) s at ≡ took v m
        → Each ((elements_of l).entries at m v))
        (credential : (w : Want) (ws : List Want) (at m : ℕ) → Leading s b w ws at m → P (credential_entry w at)) where
      credentials-each : (c at : ℕ) (es : List EntryAt) → Credentials s c at es → Each es
      unfolding credential_entries
      credentials-each c at es h = subst Each (sym h.entries) (go h.wants at h.slots h.next h.stands)
        where
          go : (ws : List Want) (at : ℕ) (l : List (List ℕ)) (m : ℕ) → read (pieces (each ws)) s at ≡ took l m → Each (credential_entries ws at)
          go [] at l m h = tt
          go (w ∷ ws) at l m h =
              let f = leading-of s b w ws at l m h in
              (credential w ws at m f, go ws _ f.slots m f.stands)

      pub plan-each : (most : ℕ) (p : Plan) (at : ℕ) (es : List EntryAt) → PlanAhead s most p at es → Each es
      plan-each most shut at es h = absurd h
      plan-each most end at es h = credentials-each h.value h.next es h.after
      plan-each most (field f p) at es h = plan-each most p h.next es h.after
      plan-each most (many l least p) at es h =
          rest-each (elements_of l).element (elements_of l).entries (PlanAhead s most p) (element l) (plan-each most p) h.value h.next es h.after
