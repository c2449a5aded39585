-- Every entry lies inside the bytes of its transaction. Assumes nothing.
use Prim.Native.Nat.{ℕ, ◌+◌, ◌*◌, ◌≤◌}
use mathlib.Core.Path.{◌≡◌, ap}
use mathlib.Core.List.{List, [], ◌∷◌, ◌++◌}
use native.Mathlib.Omega.{arith}
use lib.ListN.{length, length-append}
use Rattle.wire.specs.Format.{Format}
use Rattle.wire.specs.Fields.{integer}
use Rattle.wire.specs.laws.Sizes.{length-integer}
use Rattle.wire.specs.Sequence.{guard, tag, items}
use Rattle.wire.specs.Series.{left, not_below}
use Rattle.wire.specs.Parsers.{list_write}
use Rattle.element.specs.Outputs.{output}
use Rattle.element.specs.Operations.{InitialState, fx_code, fx_outputs, fx_id, state_outputs, initial_state_after, initial_state}
use Rattle.transaction.specs.Slots.{signature_width}
use Rattle.transaction.specs.Credentials.{Want, each, size, credentials}
use Rattle.transaction.proofs.CredentialLaws.{size-each, length-credentials, total-cons}
use Rattle.transaction.specs.Entries.{EntryAt, state_output_entry, state_entries, entries_from, credential_entries}
use Rattle.transaction.specs.Plan.{content_of, elements_of, Plan, shut, end, field, many, plan}
use Rattle.transaction.specs.Form.{at_least, list_of, Value, form, plan_entries}
use Rattle.transaction.specs.Avm.{avm}
use Rattle.transaction.specs.Signed as AnySigned
use Rattle.transaction.specs.Family.{Signed, unsigned, head, wants, entries}
use Rattle.transaction.specs.Codec.{Writing}
use Rattle.transaction.specs.declared.ListName.{ListName}
use Rattle.transaction.specs.declared.ListName.TheVariants as L

-- each entry starts before it ends, and ends by hi
abbrev pub Inside : ℕ → List EntryAt → Type 0
Inside hi [] = Unit {0}
Inside hi (e ∷ es) = (e.start ≤ e.end) × (e.end ≤ hi) × Inside hi es

inside-more : (lo hi : ℕ) (es : List EntryAt) → lo ≤ hi → Inside lo es → Inside hi es
inside-more lo hi [] h i = tt
inside-more lo hi (e ∷ es) h (a, c, i) = (a, omega arith, inside-more lo hi es h i)

inside-append : (hi : ℕ) (xs ys : List EntryAt) → Inside hi xs → Inside hi ys → Inside hi (xs ++ ys)
inside-append hi [] ys h k = k
inside-append hi (e ∷ xs) ys (a, c, h) k = (a, c, inside-append hi xs ys h k)

module _ {A : Type 0} (E : List ℕ → Format A) (entry : ℕ → ℕ → A → List EntryAt)
    (one : (prev : List ℕ) (at : ℕ) (a : A) → Inside (at + length ((E prev).write a)) (entry at (at + length ((E prev).write a)) a)) where
  list_inside : (prev : List ℕ) (at : ℕ) (l : List A) → Inside (at + length (list_write E (left E) prev l)) (entries_from E entry prev at l)
  unfolding entries_from list_write
  list_inside prev at [] = tt
  list_inside prev at (a ∷ l) =
      let w : List ℕ = (E prev).write a in
      let more = length-append w (list_write E (left E) w l) in
      inside-append (at + length (w ++ list_write E (left E) w l)) (entry at (at + length w) a) (entries_from E entry w (at + length w) l)
      (inside-more (at + length w) (at + length (w ++ list_write E (left E) w l)) (entry at (at + length w) a) (omega arith) (one prev at a))
      (inside-more (at + length w + length (list_write E (left E) w l)) (at + length (w ++ list_write E (left E) w l))
      (entries_from E entry w (at + length w) l)
      (omega arith) (list_inside w (at + length w) l))

  counted-inside : (least at : ℕ) (l : List A) → Inside (at + length ((at_least least E).write l)) (entries_from E entry [] (at + 4) l)
  unfolding at_least items
  counted-inside least at l =
      inside-more (at + 4 + length (list_write E (left E) [] l)) (at + length ((integer 4).write (length l) ++ list_write E (left E) [] l))
      (entries_from E entry [] (at + 4) l)
      (omega (arith, length-append ((integer 4).write (length l)) (list_write E (left E) [] l), length-integer 4 (length l))) (list_inside [] (at + 4) l)

state-inside : (prev : List ℕ) (at : ℕ) (v : InitialState)
    → Inside (at + length ((initial_state prev).write v)) (state_entries at (at + length ((initial_state prev).write v)) v)
unfolding initial_state_after guard fx_id tag state_outputs items
state-inside prev at v =
    let E = not_below (output (fx_outputs v.fx)) in
    let n : ℕ = length v.outputs in
    let l : List ℕ = list_write E (left E) [] v.outputs in
    let k : List ℕ = (integer 4).write (fx_code v.fx) in
    let m : List ℕ = (integer 4).write n in
    inside-more (at + 8 + length l) (at + length (k ++ (m ++ l))) (entries_from E state_output_entry [] (at + 8) v.outputs)
    (omega (arith, length-append k (m ++ l), length-append m l, length-integer 4 (fx_code v.fx), length-integer 4 n))
    (list_inside E state_output_entry (λ prev at a. (omega arith, omega arith, tt)) [] (at + 8) v.outputs)

-- a field or a list, and what comes after it
after : (at : ℕ) (a c : List ℕ) (xs : List EntryAt) → Inside (at + length a + length c) xs → Inside (at + length (a ++ c)) xs
after at a c xs h = inside-more (at + length a + length c) (at + length (a ++ c)) xs (omega (arith, length-append a c)) h

both : (at : ℕ) (a c : List ℕ) (xs ys : List EntryAt) → Inside (at + length a) xs → Inside (at + length a + length c) ys
    → Inside (at + length (a ++ c)) (xs ++ ys)
both at a c xs ys h k =
    inside-append (at + length (a ++ c)) xs ys
    (inside-more (at + length a) (at + length (a ++ c)) xs (omega (arith, length-append a c)) h) (after at a c ys k)

element-inside : (l : ListName) (prev : List ℕ) (at : ℕ) (a : (elements_of l).Element)
    → Inside (at + length (((elements_of l).element prev).write a)) ((elements_of l).entries at (at + length (((elements_of l).element prev).write a)) a)
element-inside L.Output prev at a = (omega arith, omega arith, tt)
element-inside L.Input prev at a = (omega arith, omega arith, tt)
element-inside L.State prev at a = state-inside prev at a
element-inside L.Operation prev at a = (omega arith, omega arith, tt)
element-inside L.Imported prev at a = (omega arith, omega arith, tt)
element-inside L.Exported prev at a = (omega arith, omega arith, tt)

plan-inside : (most : ℕ) (p : Plan) (v : Value p) (at : ℕ) → Inside (at + length ((form most p).write v)) (plan_entries most p v at)
unfolding form plan_entries
plan-inside most shut v at = tt
plan-inside most end v at = tt
plan-inside most (field f q) (x, v) at =
    let w : List ℕ = (content_of most f).write x in
    after at w ((form most q).write v) (plan_entries most q v (at + length w)) (plan-inside most q v (at + length w))
plan-inside most (many l least q) (x, v) at =
    let w : List ℕ = (list_of l least).write x in
    both at w ((form most q).write v) (entries_from (elements_of l).element (elements_of l).entries [] (at + 4) x) (plan_entries most q v (at + length w))
    (counted-inside (elements_of l).element (elements_of l).entries (element-inside l) least at x) (plan-inside most q v (at + length w))

-- ---- credentials

credentials-inside : (ws : List Want) (at : ℕ) → Inside (at + size (each ws)) (credential_entries ws at)
unfolding credential_entries
credentials-inside [] at = tt
credentials-inside (w ∷ ws) at =
    let n : ℕ = 8 + w.signatures * signature_width in
    let h : size (each (w ∷ ws)) ≡ n + size (each ws) = size-one w ws in
    let more =
    inside-more (at + n + size (each ws)) (at + size (each (w ∷ ws))) (credential_entries ws (at + n)) (omega arith) (credentials-inside ws (at + n)) in
    (omega arith, omega arith, more)
  where
    size-one : (w : Want) (ws : List Want) → size (each (w ∷ ws)) ≡ 8 + w.signatures * signature_width + size (each ws)
    size-one w ws = omega (arith, size-each (w ∷ ws), size-each ws, total-cons w ws)

-- ---- all entries

-- `length-credentials`, for proofs that open the definition of `entries`
pub credentials-length : (ws : List Want) (l : List (List ℕ)) → (credentials ws).Good l → length ((credentials ws).write l) ≡ 4 + size (each ws)
credentials-length ws l g = length-credentials ws l g

pub entries-inside : (most : ℕ) (s : List ℕ) (v : Signed (avm most)) → Writing (avm most) s v → Inside (length s) (entries (avm most) v)
unfolding entries AnySigned.signed unsigned wants
entries-inside most s (u, l) w =
    let p : Plan = plan u.0.type in
    let h : List ℕ = (head (avm most)).write u.0 in
    let f : List ℕ = (form most p).write u.1 in
    let ws : List Want = wants (avm most) u in
    let c : List ℕ = (credentials ws).write l in
    let long = ap length w.written in
    let many = credentials-length ws l w.good.1 in
    inside-append (length s) (plan_entries most p u.1 (length h)) (credential_entries ws (length (h ++ f) + 4))
    (inside-more (length h + length f) (length s) (plan_entries most p u.1 (length h)) (omega (arith, length-append h f, length-append (h ++ f) c))
    (plan-inside most p u.1 (length h)))
    (inside-more (length (h ++ f) + 4 + size (each ws)) (length s) (credential_entries ws (length (h ++ f) + 4)) (omega (arith, length-append (h ++ f) c))
    (credentials-inside ws (length (h ++ f) + 4)))
