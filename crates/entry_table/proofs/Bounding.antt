-- A transaction has no more entries than bytes. Assumes nothing.
use Prim.Native.Nat.{ℕ, ◌+◌, ◌*◌, ◌≤◌}
use mathlib.Core.Path.{◌≡◌, ap}
use mathlib.Core.List.{List, [], ◌∷◌, ◌++◌}
use native.Mathlib.Omega.{arith}
use lib.ListN.{length, length-append}
use Rattle.wire.specs.laws.Bytes.{length_digits}
use Rattle.wire.specs.Format.{Format}
use Rattle.wire.specs.Fields.{integer}
use Rattle.wire.specs.Sequence.{guard, tag, items}
use Rattle.wire.specs.Series.{left, not_below}
use Rattle.wire.specs.Parsers.{list_write}
use Rattle.element.specs.Outputs.{secp_mint, secp_transfer, nft_mint, nft_transfer, OutputType, Output, output, TransferableOutput, transferable_output}
use Rattle.element.specs.Inputs.{Input, input}
use Rattle.element.specs.Operations.{Operation, operation, InitialState, fx_code, fx_outputs, fx_id, state_outputs, initial_state_after, initial_state}
use Rattle.element.specs.PlainBytes.{output_bytes, transferable_output_bytes, input_bytes, operation_bytes}
use Rattle.element.proofs.Writing.{output-bytes, transferable_output-bytes, input-bytes, operation-bytes}
use Rattle.transaction.specs.Slots.{signature_width}
use Rattle.transaction.specs.Credentials.{Want, each, size, credentials}
use Rattle.transaction.proofs.CredentialLaws.{size-each, total-cons}
use Rattle.entry_table.proofs.Inside.{credentials-length}
use Rattle.transaction.specs.Entries.{EntryAt, state_output_entry, state_entries, entries_from, credential_entries}
use Rattle.transaction.specs.Plan.{content_of, elements_of, Plan, shut, end, field, many, plan}
use Rattle.transaction.specs.Form.{at_least, list_of, Value, form, plan_entries}
use Rattle.transaction.specs.Avm.{avm}
use Rattle.transaction.specs.Signed as AnySigned
use Rattle.transaction.specs.Family.{Signed, unsigned, head, wants, entries}
use Rattle.transaction.specs.Codec.{Writing}
use Rattle.transaction.specs.declared.ListName.{ListName}
use Rattle.transaction.specs.declared.ListName.TheVariants as L

-- ---- every element is non-empty

output-some : (types : List OutputType) (o : Output) → 1 ≤ length ((output types).write o)
unfolding output_bytes
output-some types o = omega (arith, ap length (output-bytes types o), plain o)
  where
    plain : (o : Output) → 1 ≤ length (output_bytes o)
    plain (secp_mint, o) = simp (length-append, length_digits) (omega arith)
    plain (secp_transfer, o) = simp (length-append, length_digits) (omega arith)
    plain (nft_mint, o) = simp (length-append, length_digits) (omega arith)
    plain (nft_transfer, o) = simp (length-append, length_digits) (omega arith)

transferable-some : (o : TransferableOutput) → 1 ≤ length (transferable_output.write o)
unfolding transferable_output_bytes
transferable-some o =
    omega (
      arith,
      ap length (transferable_output-bytes o),
      length-append o.asset (output_bytes o.output),
      ap length (output-bytes [] o.output),
      output-some [] o.output,
    )

input-some : (prev : List ℕ) (i : Input) → 1 ≤ length ((input prev).write i)
unfolding input_bytes
input-some prev i = omega (arith, ap length (input-bytes prev i), plain i)
  where
    plain : (i : Input) → 1 ≤ length (input_bytes i)
    plain i = simp (length-append, length_digits) (omega arith)

operation-some : (v : Operation) → 1 ≤ length (operation.write v)
unfolding operation_bytes
operation-some v = omega (arith, ap length (operation-bytes v), plain v)
  where
    plain : (v : Operation) → 1 ≤ length (operation_bytes v)
    plain v = simp (length-append, length_digits) (omega arith)

-- ---- lists, plans and credentials

module _ {A : Type 0} (E : List ℕ → Format A) (entry : ℕ → ℕ → A → List EntryAt)
    (one : (prev : List ℕ) (at : ℕ) (a : A) → length (entry at (at + length ((E prev).write a)) a) ≤ length ((E prev).write a)) where
  list-few : (prev : List ℕ) (at : ℕ) (l : List A) → length (entries_from E entry prev at l) ≤ length (list_write E (left E) prev l)
  unfolding entries_from list_write
  list-few prev at [] = omega arith
  list-few prev at (a ∷ l) =
      let w : List ℕ = (E prev).write a in
      omega (
        arith,
        length-append (entry at (at + length w) a) (entries_from E entry w (at + length w) l),
        length-append w (list_write E (left E) w l),
        one prev at a,
        list-few w (at + length w) l,
      )

  counted-few : (least at : ℕ) (l : List A) → length (entries_from E entry [] (at + 4) l) ≤ length ((at_least least E).write l)
  unfolding at_least items
  counted-few least at l = omega (arith, length-append ((integer 4).write (length l)) (list_write E (left E) [] l), list-few [] (at + 4) l)

state-few : (prev : List ℕ) (at : ℕ) (v : InitialState)
    → length (state_entries at (at + length ((initial_state prev).write v)) v) ≤ length ((initial_state prev).write v)
unfolding initial_state_after guard fx_id tag state_outputs items
state-few prev at v =
    let E = not_below (output (fx_outputs v.fx)) in
    let n : ℕ = length v.outputs in
    let l : List ℕ = list_write E (left E) [] v.outputs in
    omega (
      arith,
      length-append ((integer 4).write (fx_code v.fx)) ((integer 4).write n ++ l),
      length-append ((integer 4).write n) l,
      list-few E state_output_entry (λ prev at o. output-some (fx_outputs v.fx) o) [] (at + 8) v.outputs,
    )

element-few : (l : ListName) (prev : List ℕ) (at : ℕ) (a : (elements_of l).Element)
    → length ((elements_of l).entries at (at + length (((elements_of l).element prev).write a)) a) ≤ length (((elements_of l).element prev).write a)
unfolding guard
element-few L.Output prev at a = transferable-some a
element-few L.Input prev at a = input-some prev a
element-few L.State prev at a = state-few prev at a
element-few L.Operation prev at a = operation-some a
element-few L.Imported prev at a = input-some prev a
element-few L.Exported prev at a = transferable-some a

plan-few : (most : ℕ) (p : Plan) (v : Value p) (at : ℕ) → length (plan_entries most p v at) ≤ length ((form most p).write v)
unfolding form plan_entries
plan-few most shut v at = omega arith
plan-few most end v at = omega arith
plan-few most (field f q) (x, v) at =
    let w : List ℕ = (content_of most f).write x in
    omega (arith, length-append w ((form most q).write v), plan-few most q v (at + length w))
plan-few most (many l least q) (x, v) at =
    let w : List ℕ = (list_of l least).write x in
    let es : List EntryAt = entries_from (elements_of l).element (elements_of l).entries [] (at + 4) x in
    omega (
      arith,
      length-append w ((form most q).write v),
      length-append es (plan_entries most q v (at + length w)),
      counted-few (elements_of l).element (elements_of l).entries (element-few l) least at x,
      plan-few most q v (at + length w),
    )

credentials-few : (ws : List Want) (at : ℕ) → length (credential_entries ws at) ≤ size (each ws)
unfolding credential_entries
credentials-few [] at = omega arith
credentials-few (w ∷ ws) at =
    let h : size (each (w ∷ ws)) ≡ 8 + w.signatures * signature_width + size (each ws) = omega (arith, size-each (w ∷ ws), size-each ws, total-cons w ws) in
    omega (arith, h, credentials-few ws (at + (8 + w.signatures * signature_width)))

-- ---- all entries

pub entries-few : (most : ℕ) (s : List ℕ) (v : Signed (avm most)) → Writing (avm most) s v → length (entries (avm most) v) ≤ length s
unfolding entries AnySigned.signed unsigned wants
entries-few most s (u, l) w =
    let p : Plan = plan u.0.type in
    let h : List ℕ = (head (avm most)).write u.0 in
    let f : List ℕ = (form most p).write u.1 in
    let ws : List Want = wants (avm most) u in
    let c : List ℕ = (credentials ws).write l in
    omega (
      arith,
      ap length w.written,
      length-append h f,
      length-append (h ++ f) c,
      credentials-length ws l w.good.1,
      length-append (plan_entries most p u.1 (length h)) (credential_entries ws (length (h ++ f) + 4)),
      plan-few most p u.1 (length h),
      credentials-few ws (length (h ++ f) + 4),
    )
