-- In an accepted transaction, the typed fields at an entry's row are that entry. Assumes nothing.
use Rattle.std.specs.Prelude.{Some, None}
use Rattle.std.specs.Option.{option_map}
use Prim.Native.Nat.{ℕ, ◌+◌}
use mathlib.Core.Path.{◌≡◌, refl, sym, ap, ◌∙◌, subst}
use mathlib.Core.Bool.{Bool, not}
use mathlib.Core.List.{List, [], ◌∷◌, append-nil}
use lib.ListN.{take}
use Rattle.wire.specs.Bytes.{below}
use Rattle.wire.specs.Numbers.{ReadingRule, by, out_of_order, unknown_type}
use Rattle.wire.specs.Format.{Format, took, read}
use Rattle.wire.specs.laws.Format.{moved, parse-inv, pick_inv}
use Rattle.wire.specs.Fields.{integer, blob, constant}
use Rattle.wire.specs.Sequence.{guard, and_then, named}
use Rattle.wire.specs.Series.{above, not_below, count_prefixed}
use Rattle.wire.specs.code.Answer.{whole_at}
use Rattle.wire.proofs.Bytes.{Slice, slice-bytes}
use Rattle.wire.proofs.Reading as W
use Rattle.element.specs.Outputs.{amount, secp_transfer, Output, output, TransferableOutput, transferable_output, output_fields}
use Rattle.element.specs.Inputs.{key, key_width, indices, spend, Input, input_after, input, input_fields}
use Rattle.element.specs.Operations.{action, Operation, operation, InitialState, Fx, fx_outputs, initial_state}
use Rattle.transaction.specs.declared.Entry.TheVariants as E
use Rattle.transaction.specs.Entries.{EntryAt, entry_kind, no_id, output_entry, exported_entry, input_entry, imported_entry, operation_entry, credential_entry}
use Rattle.transaction.specs.Entries.{state_output_entry, state_entries, entries_from}
use Rattle.transaction.specs.Plan.{elements_of, plan_of}
use Rattle.transaction.specs.declared.ListName.{ListName}
use Rattle.transaction.specs.declared.ListName.TheVariants as L
use Rattle.transaction.specs.Credentials.{Want, credential_code}
use Rattle.transaction.proofs.Reading.{written_next}
use Rattle.entry_walk.specs.code.Walk.{start, Ahead}
use Rattle.entry_walk.proofs.Advancing.{state-of, Leading}
use Rattle.entry_walk.proofs.Each.{Each, rest-each, plan-each}
use Rattle.entry_fields.specs.code.Found.{input_found}
use Rattle.entry_fields.proofs.Finding.{output-found, input-found, operation-found}
use Rattle.entry.specs.code.Typed.{output_after, typed_at, after_key, asset_at, txid_at}

operation-asset : (s : List ℕ) (at : ℕ) (v : Operation) (m : ℕ) → read operation s at ≡ took v m → whole_at 32 s at ≡ v.asset
unfolding operation named and_then
operation-asset s at v m h =
    let (x, i, ex, e₁) = parse-inv (blob 32) s at _ v m h in
    let (pairs, j, ep, e₂) = parse-inv (count_prefixed (integer 4) (above key)) s i _ v m e₁ in
    let (w, k, ew, e₃) = parse-inv action s j _ v m e₂ in
    let same : record { asset = x; outputs = pairs; terms = w.1.0; owners = (w.0, w.1.1) } ≡ v = cc in
    W.whole_part 32 s at x i ex ∙ ap (λ (o : Operation). o.asset) same

-- an input with this key
abbrev spent : List ℕ → ℕ → List ℕ × (Unit {0} × (ℕ × List ℕ)) → Input
spent id index w = record { txid = id; index = index; asset = w.0; amount = w.1.1.0; indices = w.1.1.1 }

spend-asset : (s : List ℕ) (at : ℕ) (w : List ℕ × (Unit {0} × (ℕ × List ℕ))) (m : ℕ) → read spend s at ≡ took w m → whole_at 32 s at ≡ w.0
unfolding spend and_then
spend-asset s at w m h =
    let (x, i, ex, e₁) = parse-inv (blob 32) s at _ w m h in
    let (y, j, ey, e₂) = parse-inv (and_then (constant 4 5 unknown_type) (λ type. and_then amount (λ n. indices))) s i (λ y n. took (x, y) n) w m e₁ in
    let same : (x, y) ≡ w = cc in
    W.whole_part 32 s at x i ex ∙ ap (λ (u : List ℕ × (Unit {0} × (ℕ × List ℕ))). u.0) same

-- ---- the fields at the row of an entry are the entry

pub record Standing (s : List ℕ) (e : EntryAt) : Type 0 where
  pub typed : typed_at (entry_kind e.fields) s e.start ≡ Some e.fields
  pub asset : asset_at (entry_kind e.fields) s e.start ≡ e.asset
  pub txid : txid_at (entry_kind e.fields) s e.start ≡ e.txid

module _ (s : List ℕ) (b : Slice s) where
  abbrev All : List EntryAt → Type 0
  All = Each (Standing s)

  guarded-inv : {A : Type 0} (F : Format A) (ok : A → Bool) (x : ReadingRule) (at : ℕ) (v : A) (m : ℕ) → read (guard F ok x) s at ≡ took v m
      → read F s at ≡ took v m
  unfolding guard
  guarded-inv F ok x at v m h =
      let (a, k, ea, e₁) = parse-inv F s at _ v m h in
      let (_, e₂) = pick_inv (ok a) (by x at) (took a k) v m e₁ in
      ea ∙ e₂

  -- ---- outputs

  output-stands : (at : ℕ) (v : TransferableOutput) (m : ℕ) → read transferable_output s at ≡ took v m
      → (output_after s at ≡ Some (output_fields (at + 32) m v.output))
      × (whole_at 32 s at ≡ v.asset)
  unfolding transferable_output named and_then
  output-stands at v m h =
      let (x, i, ex, e₁) = parse-inv (blob 32) s at _ v m h in
      let (o, k, eo, e₂) = parse-inv (output (secp_transfer ∷ [])) s i (λ out n. took record { asset = x; output = out } n) v m e₁ in
      let after : i ≡ at + 32 =
      written_next (blob 32) s at x i b ex ∙ ap (λ (j : ℕ). at + j) (W.blob-wide 32 x ((blob 32).sound s at x i (slice-bytes s b) ex).0) in (
        moved
            (λ w j. output_after s at ≡ Some (output_fields (at + 32) j w.output)) e₂
            (W.parse-took (blob 32) s at (λ e. None) _ x i ex ∙ output-found s b (secp_transfer ∷ []) i o k eo
            ∙ ap (λ (j : ℕ). Some (output_fields j k o)) after),
        moved (λ w j. whole_at 32 s at ≡ w.asset) e₂ (W.whole_part 32 s at x i ex),
      )

  outputs-stand : (prev : List ℕ) (at : ℕ) (v : TransferableOutput) (m : ℕ) → read (not_below transferable_output prev) s at ≡ took v m
      → All (output_entry at m v)
  outputs-stand prev at v m h =
      let (f, a) = output-stands at v m
      (guarded-inv transferable_output (λ a. not (below (transferable_output.write a) prev)) out_of_order at v m h) in
      (record { typed = ap (option_map E.Output) f; asset = a; txid = refl }, tt)

  exported-stand : (prev : List ℕ) (at : ℕ) (v : TransferableOutput) (m : ℕ) → read (not_below transferable_output prev) s at ≡ took v m
      → All (exported_entry at m v)
  exported-stand prev at v m h =
      let r = guarded-inv transferable_output (λ a. not (below (transferable_output.write a) prev)) out_of_order at v m h in
      let (f, a) = output-stands at v m r in
      (record { typed = ap (option_map E.ExportedOutput) f; asset = a; txid = refl }, tt)

  -- ---- inputs

  input-stands : (prev : List ℕ) (at : ℕ) (v : Input) (m : ℕ) → read (input prev) s at ≡ took v m
      → (input_found s at ≡ Some (input_fields m v)) × (after_key s at ≡ v.asset) × (whole_at 32 s at ≡ v.txid)
  unfolding input_after named and_then guard key
  input-stands prev at v m h =
      let (id, i, ei, e₁) = parse-inv (blob 32) s at _ v m h in
      let (index, k, ek, e₂) = parse-inv (integer 4) s i _ v m e₁ in
      let (_, e₃) = pick_inv (below (take key_width prev) (key.write (id, index))) (by out_of_order at) _ v m e₂ in
      let (w, j, ew, e₄) = parse-inv spend s k (λ w n. took (spent id index w) n) v m e₃ in (
        moved (λ x n. input_found s at ≡ Some (input_fields n x)) e₄ (input-found s b at id i index k w j ei ek ew),
        moved (λ x n. after_key s at ≡ x.asset) e₄
            (W.parse-took (blob 32) s at (λ e. no_id) _ id i ei ∙ W.parse-took (integer 4) s i (λ e. no_id) _ index k ek ∙ spend-asset s k w j ew),
        moved (λ x n. whole_at 32 s at ≡ x.txid) e₄ (W.whole_part 32 s at id i ei),
      )

  inputs-stand : (prev : List ℕ) (at : ℕ) (v : Input) (m : ℕ) → read (input prev) s at ≡ took v m → All (input_entry at m v)
  inputs-stand prev at v m h =
      let (f, a, t) = input-stands prev at v m h in
      (record { typed = ap (option_map E.Input) f; asset = a; txid = t }, tt)

  imported-stand : (prev : List ℕ) (at : ℕ) (v : Input) (m : ℕ) → read (input prev) s at ≡ took v m → All (imported_entry at m v)
  imported-stand prev at v m h =
      let (f, a, t) = input-stands prev at v m h in
      (record { typed = ap (option_map E.ImportedInput) f; asset = a; txid = t }, tt)

  -- ---- operations

  operations-stand : (prev : List ℕ) (at : ℕ) (v : Operation) (m : ℕ) → read operation s at ≡ took v m → All (operation_entry at m v)
  operations-stand prev at v m h = (
    record {
      typed = ap (option_map E.Operation)
          (operation-found s b at v m h);
      asset = operation-asset s at v m h;
      txid = refl;
    },
    tt,
  )

  -- ---- outputs of initial states

  state-outputs-stand : (k : Fx) (prev : List ℕ) (at : ℕ) (v : Output) (m : ℕ) → read (not_below (output (fx_outputs k)) prev) s at ≡ took v m
      → All (state_output_entry at m v)
  state-outputs-stand k prev at v m h =
      let r = guarded-inv (output (fx_outputs k)) (λ a. not (below ((output (fx_outputs k)).write a) prev)) out_of_order at v m h in
      (record { typed = ap (option_map E.InitialStateOutput) (output-found s b (fx_outputs k) at v m r); asset = refl; txid = refl }, tt)

  states-stand : (prev : List ℕ) (at : ℕ) (v : InitialState) (m : ℕ) → read (initial_state prev) s at ≡ took v m → All (state_entries at m v)
  states-stand prev at v m h =
      let f = state-of s b prev at v m h in
      let E = not_below (output (fx_outputs v.fx)) in
      subst (λ (j : ℕ). All (entries_from E state_output_entry [] j v.outputs)) f.place
      (rest-each (Standing s) s b E state_output_entry (λ n es. es ≡ []) (state-outputs-stand v.fx) (λ n es e. subst All (sym e) tt) f.count f.first _
      record {
        prev = [];
        values = v.outputs;
        next = m;
        later = [];
        stands = f.stands;
        after = refl;
        entries = sym (append-nil (entries_from E state_output_entry [] f.first v.outputs));
      })

  -- ---- all entries

  elements-stand : (l : ListName) (prev : List ℕ) (at : ℕ) (v : (elements_of l).Element) (m : ℕ) → read ((elements_of l).element prev) s at ≡ took v m
      → All ((elements_of l).entries at m v)
  elements-stand L.Output = outputs-stand
  elements-stand L.Input = inputs-stand
  elements-stand L.State = states-stand
  elements-stand L.Operation = operations-stand
  elements-stand L.Imported = imported-stand
  elements-stand L.Exported = exported-stand

  credential-stands : (w : Want) (ws : List Want) (at m : ℕ) → Leading s b w ws at m → Standing s (credential_entry w at)
  credential-stands w ws at m f =
      record {
        typed =
            ap (option_map E.Credential)
            (W.parse-took (integer 4) s at (λ e. None) _ (credential_code w.type) (at + 4) f.type
            ∙ W.parse-took (integer 4) s (at + 4) (λ e. None) _ w.signatures (at + 8) f.count);
        asset = refl;
        txid = refl;
      }

  pub entries-stand : (most kind : ℕ) (es : List EntryAt) → Ahead s most kind start es → All es
  entries-stand most kind es h = plan-each (Standing s) s b elements-stand credential-stands most (plan_of kind) 42 es h
