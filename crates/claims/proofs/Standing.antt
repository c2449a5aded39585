-- In an accepted transaction each entry lies inside the bytes, and its element's bytes are there. Assumes nothing.
use Rattle.std.specs.Prelude.{Some}
use Prim.Native.Nat.{ℕ, zero, suc, ◌+◌, ◌-◌, ◌*◌, ◌≤◌}
use mathlib.Core.Path.{◌≡◌, refl, sym, ap, ◌∙◌, subst}
use mathlib.Core.Bool.{Bool, true, false}
use mathlib.Core.List.{List, [], ◌∷◌, ◌++◌, append_assoc, append-nil}
use native.Mathlib.Nat.{zero-add}
use native.Mathlib.Omega.{arith}
use lib.ListN.{length, drop, length-append}
use lib.Seq.{drop-drop, drop-append_seam, take_at}
use lib.Dec.{eqb}
use Rattle.wire.specs.Bytes.{pick, between}
use Rattle.wire.specs.laws.Bytes.{length_digits}
use Rattle.wire.specs.Format.{Format}
use Rattle.wire.specs.Fields.{integer}
use Rattle.wire.specs.laws.Sizes.{length-integer}
use Rattle.wire.specs.Sequence.{guard, tag, items}
use Rattle.wire.specs.Series.{left, not_below}
use Rattle.wire.specs.Parsers.{list_write}
use Rattle.wire.specs.Orders.{All}
use Rattle.element.specs.Outputs.{output, TransferableOutput, transferable_output}
use Rattle.element.specs.Inputs.{Input, input}
use Rattle.element.specs.Operations.{operation, InitialState, fx_code, fx_outputs, fx_id, state_outputs, initial_state_after, initial_state}
use Rattle.element.specs.PlainBytes.{u32, joined, transferable_output_bytes, input_bytes}
use Rattle.element.proofs.Writing.{output-bytes, transferable_output-bytes, input-bytes, operation-bytes}
use Rattle.transaction.specs.Slots.{signature_width}
use Rattle.transaction.specs.Credentials.{credential_code, Want, Piece, signatures, each, layout, pieces, credentials}
use Rattle.transaction.specs.Entries.{EntryAt, nth, state_output_entry, state_entries, entries_from, credential_entries}
use Rattle.transaction.specs.Plan.{content_of, elements_of, Plan, shut, end, field, many, plan}
use Rattle.transaction.specs.Form.{at_least, list_of, Value, form, plan_entries}
use Rattle.transaction.specs.Avm.{avm}
use Rattle.transaction.specs.Signed as AnySigned
use Rattle.transaction.specs.Family.{Signed, unsigned, head, wants, entries}
use Rattle.transaction.specs.Answer.{memo_most}
use Rattle.transaction.specs.Codec.{Writing}
use Rattle.transaction.specs.declared.ListName.{ListName}
use Rattle.transaction.specs.declared.ListName.TheVariants as L
use Rattle.entry_table.proofs.Inside.{Inside}
use Rattle.entry_walk.proofs.Each.{Each, each_append}
use Rattle.claims.specs.Answers.{StandsAs, an_output, an_input, an_operation, an_imported_input, an_exported_output, a_state_output, a_credential}

-- ---- one of the entries

pub each-nth : (P : EntryAt → Type 0) (es : List EntryAt) → Each P es → (n : ℕ) (e : EntryAt) → nth es n ≡ Some e → P e
unfolding nth
each-nth P [] h n e q = let z : ◌≡◌ {A = ℕ} 0 1 = cc in absurd (omega arith)
each-nth P (x ∷ es) (h, hs) n e q = go (eqb n 0) q (each-nth P es hs (n - 1) e)
  where
    go : (b : Bool) → pick b (Some x) (nth es (n - 1)) ≡ Some e → (nth es (n - 1) ≡ Some e → P e) → P e
    go true q later = let z : x ≡ e = cc in subst P z h
    go false q later = later q

pub inside-each : (hi : ℕ) (es : List EntryAt) → Inside hi es → Each (λ e. (e.start ≤ e.end) × (e.end ≤ hi)) es
inside-each hi [] h = tt
inside-each hi (e ∷ es) (a, b, h) = ((a, b), inside-each hi es h)

-- ---- bytes that are in s at an offset, and ranges of them

abbrev Here : List ℕ → ℕ → List ℕ → Type 0
Here s at w = (r : List ℕ) × (drop at s ≡ w ++ r)

module _ (s : List ℕ) (at : ℕ) where
  here-first : (a b : List ℕ) → Here s at (a ++ b) → Here s at a
  here-first a b (r, h) = (b ++ r, h ∙ append_assoc a b r)

  here-second : (a b : List ℕ) → Here s at (a ++ b) → Here s (at + length a) b
  here-second a b (r, h) =
      (r, sym (drop-drop (length a) at s) ∙ ap (drop (length a)) (h ∙ append_assoc a b r) ∙ drop-append_seam a (b ++ r))

  here-part : (w : List ℕ) → Here s at w → between at (at + length w) s ≡ w
  here-part w (r, h) = rw h (take_at w r (at + length w - at) (omega arith))

-- ---- lists, plans and credentials

module _ (s : List ℕ) where
  abbrev Stand : List EntryAt → Type 0
  Stand = Each (StandsAs s)

  module _ {A : Type 0} (E : List ℕ → Format A) (entry : ℕ → ℕ → A → List EntryAt)
      (one : (prev : List ℕ) (at : ℕ) (a : A) → Here s at ((E prev).write a) → Stand (entry at (at + length ((E prev).write a)) a)) where
    list-stands : (prev : List ℕ) (at : ℕ) (l : List A) → Here s at (list_write E (left E) prev l) → Stand (entries_from E entry prev at l)
    unfolding entries_from list_write
    list-stands prev at [] h = tt
    list-stands prev at (a ∷ l) h =
        let w : List ℕ = (E prev).write a in
        let more : List ℕ = list_write E (left E) w l in
        each_append (StandsAs s) (entry at (at + length w) a) (entries_from E entry w (at + length w) l)
        (one prev at a (here-first s at w more h))
        (list-stands w (at + length w) l (here-second s at w more h))

    counted-stands : (least at : ℕ) (l : List A) → Here s at ((at_least least E).write l) → Stand (entries_from E entry [] (at + 4) l)
    unfolding at_least items
    counted-stands least at l h =
        let n : List ℕ = (integer 4).write (length l) in
        let w : List ℕ = list_write E (left E) [] l in
        list-stands [] (at + 4) l (subst (λ (k : ℕ). Here s (at + k) w) (length-integer 4 (length l)) (here-second s at n w h))

  state-stands : (prev : List ℕ) (at : ℕ) (v : InitialState) → Here s at ((initial_state prev).write v)
      → Stand (state_entries at (at + length ((initial_state prev).write v)) v)
  unfolding initial_state_after guard fx_id tag state_outputs items
  state-stands prev at v h =
      let E = not_below (output (fx_outputs v.fx)) in
      let f : List ℕ = (integer 4).write (fx_code v.fx) in
      let n : List ℕ = (integer 4).write (length v.outputs) in
      let w : List ℕ = list_write E (left E) [] v.outputs in
      let past-count : Here s (at + length f + length n) w = here-second s (at + length f) n w (here-second s at f (n ++ w) h) in
      let place : at + length f + length n ≡ at + 8 = omega (arith, length-integer 4 (fx_code v.fx), length-integer 4 (length v.outputs)) in
      list-stands E state_output_entry
      (λ prev at o k. (a_state_output o refl (here-part s at ((output (fx_outputs v.fx)).write o) k ∙ output-bytes (fx_outputs v.fx) o), tt))
      [] (at + 8) v.outputs (subst (λ (k : ℕ). Here s k w) place past-count)

  transferable-part : (at : ℕ) (o : TransferableOutput) → Here s at (transferable_output.write o)
      → between at (at + length (transferable_output.write o)) s ≡ transferable_output_bytes o
  transferable-part at o h = here-part s at (transferable_output.write o) h ∙ transferable_output-bytes o

  input-part : (prev : List ℕ) (at : ℕ) (i : Input) → Here s at ((input prev).write i) → between at (at + length ((input prev).write i)) s ≡ input_bytes i
  input-part prev at i h = here-part s at ((input prev).write i) h ∙ input-bytes prev i

  -- the bytes of a list's element are at its entry
  element-stands : (l : ListName) (prev : List ℕ) (at : ℕ) (a : (elements_of l).Element) → Here s at (((elements_of l).element prev).write a)
      → Stand ((elements_of l).entries at (at + length (((elements_of l).element prev).write a)) a)
  unfolding guard
  element-stands L.Output prev at o h = (an_output o refl (transferable-part at o h), tt)
  element-stands L.Input prev at i h = (an_input i refl (input-part prev at i h), tt)
  element-stands L.State prev at v h = state-stands prev at v h
  element-stands L.Operation prev at o h = (an_operation o refl (here-part s at (operation.write o) h ∙ operation-bytes o), tt)
  element-stands L.Imported prev at i h = (an_imported_input i refl (input-part prev at i h), tt)
  element-stands L.Exported prev at o h = (an_exported_output o refl (transferable-part at o h), tt)

  plan-stands : (most : ℕ) (p : Plan) (v : Value p) (at : ℕ) → Here s at ((form most p).write v) → Stand (plan_entries most p v at)
  unfolding form plan_entries
  plan-stands most shut v at h = tt
  plan-stands most end v at h = tt
  plan-stands most (field f q) (x, v) at h =
      let w : List ℕ = (content_of most f).write x in
      plan-stands most q v (at + length w) (here-second s at w ((form most q).write v) h)
  plan-stands most (many l least q) (x, v) at h =
      let w : List ℕ = (list_of l least).write x in
      each_append (StandsAs s) (entries_from (elements_of l).element (elements_of l).entries [] (at + 4) x) (plan_entries most q v (at + length w))
      (counted-stands (elements_of l).element (elements_of l).entries (element-stands l) least at x (here-first s at w ((form most q).write v) h))
      (plan-stands most q v (at + length w) (here-second s at w ((form most q).write v) h))

  -- ---- credentials

  -- n signatures and the pieces after them, with the bytes of both
  record Signatures (n : ℕ) (ps : List Piece) (l : List (List ℕ)) : Type 0 where
    these : List (List ℕ)
    others : List (List ℕ)
    count : length these ≡ n
    wide : All (λ signature. length signature ≡ signature_width) these
    good : (pieces ps).Good others
    bytes : (pieces (signatures n ps)).write l ≡ joined (λ signature. signature) these ++ (pieces ps).write others

  split : (n : ℕ) (ps : List Piece) (l : List (List ℕ)) → (pieces (signatures n ps)).Good l → Signatures n ps l
  unfolding pieces signatures joined
  split zero ps l g = record { these = []; others = l; count = refl; wide = tt; good = g; bytes = refl }
  split (suc n) ps [] g = absurd g
  split (suc n) ps (b ∷ l) g =
      let h = split n ps l g.1 in
      record {
        these = b ∷ h.these;
        others = h.others;
        count = ap suc h.count;
        wide = (g.0.0, h.wide);
        good = h.good;
        bytes = ap (λ (x : List ℕ). b ++ x) h.bytes ∙ sym (append_assoc b (joined (λ signature. signature) h.these) ((pieces ps).write h.others));
      }

  length-signatures : (l : List (List ℕ)) → All (λ signature. length signature ≡ signature_width) l
      → length (joined (λ signature. signature) l) ≡ length l * signature_width
  unfolding joined signature_width
  length-signatures [] h = refl
  length-signatures (b ∷ l) h = omega (arith, length-append b (joined (λ signature. signature) l), h.0, length-signatures l h.1)

  credentials-stand : (ws : List Want) (at : ℕ) (l : List (List ℕ)) → (pieces (each ws)).Good l → Here s at ((pieces (each ws)).write l)
      → Stand (credential_entries ws at)
  unfolding each pieces credential_entries integer
  credentials-stand [] at l g h = tt
  credentials-stand (w ∷ ws) at l g h =
      let n : ℕ = w.signatures in
      let x = split n (each ws) l g.1.1 in
      let t : List ℕ = u32 (credential_code w.type) in
      let c : List ℕ = u32 n in
      let j : List ℕ = joined (λ signature. signature) x.these in
      let r : List ℕ = (pieces (each ws)).write x.others in
      let parted : t ++ (c ++ (pieces (signatures n (each ws))).write l) ≡ (t ++ (c ++ j)) ++ r =
      ap (λ (y : List ℕ). t ++ (c ++ y)) x.bytes ∙ ap (λ (y : List ℕ). t ++ y) (sym (append_assoc c j r)) ∙ sym (append_assoc t (c ++ j) r) in
      let here : Here s at ((t ++ (c ++ j)) ++ r) = subst (Here s at) parted h in
      let long : length (t ++ (c ++ j)) ≡ 8 + n * signature_width =
      omega (
        arith,
        length-append t (c ++ j),
        length-append c j,
        length_digits 4 (credential_code w.type),
        length_digits 4 n,
        length-signatures x.these x.wide ∙ ap (λ (k : ℕ). k * signature_width) x.count,
      ) in (
        a_credential w x.these refl x.count x.wide
            (subst (λ (k : ℕ). between at (at + k) s ≡ t ++ (u32 (length x.these) ++ j)) long
            (here-part s at (t ++ (c ++ j)) (here-first s at (t ++ (c ++ j)) r here) ∙ ap (λ (k : ℕ). t ++ (u32 k ++ j)) (sym x.count))),
        credentials-stand ws (at + (8 + n * signature_width)) x.others x.good
            (subst (λ (k : ℕ). Here s (at + k) r) long (here-second s at (t ++ (c ++ j)) r here)),
      )

-- ---- all entries

pub entries-stand-as : (s : List ℕ) (v : Signed (avm memo_most)) → Writing (avm memo_most) s v → Each (StandsAs s) (entries (avm memo_most) v)
unfolding entries AnySigned.signed unsigned credentials layout pieces
entries-stand-as s (u, l) w =
    let h : List ℕ = (head (avm memo_most)).write u.0 in
    let f : List ℕ = (form memo_most (plan u.0.type)).write u.1 in
    let ws : List Want = wants (avm memo_most) u in
    let n : List ℕ = (integer 4).write (length ws) in
    let c : List ℕ = (pieces (each ws)).write l in
    let whole : Here s 0 ((h ++ f) ++ (n ++ c)) = ([], sym w.written ∙ sym (append-nil ((h ++ f) ++ (n ++ c)))) in
    let own : Here s (length h) f = subst (λ (k : ℕ). Here s k f) (zero-add (length h)) (here-second s 0 h f (here-first s 0 (h ++ f) (n ++ c) whole)) in
    let past-count : Here s (0 + length (h ++ f) + length n) c = here-second s (0 + length (h ++ f)) n c (here-second s 0 (h ++ f) (n ++ c) whole) in
    let place : 0 + length (h ++ f) + length n ≡ length (h ++ f) + 4 = omega (arith, length-integer 4 (length ws)) in
    each_append (StandsAs s) (plan_entries memo_most (plan u.0.type) u.1 (length h)) (credential_entries ws (length (h ++ f) + 4))
    (plan-stands s memo_most (plan u.0.type) u.1 (length h) own)
    (credentials-stand s ws (length (h ++ f) + 4) l w.good.1.1 (subst (λ (k : ℕ). Here s k c) place past-count))
