-- The fields of owners, outputs, inputs and operations that were read are found again by their offsets. Assumes nothing.
use Rattle.std.specs.Prelude.{Some, None, Option}
use Rattle.element.specs.declared.Recipients.{Recipients}
use Rattle.element.specs.declared.InputFields.{InputFields}
use Rattle.element.specs.declared.TermsFields.{TermsFields}
use Prim.Native.Nat.{ℕ, ◌+◌, ◌-◌, ◌*◌, ◌≤◌}
use mathlib.Core.Path.{◌≡◌, sym, ap, ap₂, ◌∙◌, subst}
use mathlib.Core.List.{List, [], ◌∷◌}
use native.Mathlib.Omega.{arith}
use lib.ListN.{length, take, drop, length-append, length-drop}
use lib.Dec.{eqb, ltb, leb}
use Rattle.wire.specs.Numbers.{by, bad_threshold, zero_amount, bad_length, unknown_type}
use Rattle.wire.specs.declared.Refusal.{Refusal}
use Rattle.wire.specs.Format.{Format, took, refused, read, Stands}
use Rattle.wire.specs.laws.Format.{moved, parse-inv, pick_inv}
use Rattle.wire.specs.Fields.{integer, blob, constant}
use Rattle.wire.specs.Sequence.{guard, and_then, named, tag}
use Rattle.wire.specs.laws.Sequence.{find-is, listed-code}
use Rattle.wire.specs.Parsers.{listed}
use Rattle.wire.specs.Series.{left, increasing, unordered, count_prefixed}
use Rattle.wire.specs.laws.Sizes.{items-sized, length-integer, blob-sized}
use Rattle.wire.proofs.Bytes.{Slice, slice-bytes}
use Rattle.wire.proofs.Reading as L
use Rattle.string.specs.Strings.{string}
use Rattle.owners.specs.Owners.{Owners, address_width, threshold_fits, owners, owners_fields}
use Rattle.element.specs.Outputs.{amount, OutputType, secp_mint, secp_transfer, nft_mint, nft_transfer, output_code, output_type, output_type-code}
use Rattle.element.specs.Outputs.{OutputBody, transfer_body, output_body, Output, output, output_fields}
use Rattle.element.specs.Inputs.{key, key_width, indices, spend, input_fields}
use Rattle.element.specs.Operations.{OperationType, mint_nft, transfer_nft, operation_code, operation_type, operation_type-code, OperationOwners}
use Rattle.element.specs.Operations.{operation_owners, terms, terms_fields, recipients, action, Operation, operation, operation_fields}
use Rattle.element.specs.code.Answer.{Terms, Action}
use Rattle.owners.specs.declared.OwnersFields.{OwnersFields}
use Rattle.element.specs.declared.OutputFields.{OutputFields}
use Rattle.element.specs.declared.OutputFields.TheVariants as F
use Rattle.element.specs.declared.Recipients.TheVariants as Q
use Rattle.element.specs.declared.OperationFields.{OperationFields}
use Rattle.element.proofs.Reading.{key-wide}
use Rattle.transaction.proofs.Reading.{written_next}
use Rattle.entry_fields.specs.code.Found.{on_terms, on_recipients, operation_of, action_found}
use Rattle.entry_fields.specs.code.Found.{operation_found, owners_found, output_of, body_found, output_found}
use Rattle.entry_fields.specs.code.Found.{input_found, terms_found, transfer_to, recipients_found}

-- the fields of what follows the pairs, from `at` up to `end`
abbrev action_fields : ℕ → ℕ → ℕ → ℕ → Action → OperationFields
action_fields place count at end (k, (v, o)) =
    let next = at + 4 + length (terms.write v) in
    operation_of place count (terms_fields (at + 4) next v) (recipients (next + 4) end (k, o))

operation-placed : (at f c t end : ℕ) (asset : List ℕ) (l : List (List ℕ × ℕ)) (w : Action) → f ≡ at + 36 → c ≡ length l → t ≡ f + key_width * length l
    → action_fields f c t end w ≡ operation_fields at end record { asset = asset; outputs = l; terms = w.1.0; owners = (w.0, w.1.1) }
operation-placed at f c t end asset l w e h i =
    ap (λ (z : ℕ). action_fields z c t end w) e ∙ ap (λ (z : ℕ). action_fields (at + 36) z t end w) h
    ∙ ap (λ (z : ℕ). action_fields (at + 36) (length l) z end w) (i ∙ ap (λ (z : ℕ). z + key_width * length l) e)

action-placed : (place count at i o end : ℕ) (k : OperationType) (v : Terms) (w : OperationOwners k) → i ≡ at + 4 → o ≡ at + 4 + length (terms.write v)
    → operation_of place count (terms_fields i o v) (recipients (o + 4) end (k, w)) ≡ action_fields place count at end (k, (v, w))
action-placed place count at i o end k v w e f =
    ap (λ (z : ℕ). operation_of place count (terms_fields z o v) (recipients (o + 4) end (k, w))) e
    ∙ ap (λ (z : ℕ). operation_of place count (terms_fields (at + 4) z v) (recipients (z + 4) end (k, w))) f

module _ (s : List ℕ) (b : Slice s) where
  -- an integer of k bytes ends k bytes after its start
  pub integer-ends : (k at v n : ℕ) → read (integer k) s at ≡ took v n → n ≡ at + k
  integer-ends k at v n h = written_next (integer k) s at v n b h ∙ ap (λ j. at + j) (length-integer k v)

  -- ---- owners

  owners-found : (at : ℕ) (v : Owners) (m : ℕ) → read owners s at ≡ took v m → owners_found s at ≡ Some (owners_fields m v)
  unfolding owners named and_then guard
  owners-found at v m h =
      let (l, t, el, e₁) = parse-inv (integer 8) s at _ v m h in
      let (r, n, er, e₂) = parse-inv (integer 4) s t _ v m e₁ in
      let (c, f, ec, e₃) = parse-inv (integer 4) s n _ v m e₂ in
      let (_, e₄) = pick_inv (threshold_fits r c) (by bad_threshold t) _ v m e₃ in
      let (list, k, ek, e₅) = parse-inv (increasing (blob address_width) c) s f
      (λ list k. took record { locktime = l; threshold = r; addresses = list } k) v m e₄ in
      moved (λ x j. owners_found s at ≡ Some (owners_fields j x)) e₅
      (L.parse-took (integer 8) s at (λ e. None) _ l t el ∙ L.parse-took (integer 4) s t (λ e. None) _ r n er
      ∙ L.parse-took (integer 4) s n (λ e. None) _ c f ec ∙ made l r c f list k ek)
    where
      made : (l r c f : ℕ) (list : List (List ℕ)) (k : ℕ) → read (increasing (blob address_width) c) s f ≡ took list k
          → Some record { locktime = l; threshold = r; addresses_at = f; addresses_count = c } ≡ Some
          (owners_fields k record { locktime = l; threshold = r; addresses = list })
      made l r c f list k h =
          let (size, ends) = L.wide-took (blob address_width) address_width (L.blob-wide address_width) c s f list k b h in
          let place : f ≡ k - address_width * length list = omega arith in
          rw (place, size)

  -- ---- outputs

  -- an output whose last field is its owners: `make` adds them to the other fields
  output-made : (at : ℕ) (v : Owners) (m : ℕ) (make : OwnersFields → OutputFields) → read owners s at ≡ took v m
      → output_of (owners_found s at) make ≡ Some (make (owners_fields m v))
  output-made at v m make h = ap (λ (x : Option OwnersFields). output_of x make) (owners-found at v m h)

  body-found : (k : OutputType) (at i : ℕ) → i ≡ at + 4 → (v : OutputBody k) (m : ℕ) → read (output_body k) s i ≡ took v m
      → body_found (output_code k) s i ≡ Some (output_fields at m (k, v))
  unfolding transfer_body amount and_then guard string named
  body-found secp_mint at i p v m h = output-made i v m F.SecpMint h
  body-found secp_transfer at i p v m h =
      let (n, j, en, e₁) = parse-inv (integer 8) s i _ v m h in
      let (_, e₂) = pick_inv (ltb 0 n) (by zero_amount i) _ v m e₁ in
      let (o, k, eo, e₃) = parse-inv owners s j (λ o k. took (n, o) k) v m e₂ in
      moved (λ x q. body_found 7 s i ≡ Some (output_fields at q (secp_transfer, x))) e₃ (L.parse-took (integer 8) s i (λ e. None) _ n j en
      ∙ output-made j o k (F.SecpTransfer n) eo)
  body-found nft_mint at i p v m h =
      let (g, j, eg, e₁) = parse-inv (integer 4) s i _ v m h in
      let (o, k, eo, e₂) = parse-inv owners s j (λ o k. took (g, o) k) v m e₁ in
      moved (λ x q. body_found 10 s i ≡ Some (output_fields at q (nft_mint, x))) e₂ (L.parse-took (integer 4) s i (λ e. None) _ g j eg
      ∙ output-made j o k (F.NftMint g) eo)
  body-found nft_transfer at i p v m h =
      let (g, j, eg, e₁) = parse-inv (integer 4) s i _ v m h in
      let (c, f, ec, e₂) = parse-inv (integer 4) s j _ v m e₁ in
      let (_, e₃) = pick_inv (leb c 1024) (by bad_length j) _ v m e₂ in
      let (a, q, ea, e₄) = parse-inv (blob c) s f _ v m e₃ in
      let (o, k, eo, e₅) = parse-inv owners s q (λ o k. took (g, (a, o)) k) v m e₄ in
      let size : length a ≡ c = blob-sized c a ((blob c).sound s f a q (slice-bytes s b) ea).0 in
      let place : f ≡ at + 12 = omega (arith, integer-ends 4 i g j eg, integer-ends 4 j c f ec) in
      moved (λ x j. body_found 11 s i ≡ Some (output_fields at j (nft_transfer, x))) e₅
      (L.parse-took (integer 4) s i (λ e. None) _ g j eg ∙ L.parse-took (integer 4) s j (λ e. None) _ c f ec
      ∙ L.parse-took (blob c) s f (λ e. None) _ a q ea
      ∙ output-made q o k (F.NftTransfer g f c) eo ∙ ap₂ (λ (x y : ℕ). Some (F.NftTransfer g x y (owners_fields k o))) place (sym size))

  pub output-found : (types : List OutputType) (at : ℕ) (v : Output) (m : ℕ) → read (output types) s at ≡ took v m
      → output_found s at ≡ Some (output_fields at m v)
  unfolding output tag and_then
  output-found types at v m h =
      let (n, i, en, e₁) = parse-inv (integer 4) s at _ v m h in
      let (has, e₂) = pick_inv (listed output_code types n) (by unknown_type at) _ v m
      (sym (find-is output_code output_type output_type-code types n _ (refused (by unknown_type at))) ∙ e₁) in
      let (w, k, ew, e₃) = parse-inv (output_body (output_type n)) s i (λ w k. took (output_type n, w) k) v m e₂ in
      moved (λ x j. output_found s at ≡ Some (output_fields at j x)) e₃
      (L.parse-took (integer 4) s at (λ e. None) _ n i en
      ∙ ap (λ (t : ℕ). body_found t s i) (sym (listed-code output_code output_type output_type-code types n has))
      ∙ body-found (output_type n) at i (integer-ends 4 at n i en) w k ew)

  -- ---- inputs whose key was read

  pub input-found : (at : ℕ) (id : List ℕ) (i index k : ℕ) (w : List ℕ × (Unit {0} × (ℕ × List ℕ))) (m : ℕ) → read (blob 32) s at ≡ took id i
      → read (integer 4) s i ≡ took index k → read spend s k ≡ took w m
      → input_found s at ≡ Some (input_fields m record { txid = id; index = index; asset = w.0; amount = w.1.1.0; indices = w.1.1.1 })
  unfolding spend and_then constant amount guard indices count_prefixed
  input-found at id i index k w m ei ek h =
      let (x, t, ex, e₁) = parse-inv (blob 32) s k _ w m h in
      let (y, a, ey, e₂) = parse-inv (integer 4) s t _ w m e₁ in
      let (_, e₃) = pick_inv (eqb y 5) (by unknown_type t) _ w m e₂ in
      let (n, j, en, e₄) = parse-inv (integer 8) s a _ w m e₃ in
      let (_, e₅) = pick_inv (ltb 0 n) (by zero_amount a) _ w m e₄ in
      let (c, f, ec, e₆) = parse-inv (integer 4) s j _ w m e₅ in
      let (list, q, el, e₇) = parse-inv (increasing (integer 4) c) s f (λ list q. took (x, (tt, (n, list))) q) w m e₆ in
      moved (λ u e. input_found s at ≡ Some (input_fields e record { txid = id; index = index; asset = u.0; amount = u.1.1.0; indices = u.1.1.1 })) e₇
      (L.parse-took (blob 32) s at (λ e. None) _ id i ei ∙ L.parse-took (integer 4) s i (λ e. None) _ index k ek
      ∙ L.parse-took (blob 32) s k (λ e. None) _ x t ex
      ∙ L.parse-took (integer 4) s t (λ e. None) _ y a ey ∙ L.parse-took (integer 8) s a (λ e. None) _ n j en
      ∙ L.parse-took (integer 4) s j (λ e. None) _ c f ec
      ∙ made n c f list q el)
    where
      made : (n c f : ℕ) (list : List ℕ) (q : ℕ) → read (increasing (integer 4) c) s f ≡ took list q
          → ◌≡◌ {A = Option InputFields} (Some record { index = index; amount = n; indices_at = f; indices_count = c })
          (Some record { index = index; amount = n; indices_at = q - 4 * length list; indices_count = length list })
      made n c f list q h =
          let (size, ends) = L.wide-took (integer 4) 4 (λ v h. length-integer 4 v) c s f list q b h in
          let place : f ≡ q - 4 * length list = omega arith in
          rw (place, size)

  -- ---- operations

  -- c elements of one width, skipped as bytes: where they end
  span : {R : Type 0} {A : Type 0} (F : Format A) (k : ℕ) (wide : (a : A) → F.Good a → length (F.write a) ≡ k) (c at : ℕ) (l : List A) (n : ℕ)
      (stop : Refusal → R) (go : List ℕ → ℕ → R)
      → read (increasing F c) s at ≡ took l n → (d : R) → ((p : List ℕ) → go p n ≡ d) → (blob (k * c)).parse s at stop go ≡ d
  span F k wide c at l n stop go h d e =
      let (size, ends) = L.wide-took F k wide c s at l n b h in
      let st = ((increasing F c).sound s at l n (slice-bytes s b) h).1 in
      sym (L.blob-has (k * c) s at d stop go (room size ends st)
      (sym (subst (λ (j : ℕ). go (take (k * c) (drop at s)) j ≡ d) (place size ends) (e (take (k * c) (drop at s))))))
    where
      place : c ≡ length l → n ≡ at + k * length l → n ≡ at + k * c
      place size ends = ends ∙ ap (λ (j : ℕ). at + k * j) (sym size)

      room : c ≡ length l → n ≡ at + k * length l → Stands s at ((increasing F c).write l) n → k * c ≤ length s - at
      room size ends st =
          let w : List ℕ = (increasing F c).write l in
          let long : length w ≡ k * c = omega (arith, st.ends, place size ends) in
          omega (arith, length-drop at s, ap length st.there, length-append w (drop n s))

  terms-found : (at : ℕ) (v : Terms) (m : ℕ) → read terms s at ≡ took v m → terms_found s at ≡ Some (terms_fields at m v, m)
  unfolding terms and_then indices count_prefixed string named guard
  terms-found at v m h =
      let (c, f, ec, e₁) = parse-inv (integer 4) s at _ v m h in
      let (list, g, el, e₂) = parse-inv (increasing (integer 4) c) s f _ v m e₁ in
      let (group, p, eg, e₃) = parse-inv (integer 4) s g _ v m e₂ in
      let (d, q, ed, e₄) = parse-inv (integer 4) s p _ v m e₃ in
      let (_, e₅) = pick_inv (leb d 1024) (by bad_length p) _ v m e₄ in
      let (a, k, ea, e₆) = parse-inv (blob d) s q (λ a k. took (list, (group, a)) k) v m e₅ in
      moved (λ x j. terms_found s at ≡ Some (terms_fields at j x, j)) e₆
      (L.parse-took (integer 4) s at (λ e. None) _ c f ec
      ∙ span (integer 4) 4 (λ v h. length-integer 4 v) c f list g (λ e. None) _ el _ (λ x.
      L.parse-took (integer 4) s g (λ e. None) _ group p eg ∙ L.parse-took (integer 4) s p (λ e. None) _ d q ed
      ∙ L.parse-took (blob d) s q (λ e. None) _ a k ea)
      ∙ made c f list g group d q a k (integer-ends 4 at c f ec) el ea)
    where
      made : (c f : ℕ) (list : List ℕ) (g group d q : ℕ) (a : List ℕ) (k : ℕ) → f ≡ at + 4 → read (increasing (integer 4) c) s f ≡ took list g
          → read (blob d) s q ≡ took a k
          → ◌≡◌ {A = Option (TermsFields × ℕ)}
          (Some (record { indices_at = f; indices_count = c; group = group; payload_at = q; payload_length = d }, k))
          (Some (terms_fields at k (list, (group, a)), k))
      made c f list g group d q a k first el ea =
          let (size, ends) = L.wide-took (integer 4) 4 (λ v h. length-integer 4 v) c s f list g b el in
          let (good, st) = (blob d).sound s q a k (slice-bytes s b) ea in
          let long : length a ≡ d = blob-sized d a good in
          let place : q ≡ k - length a = omega (arith, st.ends, L.blob-wide d a good) in
          rw (first, size, ← long, place)

  recipients-found : (k : OperationType) (at : ℕ) (o : OperationOwners k) (m : ℕ) → read (operation_owners k) s at ≡ took o m
      → recipients_found (operation_code k) s at ≡ Some (recipients (at + 4) m (k, o))
  unfolding count_prefixed
  recipients-found mint_nft at o m h =
      let (c, f, ec, e₁) = parse-inv (integer 4) s at _ o m h in
      let size : length o ≡ c = items-sized (λ prev. owners) (left (λ prev. owners)) [] c o ((unordered owners c).sound s f o m (slice-bytes s b) e₁).0 in
      L.parse-took (integer 4) s at (λ e. None) _ c f ec ∙ ap₂ (λ (x y : ℕ). Some (Q.Mint x y)) (integer-ends 4 at c f ec) (sym size)
  recipients-found transfer_nft at o m h = ap transfer_to (owners-found at o m h)

  action-found : (place count at : ℕ) (v : Action) (m : ℕ) → read action s at ≡ took v m
      → action_found place count s at ≡ Some (action_fields place count at m v)
  unfolding action tag and_then
  action-found place count at v m h =
      let (n, i, en, e₁) = parse-inv (integer 4) s at _ v m h in
      let (has, e₂) = pick_inv (listed operation_code (mint_nft ∷ transfer_nft ∷ []) n) (by unknown_type at) _ v m
      (sym (find-is operation_code operation_type operation_type-code (mint_nft ∷ transfer_nft ∷ []) n
      (λ k. terms.parse s i refused (λ w o. (operation_owners k).parse s o refused (λ r j. took (k, (w, r)) j))) (refused (by unknown_type at))) ∙ e₁) in
      let (w, o, ew, e₃) = parse-inv terms s i _ v m e₂ in
      let (r, k, er, e₄) = parse-inv (operation_owners (operation_type n)) s o (λ r k. took (operation_type n, (w, r)) k) v m e₃ in
      let next : i ≡ at + 4 = integer-ends 4 at n i en in
      let end : o ≡ at + 4 + length (terms.write w) = written_next terms s i w o b ew ∙ ap (λ (j : ℕ). j + length (terms.write w)) next in
      moved (λ x j. action_found place count s at ≡ Some (action_fields place count at j x)) e₄
      (L.parse-took (integer 4) s at (λ e. None) _ n i en
      ∙ ap (λ (f : Option (TermsFields × ℕ)). on_terms f (λ t o. on_recipients (recipients_found n s o) (operation_of place count t))) (terms-found i w o ew)
      ∙ ap (λ (c : ℕ). on_recipients (recipients_found c s o) (operation_of place count (terms_fields i o w)))
      (sym (listed-code operation_code operation_type operation_type-code (mint_nft ∷ transfer_nft ∷ []) n has))
      ∙ ap (λ (f : Option Recipients). on_recipients f (operation_of place count (terms_fields i o w))) (recipients-found (operation_type n) o r k er)
      ∙ ap (λ (f : OperationFields). Some f) (action-placed place count at i o k (operation_type n) w r next end))

  pub operation-found : (at : ℕ) (v : Operation) (m : ℕ) → read operation s at ≡ took v m → operation_found s at ≡ Some (operation_fields at m v)
  unfolding operation named and_then count_prefixed
  operation-found at v m h =
      let (x, p, ex, e₁) = parse-inv (blob 32) s at _ v m h in
      let (c, f, ec, e₂) = parse-inv (integer 4) s p _ v m e₁ in
      let (l, t, el, e₃) = parse-inv (increasing key c) s f _ v m e₂ in
      let (w, k, ew, e₄) = parse-inv action s t (λ w k. took record { asset = x; outputs = l; terms = w.1.0; owners = (w.0, w.1.1) } k) v m e₃ in
      let (size, ends) = L.wide-took key key_width key-wide c s f l t b el in
      let first : f ≡ at + 36 = omega
      (arith, integer-ends 4 p c f ec, written_next (blob 32) s at x p b ex, L.blob-wide 32 x ((blob 32).sound s at x p (slice-bytes s b) ex).0) in
      moved (λ y j. operation_found s at ≡ Some (operation_fields at j y)) e₄
      (L.parse-took (blob 32) s at (λ e. None) _ x p ex ∙ L.parse-took (integer 4) s p (λ e. None) _ c f ec
      ∙ span key key_width key-wide c f l t (λ e. None) _ el _ (λ y. action-found f c t w k ew)
      ∙ ap (λ (o : OperationFields). Some o) (operation-placed at f c t k x l w first size ends))
