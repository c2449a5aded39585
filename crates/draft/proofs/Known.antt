-- What holds of bytes after the check has answered. Assumes nothing.
use Rattle.std.specs.Prelude.{Ok, Err, Result}
use mathlib.Core.Path.{◌≡◌, refl, sym, ap, ap₂, ◌∙◌}
use mathlib.Core.Bool.{true, false}
use mathlib.Core.List.{List}
use Prim.Native.Nat.{ℕ, ◌+◌, ◌-◌, ◌^◌, ◌≤◌, ◌<◌}
use native.Mathlib.Omega.{arith}
use lib.ListN.{length, take}
use Rattle.wire.specs.Bytes.{between}
use Rattle.wire.specs.Format.{Format, Parsed, on_result}
use Rattle.wire.specs.declared.Refusal.{Refusal}
use Rattle.wire.proofs.Bytes.{Slice, slice-bytes, found}
use Rattle.transaction.specs.Slots.{Spaced}
use Rattle.transaction.specs.Credentials.{Want}
use Rattle.transaction.specs.Signed.{taken, end_of, Parts}
use Rattle.transaction.specs.Family.{Unsigned, unsigned, wants}
use Rattle.transaction.specs.Avm.{avm}
use Rattle.transaction.specs.Answer.{layout, checked}
use Rattle.transaction.specs.declared.Layout.{Layout}
use Rattle.transaction.proofs.Signed.{parts-took, check-of, read-body, slots-eq, length-eq, spaced-slots, same-unsigned}
use Rattle.transaction.proofs.Verdicts.{refused-check, checked-accepted, layout-credentials}
use Rattle.draft_slots.specs.code.Scan.{scan_from}
use Rattle.draft.specs.Reader.{Reader, reader, body}
use Rattle.draft.proofs.Scanned.{count_fits, scanned}

-- with memos of at most `most` bytes
module _ (most : ℕ) where
  abbrev pub avm_reader : Reader
  avm_reader = reader (avm most)

  abbrev U : Format (Unsigned (avm most))
  U = unsigned (avm most)

  abbrev W : Unsigned (avm most) → List Want
  W = wants (avm most)

  -- s is accepted, with layout w and length n
  pub record Known (s : List ℕ) (w : Layout) (n : ℕ) : Type 0 where
    pub value : Unsigned (avm most)
    pub signatures : List (List ℕ)
    pub parts : Parts U W s value signatures
    pub accepts : avm_reader.accepts s ≡ true
    pub end : w.credentials_at ≡ length (U.write value)
    pub place : w.credentials_at ≡ avm_reader.credentials_at s
    pub long : n ≡ length s
    pub count : w.credentials_count ≡ length (W value)
    pub start : w.credentials_at + 4 ≤ length s
    pub slots : scan_from w.credentials_count s (w.credentials_at + 4) ≡ avm_reader.slots s
    pub spaced : Spaced 0 (avm_reader.slots s) (length s)

  layout-count : (u : Unsigned (avm most)) → (layout most u).credentials_count ≡ length (W u)
  unfolding wants
  layout-count u = refl

  pub known : (s : List ℕ) → Slice s → (x : Result (Layout × ℕ) Refusal) (w : Layout) (n : ℕ) → x ≡ checked most s → x ≡ Ok (w, n) → Known s w n
  known s b x w n p q =
      let (v, e, l) = checked-accepted most s w n (found q p) in
      let r = parts-took U W s v n (slice-bytes s b) e in
      let f = check-of U W s v.0 v.1 r in
      let at : w.credentials_at ≡ length (U.write v.0) = ap (λ (z : Layout). z.credentials_at) l ∙ layout-credentials most v.0 in
      let count : w.credentials_count ≡ length (W v.0) = ap (λ (z : Layout). z.credentials_count) l ∙ layout-count v.0 in
      record {
        value = v.0;
        signatures = v.1;
        parts = r;
        accepts = ap taken e;
        end = at;
        place = at ∙ sym (ap end_of (read-body U W s v.0 v.1 r));
        long = cc;
        count = count;
        start = omega (arith, at, count_fits U W s v.0 v.1 r);
        slots = ap₂ (λ (n q : ℕ). scan_from n s (q + 4)) count at ∙ scanned U W s v.0 v.1 r ∙ sym (slots-eq U W s v.0 v.1 r);
        spaced = spaced-slots U W s v.0 v.1 r;
      }

  -- the first credential, just past the credential count, starts inside the bytes
  pub start_fits : (s : List ℕ) → Slice s → (x : Result (Layout × ℕ) Refusal) (w : Layout) (n : ℕ) → x ≡ checked most s → x ≡ Ok (w, n)
      → w.credentials_at + 4 < 2 ^ 64
  start_fits s b x w n p q = let d = known s b x w n p q in omega (arith, d.start, d.parts.short)

  pub not-accepted : (s : List ℕ) (x : Result (Layout × ℕ) Refusal) (e : Refusal) → x ≡ checked most s → x ≡ Err e → avm_reader.accepts s ≡ false
  not-accepted s x e p q = ap taken (refused-check most s e (found q p))

  -- the bytes before the credential count are the unsigned transaction
  pub known-body : (s : List ℕ) (w : Layout) (n : ℕ) → Known s w n → between 0 w.credentials_at s ≡ body avm_reader s
  unfolding body
  known-body s w n k = let q : w.credentials_at - 0 ≡ avm_reader.credentials_at s = omega (arith, k.place) in ap (λ (i : ℕ). take i s) q

  -- two drafts of one unsigned transaction have the same slots, the same length, and as many credentials at the same offset
  pub alike : (d e : List ℕ) (v w : Layout) (m n : ℕ) → Known d v m → Known e w n → body avm_reader d ≡ body avm_reader e
      → (avm_reader.slots e ≡ avm_reader.slots d) × (length e ≡ length d) × (v.credentials_at ≡ w.credentials_at)
      × (v.credentials_count ≡ w.credentials_count)
  unfolding body
  alike d e v w m n h k q =
      let p : Parts U W e h.value k.signatures =
      same-unsigned U W d e h.value k.value h.signatures k.signatures h.parts k.parts q in
      let one = sym (read-body U W e h.value k.signatures p) ∙ read-body U W e k.value k.signatures k.parts in
      let r : length (U.write h.value) ≡ length (U.write k.value) = ap end_of one in
      let c : length (W h.value) ≡ length (W k.value) =
      ap (λ (o : Parsed (Unsigned (avm most))). on_result o (λ e. 0) (λ u n. length (W u))) one in (
        slots-eq U W e h.value k.signatures p ∙ sym (slots-eq U W d h.value h.signatures h.parts),
        length-eq U W e h.value k.signatures p ∙ sym (length-eq U W d h.value h.signatures h.parts),
        h.end ∙ r ∙ sym k.end,
        h.count ∙ c ∙ sym k.count,
      )
