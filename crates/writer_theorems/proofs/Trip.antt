-- Writing the reading of a transaction and filling its signatures gives its bytes. Assumes nothing.
use Rattle.std.specs.Prelude.{Ok, Result}
use Rattle.wire.specs.declared.Refusal.{Refusal}
use Prim.Native.Nat.{ℕ, suc, ◌+◌, ◌≤◌}
use mathlib.Core.Path.{◌≡◌, refl, sym, ap, ◌∙◌, subst}
use mathlib.Core.List.{List, [], ◌++◌}
use native.Mathlib.Omega.{arith}
use native.Mathlib.Nat.{zero-add, add-zero}
use lib.ListN.{length, take, length-append}
use lib.Dec.{eqb}
use borrow.Author.Tests.{eq-eqb}
use Rattle.wire.specs.Bytes.{Bytes}
use Rattle.wire.specs.Format.{took}
use Rattle.wire.specs.Fields.{integer, blob, constant}
use Rattle.wire.specs.Sequence.{and_then, guard, named, tag}
use Rattle.transaction.specs.Slots.{slot_at, put_all}
use Rattle.transaction.specs.Credentials.{credentials}
use Rattle.transaction.specs.Signed as AnySigned
use Rattle.transaction.specs.Signed.{most_bytes}
use Rattle.transaction.specs.Plan.{Plan, shut, end}
use Rattle.transaction.specs.Form.{form}
use Rattle.transaction.specs.Family.{Family, Head, head, Signed, Unsigned, unsigned, wants, check}
use Rattle.transaction.proofs.CredentialLaws.{same_length}
use Rattle.transaction.proofs.Signed.{parts-took}
use Rattle.writer_rules.specs.Judged.{judged}
use Rattle.writer_rules.specs.Given.{head_bytes, given}
use Rattle.writer_rules.proofs.Verdicts.{judged-own}
use Rattle.writer_buffer.specs.Stores.{room_for, overwrite}
use Rattle.writer_buffer.proofs.Stores.{room-fine, length-overwrite}
use Rattle.writer_buffer.specs.Closing.{blank_of}
use Rattle.writer.specs.declared.Writer.{Writer}
use Rattle.writer.specs.Steps.{fresh, Turn, turn, answered, opening, opened, finish_at, plan_for, due_for, start, finish}
use Rattle.writer.proofs.Laws.{guarded-fine}
use Rattle.writer_theorems.specs.Runs.{run, AllDone, Ends, spelled}
use Rattle.writer_theorems.specs.Claims.{finish_after, StepsRoundTrip}
use Rattle.writer_theorems.proofs.Keeping.{Here, here-at, Begun, begin}
use Rattle.writer_theorems.proofs.Finishing.{blank_signed, finish-is, finished-parts}
use Rattle.writer_theorems.proofs.Filling.{fill-all}
use Rattle.writer_theorems.proofs.Spelling.{Does, does-run, opening-le, plan-reached}

module _ (F : Family) (ends : (k : F.TransactionType) → Ends (F.plan k)) where
  head_bytes_lem : (h : Head F.TransactionType) → (head F).write h ≡ head_bytes (F.type_id h.type) h.network h.chain
  unfolding head named and_then constant guard tag integer blob
  head_bytes_lem h = refl

  -- the first step
  module _ (h : Head F.TransactionType) (good : (head F).Good h) (s : List ℕ) where
    ys : List ℕ
    ys = head_bytes (F.type_id h.type) h.network h.chain

    q : Plan
    q = plan_for F (F.type_id h.type)

    first : Writer
    first = opened (F.type_id h.type) 1 (length ys) q

    started : length (ys ++ opening q) ≤ length s → length (ys ++ opening q) ≤ most_bytes
        → start F fresh s (F.type_id h.type) h.network h.chain ≡ turn first (Ok first.at) (overwrite s 0 (ys ++ opening q))
    unfolding start answered ys q first
    started f k =
        let R : Result (Unit {0}) Refusal = room_for (length (ys ++ opening q)) s in
        ap (λ (x : Result (Unit {0}) Refusal). answered x fresh s first (overwrite s 0 (ys ++ opening q)))
        (guarded-fine (eqb 0 0) fresh s _ (eq-eqb 0 0 refl) (omega arith)
        ∙ subst (λ (z : List ℕ). judged (head F) (given z) R ≡ R) (head_bytes_lem h) (judged-own (head F) h _ good)
        ∙ room-fine (length (ys ++ opening q)) s f k)

    begun : length (ys ++ opening q) ≤ length s → length (ys ++ opening q) ≤ most_bytes → Begun q first (overwrite s 0 (ys ++ opening q)) ys
    unfolding first
    begun f k =
        let here : Here fresh s [] = record { fits = omega arith; small = omega arith; stands = refl } in
        rw zero-add at (begin (F.type_id h.type) 1 fresh s [] here ys q (omega arith) (omega arith))

  -- the steps that write a value are done, and its bytes are written
  Spells : Unsigned F → List ℕ → Type 0
  Spells u s =
      (w : Writer) × (t : List ℕ) × Does F (spelled F u) fresh s w t × Here w t ((unsigned F).write u) × (due_for F w ≡ end) × (length t ≡ length s)

  spells : (u : Unsigned F) → (unsigned F).Good u → (s : List ℕ) → length ((unsigned F).write u) ≤ length s → length ((unsigned F).write u) ≤ most_bytes
      → Spells u s
  unfolding unsigned and_then spelled Spells ys q first
  spells (h, v) (good, gv) s f k =
      let code : ℕ = F.type_id h.type in
      let y : List ℕ = head_bytes code h.network h.chain in
      let p : Plan = F.plan h.type in
      let r : Plan = plan_for F code in
      let zs : List ℕ = (form F.memo_most p).write v in
      let same : r ≡ p = ap F.plan (F.type_of-id h.type) in
      let o : length (opening r) ≤ length zs = subst (λ (r : Plan). length (opening r) ≤ length zs) (sym same) (opening-le F.memo_most p v) in
      let n = length-append ((head F).write h) zs in
      let m = ap length (head_bytes_lem h) in
      let j = length-append y (opening r) in
      let f₁ : length (y ++ opening r) ≤ length s = omega arith in
      let k₁ : length (y ++ opening r) ≤ most_bytes = omega arith in
      let w₁ : Writer = opened code 1 (length y) r in
      let s₁ : List ℕ = overwrite s 0 (y ++ opening r) in
      let long : length s₁ ≡ length s = length-overwrite s (y ++ opening r) 0 (omega arith) in
      let b : Begun p w₁ s₁ y = subst (λ (r : Plan). Begun r w₁ s₁ y) same (begun h good s f₁ k₁) in
      let (w, t, does, here, d, e) = plan-reached F p v (ends h.type) w₁ s₁ y same b gv (omega arith) (omega arith) in
      (w, t, (w₁, s₁, started h good s f₁ k₁, does), subst (λ (z : List ℕ). Here w t (z ++ zs)) (sym (head_bytes_lem h)) here, d, ◌∙◌ {a = length t} e long)

  -- finish after those steps is done and leaves the transaction with empty slots
  Finishes : Unsigned F → List ℕ → ℕ → Type 0
  Finishes u s n =
      AllDone F (spelled F u) fresh s × ((finish_after F (spelled F u) s).step.answer ≡ Ok n)
      × AnySigned.Parts (unsigned F) (wants F) (take n (finish_after F (spelled F u) s).buffer) u (blank_signed F u)

  finishes : (u : Unsigned F) → (unsigned F).Good u → (s : List ℕ) (n : ℕ) → n ≡ length ((unsigned F).write u) + length (blank_of F u) → n ≤ length s
      → n ≤ most_bytes → Finishes u s n
  unfolding Spells Finishes finish answered
  finishes u g s n e f k =
      let (w, t, does, here, d, long) = spells u g s (omega arith) (omega arith) in
      let (all, r) = does-run F (spelled F u) fresh s w t does in
      let a = here-at w t ((unsigned F).write u) here in
      let there : w.at + length (blank_of F u) ≡ n = omega arith in
      let f₁ : w.at + length (blank_of F u) ≤ length t = omega arith in
      let k₁ : w.at + length (blank_of F u) ≤ most_bytes = omega arith in
      ended u w t n all r d there (finish-is F w t ((unsigned F).write u) here u g refl) (room-fine (w.at + length (blank_of F u)) t f₁ k₁)
      (finished-parts F w t ((unsigned F).write u) here u g refl f₁ k₁)
    where
      ended : (u : Unsigned F) (w : Writer) (t : List ℕ) (n : ℕ) → AllDone F (spelled F u) fresh s → run F (spelled F u) fresh s ≡ (w, t)
          → due_for F w ≡ end → w.at + length (blank_of F u) ≡ n
          → finish_at F end w t
          ≡ answered (room_for (w.at + length (blank_of F u)) t)
          w t (opened w.type_id (suc w.phase) (w.at + length (blank_of F u)) shut) (overwrite t w.at (blank_of F u))
          → room_for (w.at + length (blank_of F u)) t ≡ (Ok tt)
          → AnySigned.Parts (unsigned F) (wants F) (take (w.at + length (blank_of F u)) (overwrite t w.at (blank_of F u))) u (blank_signed F u) → Finishes u s n
      ended u w t n all r d there is fits p =
          let x : ℕ = w.at + length (blank_of F u) in
          let w' : Writer = opened w.type_id (suc w.phase) x shut in
          let s' : List ℕ = overwrite t w.at (blank_of F u) in
          let last : finish_after F (spelled F u) s ≡ turn w' (Ok (x + 0)) s' =
          ap (λ (z : Writer × List ℕ). finish F z.0 z.1) r ∙ ap (λ (z : Plan). finish_at F z w t) d ∙ is
          ∙ ap (λ (v : Result (Unit {0}) Refusal). answered v w t w' s') fits in (
            all,
            ap (λ (z : Turn). z.step.answer) last ∙ ap Ok (add-zero x ∙ there),
            subst (λ (z : Turn). AnySigned.Parts (unsigned F) (wants F) (take n z.buffer) u (blank_signed F u)) (sym last)
                (subst (λ (i : ℕ). AnySigned.Parts (unsigned F) (wants F) (take i s') u (blank_signed F u)) there p),
          )

  -- d is accepted, and v is its reading
  module _ (d : List ℕ) (v : Signed F) (n : ℕ) (bs : Bytes d) (e : check F d ≡ took v n) (s : List ℕ) (room : length d ≤ length s) where
    parts : AnySigned.Parts (unsigned F) (wants F) d v.0 v.1
    parts = parts-took (unsigned F) (wants F) d v n bs e

    trip : Finishes v.0 s (length d)
    unfolding AnySigned.assemble
    trip =
        let p = parts in
        let c = same_length (wants F v.0) v.1 p.signatures-good in
        finishes v.0 p.unsigned-good s (length d)
        (omega (arith, ap length p.same, length-append ((unsigned F).write v.0) ((credentials (wants F v.0)).write v.1))) room p.short

    trip-steps : AllDone F (spelled F v.0) fresh s
    unfolding Finishes
    trip-steps = trip.0

    trip-done : (finish_after F (spelled F v.0) s).step.answer ≡ Ok (length d)
    unfolding Finishes
    trip-done = trip.1

    trip-parts : AnySigned.Parts (unsigned F) (wants F) (take (length d) (finish_after F (spelled F v.0) s).buffer) v.0 (blank_signed F v.0)
    unfolding Finishes
    trip-parts = trip.2

    trip-filled : put_all (AnySigned.slots_at (unsigned F) (wants F) d) (slot_at d) (take (length d) (finish_after F (spelled F v.0) s).buffer) ≡ d
    trip-filled =
        fill-all (unsigned F) (wants F) d (take (length d) (finish_after F (spelled F v.0) s).buffer) v.0 v.1 (blank_signed F v.0) parts trip-parts

  pub steps-round-trip : StepsRoundTrip F
  steps-round-trip =
      record {
        steps-done = trip-steps;
        finish-done = trip-done;
        blank-written = λ d v n bs e s room. (trip-parts d v n bs e s room).same;
        filled = trip-filled;
      }
