-- The call that lists slots: what it answers, by what the check and the count have answered. Assumes nothing.
use Rattle.std.specs.Prelude.{Ok, Err, Result}
use Prim.Native.Nat.{ℕ, ◌+◌, ◌*◌, ◌/◌, ◌≤◌, ◌<◌}
use mathlib.Core.Path.{◌≡◌, sym, ap, ap₂, ◌∙◌}
use mathlib.Core.List.{List, ◌++◌}
use native.Mathlib.Omega.{arith}
use native.Mathlib.Nat.{mod-lt, div-add-mod', zero-lt-suc}
use lib.ListN.{length, drop}
use lib.Seq.{sets-eq}
use borrow.Author.Tests.{le-leb, lt-leb}
use Rattle.wire.specs.declared.Refusal.{Refusal}
use Rattle.wire.specs.Numbers.{refusal, no_room}
use Rattle.wire.specs.Format.{on_result}
use Rattle.wire.proofs.Bytes.{Slice, found}
use Rattle.transaction.specs.Family.{unsigned, wants}
use Rattle.transaction.specs.Avm.{avm}
use Rattle.transaction.specs.Answer.{checked}
use Rattle.transaction.specs.declared.Layout.{Layout}
use Rattle.transaction.proofs.Verdicts.{refused-check, checked-accepted}
use Rattle.entry_table.specs.Table.{filled}
use Rattle.draft.proofs.Known.{known}
use Rattle.draft_slot_table.specs.Slots.{Slot, rows}
use Rattle.draft_slot_table.specs.Table.{listed, slots, tabled_slots}
use Rattle.draft_slot_table.specs.code.Scan.{scan_from, put}
use Rattle.draft_slot_table.proofs.Rows.{length-rows}
use Rattle.draft_slot_table.proofs.Accepted.{scanned-slots}

module _ (most : ℕ) where
  pub on-refused : (s t : List ℕ) (x : Result (Layout × ℕ) Refusal) (e : Refusal) → x ≡ checked most s → x ≡ Err e
      → (z : Result (ℕ × ℕ) Refusal) → z ≡ Err e → filled z t ≡ tabled_slots most s t
  on-refused s t x e p q z r = ap (λ (z : Result (ℕ × ℕ) Refusal). filled z t) r ∙ sym
      (ap (λ o. on_result o (λ e. filled (Err e) t) (λ v end. listed end s (slots most s) t)) (refused-check most s e (found q p)))

  module _ (s : List ℕ) (x : Result (Layout × ℕ) Refusal) (w : Layout) (k : ℕ) (p : x ≡ checked most s) (q : x ≡ Ok (w, k)) where
    accepted : (t : List ℕ) → tabled_slots most s t ≡ listed k s (slots most s) t
    accepted t =
        let (v, r, h) = checked-accepted most s w k (found q p) in
        ap (λ o. on_result o (λ e. filled (Err e) t) (λ v end. listed end s (slots most s) t)) r

    module _ (b : Slice s) where
      pub short : length s ≤ 65536
      short = let d = known most s b x w k p q in d.parts.short

      met : scan_from 0 w.credentials_count s (w.credentials_at + 4) ≡ slots most s
      met =
          let d = known most s b x w k p q in
          ap₂ (λ (n q : ℕ). scan_from 0 n s (q + 4)) d.count d.end
          ∙ scanned-slots (unsigned (avm most)) (wants (avm most)) s d.value d.signatures d.parts

      module _ (t : List ℕ) (n : ℕ) (c : n ≡ length (scan_from 0 w.credentials_count s (w.credentials_at + 4))) where
        pub on-no-room : length t / 3 < n → (f : Refusal) → f ≡ refusal no_room 0 → filled (Err f) t ≡ tabled_slots most s t
        on-no-room h f made =
            let few : length t < 3 * length (slots most s) = omega (arith, ap length met, div-add-mod' (length t) 3, mod-lt (length t) (zero-lt-suc 2)) in
            ap (λ (r : Refusal). filled (Err r) t) made ∙ sym (accepted t ∙ rw (lt-leb (3 * length (slots most s)) (length t) few))

        pub room : n ≤ length t / 3 → 3 * length (scan_from 0 w.credentials_count s (w.credentials_at + 4)) ≤ length t
        room h = omega (arith, div-add-mod' (length t) 3)

        pub on-listed : n ≤ length t / 3 → (u : List ℕ) → u ≡ put t 0 (rows s (scan_from 0 w.credentials_count s (w.credentials_at + 4)))
            → filled (Ok (n, k)) u ≡ tabled_slots most s t
        unfolding put
        on-listed h u e =
            let l : List Slot = slots most s in
            let long : length (rows s l) ≡ 3 * length l = length-rows s l in
            let few : 3 * length l ≤ length t = omega (arith, ap length met, room h) in
            let size : 0 + length (rows s l) ≡ 3 * length l = omega arith in
            let all : u ≡ rows s l ++ drop (3 * length l) t =
            e ∙ ap (λ (m : List Slot). put t 0 (rows s m)) met ∙ sets-eq (rows s l) t 0 (omega arith) ∙ ap (λ (i : ℕ). rows s l ++ drop i t) size in
            let count : n ≡ length l = c ∙ ap length met in
            ap₂ filled (ap (λ (m : ℕ). Ok (m, k)) count) all ∙ sym (accepted t ∙ rw (le-leb (3 * length l) (length t) few))

pub ruleset listing = (on-refused, on-no-room, on-listed)
