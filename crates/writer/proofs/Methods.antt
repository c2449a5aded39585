-- The public steps, from the answers of the functions that they call. Assumes nothing.
use Rattle.std.specs.Prelude.{Ok, Err, Result}
use Prim.Native.Nat.{ℕ, suc, ◌+◌, ◌*◌, ◌/◌, ◌%◌, ◌^◌, ◌≤◌, ◌<◌}
use mathlib.Core.Path.{◌≡◌, refl, sym, ap, ap₂, ◌∙◌}
use mathlib.Core.Bool.{Bool, true, false, not, ◌&&◌, false≢true}
use mathlib.Core.List.{List, [], ◌++◌, append_assoc, append-nil}
use native.Mathlib.Omega.{arith}
use native.Mathlib.Nat.{mod-eq_of_lt, add-zero, zero-add, div-le_self}
use native.Mathlib.Numerals.{add-one}
use lib.ListN.{length, length-append}
use lib.Dec.{ltb, leb, eqb}
use borrow.Author.Tests.{leb-true, eqb-true}
use Rattle.wire.specs.Bytes.{digits, pick}
use Rattle.wire.specs.laws.Bytes.{length_digits}
use Rattle.wire.specs.Numbers.{rule_of, cut_short, bad_length, empty_list}
use Rattle.wire.specs.Fields.{blob}
use Rattle.wire.specs.Series.{not_below}
use Rattle.wire.specs.declared.Refusal.{Refusal}
use Rattle.element.specs.Outputs.{transferable_output}
use Rattle.element.specs.Inputs.{input}
use Rattle.element.specs.Operations.{operation, initial_state}
use Rattle.transaction.specs.Plan.{content_of, Plan, shut, end, field, many, plan_of}
use Rattle.transaction.specs.Avm.{avm}
use Rattle.transaction.specs.Family.{head}
use Rattle.transaction.specs.declared.FieldName.{FieldName}
use Rattle.transaction.specs.declared.FieldName.TheVariants as F
use Rattle.transaction.specs.declared.ListName.{ListName}
use Rattle.transaction.specs.declared.ListName.TheVariants as L
use Rattle.writer_rules.specs.Given.{head_bytes, given, output_given, input_given}
use Rattle.writer_rules.specs.Judged.{refused_by, judged}
use Rattle.writer_rules.specs.code.Judged.{on_allowed}
use Rattle.writer_rules.specs.code.Elements.{output_front, output_head, input_head, integers_bytes}
use Rattle.writer_rules.specs.code.Texts.{type_rules, list_rules, memo_rules, text_rules, denomination_rules}
use Rattle.writer_rules.proofs.Verdicts.{pick-fine, judged-read, judged-on}
use Rattle.writer_transfers.proofs.Outputs.{built-written, output-bytes}
use Rattle.writer_rules.proofs.Integers.{length-integers}
use Rattle.writer_transfers.proofs.Inputs.{written-input, input-bytes}
use Rattle.writer_rules.proofs.FieldLaws.{string-write, text-write, string-judged, text-judged}
use Rattle.writer_rules.proofs.FieldLaws.{denomination-write, denomination-judged, id-judged, head-judged, front-is}
use Rattle.plan.specs.declared.Due.{Due}
use Rattle.plan.specs.declared.Due.TheVariants as D
use Rattle.plan.specs.Due.{tail, due, due_of, is_list, is_field, is_open, is_finish}
use Rattle.plan.specs.code.Rows.{last_phase}
use Rattle.plan.proofs.RowLaws.{phase-small}
use Rattle.writer_buffer.specs.Closing.{closing, closable}
use Rattle.writer.specs.declared.Writer.{Writer}
use Rattle.writer.specs.declared.Step.{Step}
use Rattle.writer.specs.Steps.{fresh, guarded_in, Turn, answered, guarded, prev, sane, opened, close_at, start, close, finish, finish_at, after}
use Rattle.writer.specs.Fields.{add_output, add_input, add_operation, add_initial_state, put_memo, put_name, put_symbol, put_denomination, put_chain}
use Rattle.writer.specs.code.Answer.{refused_step, not_due_step, no_room_step, stored_step, due_at, settled, segment_step, opens_next, element_step}
use Rattle.writer.proofs.Laws.{guarded-fine, guarded-not, guarded-short, by-unready}
use Rattle.writer.proofs.Entering.{kept_out}
use Rattle.writer.proofs.Fitting.{opening-is}
use Rattle.writer.proofs.Naming.{next-opens, field-refused, field_is, element-refused, element-is}
use Rattle.writer_buffer.specs.Stores.{room_for, overwrite}
use Rattle.writer_buffer.specs.code.Stores.{count_of, stored}
use Rattle.writer.proofs.Settling.{store-refused, store-done}

-- an integer that fits its width is written without truncation
fits-digits : (w n m : ℕ) → n ≤ m → m < 256 ^ w → digits w (n % 256 ^ w) ≡ digits w n
fits-digits w n m h k = ap (digits w) (mod-eq_of_lt (omega arith))

-- a text that keeps its rules is not longer than allowed
text-short : (long : ℕ) (b : List ℕ) → text_rules long b ≡ (Ok tt) → length b ≤ long
text-short long b e =
    let (_, e₁) = pick-fine (ltb 0 (length b)) _ (rule_of bad_length) e in
    leb-true (length b) long (pick-fine (leb (length b) long) _ (rule_of bad_length) e₁).0

-- ---- fields

-- the field is due, the bytes written are inside the buffer, and x is the verdict of the rules
module _ (most : ℕ) (w : Writer) (s : List ℕ) (t : Bool) (n : not t ≡ false) (long : w.at ≤ length s) (x : Result (Unit {0}) Refusal) where
  abbrev IsDue : FieldName → Type 0
  IsDue f = t ≡ is_field f (due_at w)

  -- the step writes the bytes zs
  abbrev Puts : Step → List ℕ → List ℕ → Type 0
  Puts r u zs = after r u ≡ segment_step w s zs (opens_next w)

  module _ (b : List ℕ) where
    module _ (p : IsDue F.Memo) (hx : x ≡ memo_rules most (length b)) where
      memo-judged : x ≡ judged (content_of most F.Memo) (given ((content_of most F.Memo).write b)) (Ok tt)
      memo-judged = hx ∙ sym (string-judged most b) ∙ ap (λ (z : List ℕ). judged (content_of most F.Memo) (given z) (Ok tt)) (sym (string-write 4 most b))

      pub memo-refused : (d : Refusal) → x ≡ Err d → (r : Step) → r ≡ refused_step w d → after r s ≡ put_memo most w s b
      memo-refused d e r h = field-refused w s F.Memo t p n most _ long x memo-judged d e r h

      pub memo-is : most < 256 ^ 4 → x ≡ (Ok tt) → (c : List ℕ) → c ≡ digits 4 (length b % 256 ^ 4) → (r : Step) (u : List ℕ) → Puts r u (c ++ b)
          → after r u ≡ put_memo most w s b
      memo-is k e c hc r u h =
          let short : length b ≤ most = leb-true (length b) most (pick-fine (leb (length b) most) (Ok tt) (rule_of bad_length) (sym hx ∙ e)).0 in
          field_is w s F.Memo t p n most _ long x memo-judged e (c ++ b)
          (ap (λ (z : List ℕ). z ++ b) (hc ∙ fits-digits 4 (length b) most short k) ∙ sym (string-write 4 most b)) r u h

    text-made : (m : ℕ) → m < 256 ^ 2 → x ≡ text_rules m b → x ≡ (Ok tt) → (c : List ℕ) → c ≡ digits 2 (length b % 256 ^ 2)
        → c ++ b ≡ digits 2 (length b) ++ b
    text-made m k hx e c hc = ap (λ (z : List ℕ). z ++ b) (hc ∙ fits-digits 2 (length b) m (text-short m b (sym hx ∙ e)) k)

    module _ (p : IsDue F.Name) (hx : x ≡ text_rules 128 b) where
      name-judged : x ≡ judged (content_of most F.Name) (given ((content_of most F.Name).write b)) (Ok tt)
      name-judged = hx ∙ sym (text-judged 128 b) ∙ ap (λ (z : List ℕ). judged (content_of most F.Name) (given z) (Ok tt)) (sym (text-write 128 b))

      pub name-refused : (d : Refusal) → x ≡ Err d → (r : Step) → r ≡ refused_step w d → after r s ≡ put_name most w s b
      name-refused d e r h = field-refused w s F.Name t p n most _ long x name-judged d e r h

      pub name-is : x ≡ (Ok tt) → (c : List ℕ) → c ≡ digits 2 (length b % 256 ^ 2) → (r : Step) (u : List ℕ) → Puts r u (c ++ b)
          → after r u ≡ put_name most w s b
      name-is e c hc r u h =
          field_is w s F.Name t p n most _ long x name-judged e (c ++ b) (text-made 128 (omega arith) hx e c hc ∙ sym (text-write 128 b)) r u h

    module _ (p : IsDue F.Symbol) (hx : x ≡ text_rules 4 b) where
      symbol-judged : x ≡ judged (content_of most F.Symbol) (given ((content_of most F.Symbol).write b)) (Ok tt)
      symbol-judged = hx ∙ sym (text-judged 4 b) ∙ ap (λ (z : List ℕ). judged (content_of most F.Symbol) (given z) (Ok tt)) (sym (text-write 4 b))

      pub symbol-refused : (d : Refusal) → x ≡ Err d → (r : Step) → r ≡ refused_step w d → after r s ≡ put_symbol most w s b
      symbol-refused d e r h = field-refused w s F.Symbol t p n most _ long x symbol-judged d e r h

      pub symbol-is : x ≡ (Ok tt) → (c : List ℕ) → c ≡ digits 2 (length b % 256 ^ 2) → (r : Step) (u : List ℕ) → Puts r u (c ++ b)
          → after r u ≡ put_symbol most w s b
      symbol-is e c hc r u h =
          field_is w s F.Symbol t p n most _ long x symbol-judged e (c ++ b) (text-made 4 (omega arith) hx e c hc ∙ sym (text-write 4 b)) r u h

  module _ (p : IsDue F.Denomination) (v : ℕ) (hx : x ≡ denomination_rules v) where
    denomination-is-judged : x ≡ judged (content_of most F.Denomination) (given ((content_of most F.Denomination).write v)) (Ok tt)
    denomination-is-judged =
        hx ∙ sym (denomination-judged v) ∙ ap (λ (z : List ℕ). judged (content_of most F.Denomination) (given z) (Ok tt)) (sym (denomination-write v))

    pub denomination-refused : (d : Refusal) → x ≡ Err d → (r : Step) → r ≡ refused_step w d → after r s ≡ put_denomination most w s v
    denomination-refused d e r h = field-refused w s F.Denomination t p n most _ long x denomination-is-judged d e r h

    pub denomination-is : x ≡ (Ok tt) → v < 256 → (c : List ℕ) → c ≡ digits 1 (v % 256 ^ 1) → (r : Step) (u : List ℕ) → Puts r u (c ++ [])
        → after r u ≡ put_denomination most w s v
    denomination-is e f c hc r u h =
        field_is w s F.Denomination t p n most _ long x denomination-is-judged e (c ++ [])
        (ap (λ (z : List ℕ). z ++ []) (hc ∙ ap (digits 1) (mod-eq_of_lt f)) ∙ sym (denomination-write v)) r u h

pub chain-is : (most : ℕ) (w : Writer) (s : List ℕ) (t : Bool) → not t ≡ false → w.at ≤ length s → t ≡ is_field F.Chain (due_at w)
    → (c : List ℕ) → length c ≡ 32 → (r : Step) (u : List ℕ) → after r u ≡ segment_step w s c (opens_next w) → after r u ≡ put_chain most w s c
unfolding blob
chain-is most w s t n long p c e r u h = field_is w s F.Chain t p n most (given c) long (Ok tt) (sym (id-judged c e)) refl c refl r u h

-- ---- closing a list

pub not-list : (x : Due) → ((m : ListName) (n : ℕ) → x ≡ D.List m n → ⊥) → is_list x ≡ false
not-list D.Nothing h = refl
not-list D.Finish h = refl
not-list (D.Field f) h = refl
not-list (D.List m n) h = absurd (h m n refl)

module _ (w : Writer) (s : List ℕ) where
  -- the verdict on closing the list that is due; `opens` says whether another list is next
  abbrev close_verdict : ℕ → Bool → Result (Unit {0}) Refusal
  close_verdict least opens = guarded true w s (pick (leb least w.count) (room_for (w.at + length (count_of opens)) s) (refused_by (rule_of empty_list)))

  -- the step where a list is due
  abbrev close_step : Result (Unit {0}) Refusal → Bool → Turn
  close_step v opens =
      answered v w s record { type_id = w.type_id; phase = suc w.phase; at = w.at + length (count_of opens); list = w.at; count = 0; last = 0 }
      (overwrite s w.at (count_of opens))

  closed_at : (q : Plan) (m : ListName) (least : ℕ) → due_of q ≡ D.List m least
      → close_step (close_verdict least (is_list (due_of (tail q)))) (is_list (due_of (tail q))) ≡ close_at q w s
  unfolding close_at
  closed_at shut m least e = let z : ◌≡◌ {A = ℕ} 0 1 = cc in absurd (omega arith)
  closed_at end m least e = let z : ◌≡◌ {A = ℕ} 0 1 = cc in absurd (omega arith)
  closed_at (field f q) m least e = let z : ◌≡◌ {A = ℕ} 0 1 = cc in absurd (omega arith)
  closed_at (many l n q) m least e =
      let i : least ≡ n = cc in
      ap₂ (λ (k : ℕ) (c : List ℕ).
      answered (guarded true w s (pick (leb k w.count) (room_for (w.at + length c) s) (refused_by (rule_of empty_list)))) w s
      (record { type_id = w.type_id; phase = suc w.phase; at = w.at + length c; list = w.at; count = 0; last = 0 }) (overwrite s w.at c))
      i (sym (opening-is q))

  module _ (x : Due) (p : x ≡ due_at w) where
    -- no list is due
    pub close-not : (most : ℕ) → is_list x ≡ false → (r : Step) → r ≡ not_due_step w → after r s ≡ close (avm most) w s
    unfolding close close_at answered
    close-not most n r h = go (due w.phase (plan_of w.type_id)) (ap is_list (sym p) ∙ n)
      where
        go : (q : Plan) → is_list (due_of q) ≡ false → after r s ≡ close_at q w s
        go shut e = ap (λ (y : Step). after y s) h
        go end e = ap (λ (y : Step). after y s) h
        go (field f q) e = ap (λ (y : Step). after y s) h
        go (many l least q) e = absurd (false≢true (sym e))

    module _ (m : ListName) (least : ℕ) (e : x ≡ D.List m least) where
      pub close-small : w.phase ≤ last_phase
      close-small = phase-small w.type_id w.phase is_list refl (ap is_list (sym p ∙ e))

      module _ (most : ℕ) where
        close-here : close_step (close_verdict least (opens_next w)) (opens_next w) ≡ close (avm most) w s
        unfolding close
        close-here =
            ap (λ (b : Bool). close_step (close_verdict least b) b) (next-opens is_list refl w (ap is_list (sym p ∙ e)))
            ∙ closed_at (due w.phase (plan_of w.type_id)) m least (sym p ∙ e)

        pub close-short : length s < w.at → (r : Step) → r ≡ no_room_step w → after r s ≡ close (avm most) w s
        close-short k r h = kept_out w s _ _ _ _ (guarded-short true w s _ refl k) r h ∙ close-here

        pub close-unready : (y : Result (Unit {0}) Refusal) → y ≡ guarded_in true w (length s) (Ok tt) → (d : Refusal) → y ≡ Err d
            → (r : Step) → r ≡ refused_step w d → after r s ≡ close (avm most) w s
        close-unready y h d i r j =
            by-unready true w (length s) y h d i (λ n. absurd (false≢true (sym n))) (λ n k i. close-short k r (j ∙ ap (refused_step w) i))

        module _ (long : w.at ≤ length s) (rules : Result (Unit {0}) Refusal) (hr : rules ≡ list_rules w.count least) where
          abbrev room : Result (Unit {0}) Refusal
          room = room_for (w.at + length (count_of (opens_next w))) s

          close-judged : (v : Result (Unit {0}) Refusal) → rules ≡ v → close_verdict least (opens_next w) ≡ on_allowed v room
          close-judged v i = guarded-fine true w s _ refl long ∙ go (leb least w.count) ∙ ap (λ (y : Result (Unit {0}) Refusal). on_allowed y room) (sym hr ∙ i)
            where
              go : (b : Bool) → pick b room (refused_by (rule_of empty_list)) ≡ on_allowed (pick b (Ok tt) (refused_by (rule_of empty_list))) room
              go true = refl
              go false = refl

          pub close-refused : (d : Refusal) → rules ≡ Err d → (r : Step) → r ≡ refused_step w d → after r s ≡ close (avm most) w s
          close-refused d i r h = kept_out w s _ _ _ d (close-judged (Err d) i) r h ∙ close-here

          pub close-is : rules ≡ (Ok tt) → (r : Step) (u : List ℕ) → after r u ≡ segment_step w s [] (opens_next w) → after r u ≡ close (avm most) w s
          close-is i r u h =
              h ∙ ap (λ (k : ℕ). answered room w s
              (record { type_id = w.type_id; phase = suc w.phase; at = k + length (count_of (opens_next w)); list = k; count = 0; last = 0 })
              (overwrite s w.at (count_of (opens_next w)))) (add-zero w.at)
              ∙ ap (λ (v : Result (Unit {0}) Refusal). close_step v (opens_next w)) (sym (close-judged (Ok tt) i)) ∙ close-here

-- ---- the start

module _ (most : ℕ) (w : Writer) (s : List ℕ) (type_id network : ℕ) (chain : List ℕ) where
  pub start-unready : (x : Result (Unit {0}) Refusal) → x ≡ guarded_in (eqb w.phase 0) w (length s) (Ok tt) → (d : Refusal) → x ≡ Err d
      → (r : Step) → r ≡ refused_step w d → after r s ≡ start (avm most) w s type_id network chain
  unfolding start
  start-unready x p d e r h =
      by-unready (eqb w.phase 0) w (length s) x p d e (λ n i. kept_out w s _ _ _ _ (guarded-not (eqb w.phase 0) w s _ n) r (h ∙ ap (refused_step w) i))
      (λ n k i. kept_out w s _ _ _ _ (guarded-short (eqb w.phase 0) w s _ n k) r (h ∙ ap (refused_step w) i))

  module _ (is_fresh : eqb w.phase 0 ≡ true) where
    module _ (long : w.at ≤ length s) (l : length chain ≡ 32) (rules : Result (Unit {0}) Refusal) (hr : rules ≡ type_rules type_id) where
      abbrev front_bytes : List ℕ
      front_bytes = head_bytes type_id network chain

      start-judged : (v : Result (Unit {0}) Refusal) → rules ≡ v → (R : Result (Unit {0}) Refusal)
          → guarded (eqb w.phase 0) w s (judged (head (avm most)) (given front_bytes) R) ≡ on_allowed v R
      start-judged v i R =
          guarded-fine (eqb w.phase 0) w s _ is_fresh long ∙ judged-on (head (avm most)) (given front_bytes) R
          ∙ ap (λ (y : Result (Unit {0}) Refusal). on_allowed y R) (head-judged most type_id network chain l ∙ sym hr ∙ i)

      pub start-refused : (d : Refusal) → rules ≡ Err d → (r : Step) → r ≡ refused_step w d → after r s ≡ start (avm most) w s type_id network chain
      unfolding start
      start-refused d i r h = kept_out w s _ _ _ d (start-judged (Err d) i _) r h

      pub start_is : rules ≡ (Ok tt) → type_id < 256 ^ 4 → network < 256 ^ 4
          → (front : List ℕ) → front ≡ digits 10 ((type_id * 4294967296 + network) % 256 ^ 10) → (r : Step) (u : List ℕ)
          → (f : Writer) → f ≡ fresh
          → after r u ≡ settled w s (front ++ chain) true record { type_id = type_id; phase = 1; at = f.at; list = f.list; count = f.count; last = f.last }
          → after r u ≡ start (avm most) w s type_id network chain
      unfolding start
      start_is i fk fn front hf r u f hfr h =
          let same : front ++ chain ≡ front_bytes =
          ap (λ (z : List ℕ). z ++ chain) (hf ∙ front-is type_id network fk fn)
          ∙ append_assoc (digits 2 0) (digits 4 type_id ++ digits 4 network) chain
          ∙ ap (λ (z : List ℕ). digits 2 0 ++ z) (append_assoc (digits 4 type_id) (digits 4 network) chain) in
          h ∙ ap (λ (z : Writer). settled w s
          (front ++ chain) true record { type_id = type_id; phase = 1; at = z.at; list = z.list; count = z.count; last = z.last }) hfr
          ∙ ap (λ (z : List ℕ). settled w s z true record { type_id = type_id; phase = 1; at = 0; list = 0; count = 0; last = 0 }) same
          ∙ ap₂ (λ (i j : ℕ). answered (room_for i s) w s
          (record { type_id = type_id; phase = 1; at = j + length (digits 4 0); list = j; count = 0; last = 0 }) (overwrite s 0 (front_bytes ++ digits 4 0)))
          (zero-add (length (front_bytes ++ digits 4 0))) (zero-add (length front_bytes))
          ∙ ap (λ (x : Result (Unit {0}) Refusal). answered x w s (opened type_id 1 (length front_bytes) (plan_of type_id)) (overwrite s 0
          (front_bytes ++ digits 4 0)))
          (sym (start-judged (Ok tt) i (room_for (length (front_bytes ++ digits 4 0)) s)))

-- ---- elements given as fields

-- a head's length does not depend on the count
head-long : (asset : List ℕ) (amount locktime threshold m n : ℕ)
    → length (output_head asset amount locktime threshold m) ≡ length (output_head asset amount locktime threshold n)
unfolding output_head
head-long asset amount locktime threshold m n =
    omega (
      arith,
      length-append (output_front asset amount locktime threshold) (digits 4 m),
      length-append (output_front asset amount locktime threshold) (digits 4 n),
      length_digits 4 m,
      length_digits 4 n,
    )

module _ (most : ℕ) (w : Writer) (s : List ℕ) (asset : List ℕ) (amount locktime threshold : ℕ) (addresses : List ℕ) where
  abbrev output_rules : List ℕ → Result (Unit {0}) Refusal
  output_rules last = judged (not_below transferable_output last) (output_given asset amount locktime threshold addresses) (Ok tt)

  -- if the rules hold, the addresses are complete
  whole-addresses : (last : List ℕ) → output_rules last ≡ (Ok tt) → length addresses % 20 ≡ 0
  whole-addresses last e =
      eqb-true (length addresses % 20) 0
      (pick-fine (eqb (length addresses % 20) 0) _ (rule_of cut_short)
      (sym (judged-read (not_below transferable_output last) (output_given asset amount locktime threshold addresses) (Ok tt)) ∙ e)).0

  module _ (t : Bool) (ht : t ≡ (is_open L.Output (due_at w) && sane w)) (n : not t ≡ false) (long : w.at ≤ length s)
      (last : List ℕ) (hl : last ≡ prev w s) (x : Result (Unit {0}) Refusal) (hx : x ≡ output_rules last) where
    output-judged : x ≡ output_rules (prev w s)
    output-judged = hx ∙ ap output_rules hl

    pub output-refused : (d : Refusal) → x ≡ Err d → (r : Step) → r ≡ refused_step w d
        → after r s ≡ add_output most w s asset amount locktime threshold addresses
    output-refused d e r h = element-refused w s L.Output t ht n most _ long x output-judged d e r h

    pub output-is : x ≡ (Ok tt) → (head : List ℕ) → head ≡ output_head asset amount locktime threshold (length addresses / 20 % 256 ^ 4)
        → (r : Step) (u : List ℕ) → after r u ≡ element_step w s ((head ++ addresses) ++ [])
        → after r u ≡ add_output most w s asset amount locktime threshold addresses
    output-is e head hh r u h =
        let whole : length addresses % 20 ≡ 0 = whole-addresses (prev w s) (sym output-judged ∙ e) in
        element-is w s L.Output t ht n most (output_given asset amount locktime threshold addresses) long x output-judged e (head ++ addresses)
        (omega (
          arith,
          length-append head addresses,
          ap length hh,
          head-long asset amount locktime threshold (length addresses / 20 % 256 ^ 4) (length addresses / 20),
          ap length (built-written asset amount locktime threshold addresses whole),
          length-append (output_head asset amount locktime threshold (length addresses / 20)) addresses,
        ))
        (λ k. output-bytes asset amount locktime threshold addresses head hh whole
        (omega (arith, length-append head addresses, div-le_self (length addresses) 20)))
        r u (h ∙ ap (element_step w s) (append-nil (head ++ addresses)))

input-head-long : (txid : List ℕ) (index : ℕ) (asset : List ℕ) (amount m n : ℕ)
    → length (input_head txid index asset amount m) ≡ length (input_head txid index asset amount n)
unfolding input_head
input-head-long txid index asset amount m n =
    let front : List ℕ = txid ++ digits 4 index ++ asset ++ digits 4 5 ++ digits 8 amount in
    omega (arith, length-append front (digits 4 m), length-append front (digits 4 n), length_digits 4 m, length_digits 4 n)

module _ (most : ℕ) (w : Writer) (s : List ℕ) (txid : List ℕ) (index : ℕ) (asset : List ℕ) (amount : ℕ) (indices : List ℕ) where
  abbrev input_rules : List ℕ → Result (Unit {0}) Refusal
  input_rules last = judged (input last) (input_given txid index asset amount indices) (Ok tt)

  module _ (t : Bool) (ht : t ≡ (is_open L.Input (due_at w) && sane w)) (n : not t ≡ false) (long : w.at ≤ length s)
      (last : List ℕ) (hl : last ≡ prev w s) (x : Result (Unit {0}) Refusal) (hx : x ≡ input_rules last) where
    input-judged : x ≡ input_rules (prev w s)
    input-judged = hx ∙ ap input_rules hl

    pub input-refused : (d : Refusal) → x ≡ Err d → (r : Step) → r ≡ refused_step w d → after r s ≡ add_input most w s txid index asset amount indices
    input-refused d e r h = element-refused w s L.Input t ht n most _ long x input-judged d e r h

    pub input-is : x ≡ (Ok tt) → (head : List ℕ) → head ≡ input_head txid index asset amount (length indices % 256 ^ 4)
        → (r : Step) (u : List ℕ) → after r u ≡ element_step w s ((head ++ []) ++ integers_bytes indices)
        → after r u ≡ add_input most w s txid index asset amount indices
    input-is e head hh r u h =
        element-is w s L.Input t ht n most (input_given txid index asset amount indices) long x input-judged e (head ++ integers_bytes indices)
        (omega (
          arith,
          length-append head (integers_bytes indices),
          ap length hh,
          input-head-long txid index asset amount (length indices % 256 ^ 4) (length indices),
          ap length (written-input txid index asset amount indices),
          length-append (input_head txid index asset amount (length indices)) (integers_bytes indices),
        ))
        (λ k. sym (input-bytes txid index asset amount indices head hh (omega (arith, length-append head (integers_bytes indices), length-integers indices))))
        r u (h ∙ ap (λ (z : List ℕ). element_step w s (z ++ integers_bytes indices)) (append-nil head))

-- ---- elements given as bytes

module _ (most : ℕ) (w : Writer) (s b : List ℕ) (t : Bool) (n : not t ≡ false) (long : w.at ≤ length s) (x : Result (Unit {0}) Refusal) where
  abbrev IsNext : ListName → Type 0
  IsNext l = t ≡ (is_open l (due_at w) && sane w)

  module _ (p : IsNext L.Operation) (hx : x ≡ judged operation (given b) (Ok tt)) where
    pub operation-refused : (d : Refusal) → x ≡ Err d → (r : Step) → r ≡ refused_step w d → after r s ≡ add_operation most w s b
    operation-refused d e r h = element-refused w s L.Operation t p n most (given b) long x hx d e r h

    pub operation-is : x ≡ (Ok tt) → (r : Step) (u : List ℕ) → after r u ≡ element_step w s (b ++ []) → after r u ≡ add_operation most w s b
    operation-is e r u h =
        element-is w s L.Operation t p n most (given b) long x hx e b refl (λ k. refl) r u (h ∙ ap (element_step w s) (append-nil b))

  module _ (p : IsNext L.State) (last : List ℕ) (hl : last ≡ prev w s) (hx : x ≡ judged (initial_state last) (given b) (Ok tt)) where
    state-judged : x ≡ judged (initial_state (prev w s)) (given b) (Ok tt)
    state-judged = hx ∙ ap (λ (z : List ℕ). judged (initial_state z) (given b) (Ok tt)) hl

    pub state-refused : (d : Refusal) → x ≡ Err d → (r : Step) → r ≡ refused_step w d → after r s ≡ add_initial_state most w s b
    state-refused d e r h = element-refused w s L.State t p n most (given b) long x state-judged d e r h

    pub state-is : x ≡ (Ok tt) → (r : Step) (u : List ℕ) → after r u ≡ element_step w s (b ++ []) → after r u ≡ add_initial_state most w s b
    state-is e r u h =
        element-is w s L.State t p n most (given b) long x state-judged e b refl (λ k. refl) r u (h ∙ ap (element_step w s) (append-nil b))

-- ---- the finish

module _ (w : Writer) (s : List ℕ) (t : Bool) (ht : t ≡ is_finish (due_at w)) where
  pub finish-not : (most : ℕ) → t ≡ false → (r : Step) → r ≡ not_due_step w → after r s ≡ finish (avm most) w s
  unfolding finish finish_at answered
  finish-not most e r h = go (due w.phase (plan_of w.type_id)) (sym ht ∙ e)
    where
      go : (q : Plan) → is_finish (due_of q) ≡ false → after r s ≡ finish_at (avm most) q w s
      go shut e = ap (λ (y : Step). after y s) h
      go end e = absurd (false≢true (sym e))
      go (field f q) e = ap (λ (y : Step). after y s) h
      go (many l least q) e = ap (λ (y : Step). after y s) h

  module _ (e : t ≡ true) where
    pub finish-small : w.phase ≤ last_phase
    finish-small = phase-small w.type_id w.phase is_finish refl (sym ht ∙ e)

    module _ (most : ℕ) where
      finish-end : finish_at (avm most) end w s ≡ finish (avm most) w s
      unfolding finish
      finish-end = go (due w.phase (plan_of w.type_id)) (sym ht ∙ e)
        where
          go : (q : Plan) → is_finish (due_of q) ≡ true → finish_at (avm most) end w s ≡ finish_at (avm most) q w s
          go shut e = absurd (false≢true e)
          go end e = refl
          go (field f q) e = absurd (false≢true e)
          go (many l least q) e = absurd (false≢true e)

      module _ (x : Result ℕ Refusal) (u : List ℕ)
          (p : (x, u)
          ≡ stored (closable (avm most) w.at s) (w.at + length (closing (avm most) w.at s)) s (overwrite s w.at (closing (avm most) w.at s))) where
        pub finish-refused : (d : Refusal) → x ≡ Err d → (r : Step) → r ≡ refused_step w d → after r u ≡ finish (avm most) w s
        unfolding finish_at
        finish-refused d q r h = store-refused _ _ w s _ x u p _ r _ d q h ∙ finish-end

        pub finish-done : (m : ℕ) → x ≡ Ok m → (r : Step)
            → r ≡ stored_step record { type_id = w.type_id; phase = w.phase + 1; at = m; list = m; count = 0; last = 0 }
            → after r u ≡ finish (avm most) w s
        unfolding finish_at
        finish-done m q r h =
            let n : ℕ = w.at + length (closing (avm most) w.at s) in
            store-done _ _ w s _ x u p _ r (λ (a : ℕ). record { type_id = w.type_id; phase = w.phase + 1; at = a; list = a; count = 0; last = 0 }) m q h
            (ap₂ (λ (a k : ℕ). record { type_id = w.type_id; phase = k; at = a; list = n; count = 0; last = 0 }) (sym (add-zero n)) (add-one w.phase))
            ∙ finish-end
