-- What every call of the writer's methods guarantees. What is given as fields is judged by tests on them. Assumes nothing.
use Rattle.std.specs.Prelude.{Ok, Err, Result}
use Rattle.wire.specs.declared.Refusal.{Refusal}
use Prim.Native.Nat.{ℕ, zero, suc, ◌/◌, ◌%◌, ◌≤◌, ◌<◌}
use mathlib.Core.Path.{◌≡◌, refl, sym, ap, ◌∙◌, subst}
use mathlib.Core.Bool.{Bool, true, false, not, false≢true}
use mathlib.Core.Logic.{◌↔◌}
use mathlib.Core.List.{List, [], ◌∷◌, ◌++◌}
use native.Mathlib.Omega.{arith}
use lib.ListN.{length, take}
use lib.Dec.{ltb, leb, eqb}
use borrow.Author.Tests.{lt-leb}
use Rattle.wire.specs.Bytes.{pick, digits, below}
use Rattle.wire.specs.declared.Rule.{Rule}
use Rattle.wire.specs.Numbers.{rule_number, rule_of, no_room, step_not_due}
use Rattle.wire.proofs.Numbers.{ruled-range}
use Rattle.wire.specs.Numbers.{cut_short, unknown_type, zero_amount, out_of_order, bad_threshold, bad_length, not_printable, bad_denomination}
use Rattle.wire.specs.Format.{Format}
use Rattle.wire.specs.Fields.{blob}
use Rattle.wire.specs.Series.{not_below}
use Rattle.wire.specs.Orders.{OneOf}
use Rattle.wire.specs.Parsers.{listed}
use Rattle.wire.proofs.Refusing.{RefusesBy, NumberIn, one_of, refuses-more}
use Rattle.string.specs.Strings.{memo, text, denomination}
use Rattle.string.specs.Characters.{unprintable}
use Rattle.owners.specs.Owners.{threshold_fits}
use Rattle.element.specs.Outputs.{transferable_output}
use Rattle.element.specs.Inputs.{input}
use Rattle.element.specs.Operations as Operations
use Rattle.element.specs.Operations.{initial_state}
use Rattle.element.proofs.Refusing.{operation_numbers, operation-numbers, state_numbers, state-numbers}
use Rattle.transaction.specs.Plan.{content_of, elements_of, is_type}
use Rattle.transaction.specs.Avm.{avm}
use Rattle.transaction.specs.Family.{head, unsigned}
use Rattle.transaction.specs.declared.FieldName.{FieldName}
use Rattle.transaction.specs.declared.FieldName.TheVariants as F
use Rattle.transaction.specs.declared.ListName.{ListName}
use Rattle.transaction.specs.declared.ListName.TheVariants as L
use Rattle.transaction.proofs.Refusing.{unsigned_numbers, unsigned-numbers}
use Rattle.writer_rules.specs.Given.{Given, head_bytes, given, addresses_of, output_given, input_given}
use Rattle.writer_rules.specs.code.Elements.{rising, each_above}
use Rattle.writer_rules.specs.Judged.{refused_by, judged}
use Rattle.writer_rules.proofs.FieldLaws.{string-write, text-write, string-judged, text-judged}
use Rattle.writer_rules.proofs.FieldLaws.{denomination-write, denomination-judged, id-judged, head-judged}
use Rattle.writer_rules.proofs.Integers as Integers
use Rattle.writer_transfers.proofs.Outputs as Outputs
use Rattle.writer_transfers.proofs.Inputs as Inputs
use Rattle.writer.specs.declared.Writer.{Writer}
use Rattle.writer.specs.Steps.{Turn, answered, guarded, prev, written_number, written_place, due_for, put_field, put_element, close, finish}
use Rattle.writer_theorems.specs.Calls as C
use Rattle.writer_theorems.specs.Calls.{Call, Words, Typed, call, call_numbers, field_due, element_due, is_due, number_of, place_of, MethodsOwe}
use Rattle.writer_theorems.proofs.Owing.{Numbered, Owed, pick-numbered, judged-numbered, guarded-numbered}
use Rattle.writer_theorems.proofs.Owing.{field-owed, element-owed, close-owed, finish-owed, start-owed}

-- ---- steps by their names, with memos of at most `most` bytes

module _ (P : Rule → Type 0) (room : P no_room) (most : ℕ) (w : Writer) (s : List ℕ) (g : Given) where
  put-field-owed : (f : FieldName) → Numbered P (judged (content_of most f) g (Ok tt)) → Owed P (field_due f w) w s (put_field (avm most) w s f g)
  unfolding put_field
  put-field-owed f h = field-owed P room most (due_for (avm most) w) w s f g h

  put-element-owed : (l : ListName) → Numbered P (judged ((elements_of l).element (prev w s)) g (Ok tt))
      → Owed P (element_due l w) w s (put_element (avm most) w s l g)
  unfolding put_element
  put-element-owed l h = element-owed P room (due_for (avm most) w) w s l g h

-- ---- elements and heads given as fields, by the tests on them

words-fit : (l : List ℕ) → Words l → Integers.Words l
words-fit [] h j = record { fits = omega arith }
words-fit (n ∷ l) (h, hs) zero = record { fits = omega (arith, h) }
words-fit (n ∷ l) (h, hs) (suc j) = words-fit l hs j

module _ (P : Rule → Type 0) where
  output-numbered : (asset : List ℕ) (amount locktime threshold : ℕ) (addresses last : List ℕ) → length asset ≡ 32
      → P (rule_of cut_short) → P (rule_of zero_amount) → P (rule_of out_of_order) → P (rule_of bad_threshold)
      → Numbered P (judged (not_below transferable_output last) (output_given asset amount locktime threshold addresses) (Ok tt))
  output-numbered asset amount locktime threshold addresses last h short nothing order high =
      let built : List ℕ = Outputs.built asset amount locktime threshold addresses in
      let after : Result (Unit {0}) Refusal = pick (not (below built last)) (Ok tt) (refused_by (rule_of out_of_order)) in
      let rises : Result (Unit {0}) Refusal = pick (each_above (blob 20) [] (addresses_of (length addresses / 20) addresses)) after (refused_by
      (rule_of out_of_order)) in
      let bound : Result (Unit {0}) Refusal = pick (threshold_fits threshold (length addresses / 20)) rises (refused_by (rule_of bad_threshold)) in
      let some : Result (Unit {0}) Refusal = pick (ltb 0 amount) bound (refused_by (rule_of zero_amount)) in
      subst (Numbered P)
      (Outputs.as-output asset amount locktime threshold addresses last (pick (eqb (length addresses % 20) 0) some (refused_by (rule_of cut_short))) h refl)
      (pick-numbered P (eqb (length addresses % 20) 0) some (rule_of cut_short)
      (pick-numbered P (ltb 0 amount) bound (rule_of zero_amount)
      (pick-numbered P (threshold_fits threshold (length addresses / 20)) rises (rule_of bad_threshold)
      (pick-numbered P (each_above (blob 20) [] (addresses_of (length addresses / 20) addresses)) after (rule_of out_of_order)
      (pick-numbered P (not (below built last)) (Ok tt) (rule_of out_of_order) tt order) order) high) nothing) short)

  input-numbered : (txid : List ℕ) (index : ℕ) (asset : List ℕ) (amount : ℕ) (indices last : List ℕ) → length txid ≡ 32 → length asset ≡ 32
      → Words indices → P (rule_of zero_amount) → P (rule_of out_of_order)
      → Numbered P (judged (input last) (input_given txid index asset amount indices) (Ok tt))
  input-numbered txid index asset amount indices last h k words nothing order =
      let rises : Result (Unit {0}) Refusal = pick (rising indices) (Ok tt) (refused_by (rule_of out_of_order)) in
      let some : Result (Unit {0}) Refusal = pick (ltb 0 amount) rises (refused_by (rule_of zero_amount)) in
      let after : Bool = below (take 36 last) (txid ++ digits 4 index) in
      subst (Numbered P)
      (Inputs.as-input txid index asset amount indices last (pick after some (refused_by (rule_of out_of_order))) h k (words-fit indices words) refl)
      (pick-numbered P after some (rule_of out_of_order)
      (pick-numbered P (ltb 0 amount) rises (rule_of zero_amount) (pick-numbered P (rising indices) (Ok tt) (rule_of out_of_order) tt order) nothing) order)

  memo-numbered : (most : ℕ) (b : List ℕ) → P (rule_of bad_length) → Numbered P (judged (memo most) (given ((memo most).write b)) (Ok tt))
  memo-numbered most b h =
      subst (Numbered P) (sym (ap (λ (z : List ℕ). judged (memo most) (given z) (Ok tt)) (string-write 4 most b) ∙ string-judged most b))
      (pick-numbered P (leb (length b) most) (Ok tt) (rule_of bad_length) tt h)

  text-numbered : (most : ℕ) (b : List ℕ) → P (rule_of bad_length) → P (rule_of not_printable)
      → Numbered P (judged (text most) (given ((text most).write b)) (Ok tt))
  text-numbered most b h k =
      subst (Numbered P) (sym (ap (λ (z : List ℕ). judged (text most) (given z) (Ok tt)) (text-write most b) ∙ text-judged most b))
      (pick-numbered P (ltb 0 (length b)) _ (rule_of bad_length)
      (pick-numbered P (leb (length b) most) _ (rule_of bad_length)
      (pick-numbered P (eqb (unprintable b) (length b)) (Ok tt) (rule_of not_printable) tt k) h) h)

  denomination-numbered : (n : ℕ) → P (rule_of bad_denomination) → Numbered P (judged denomination (given (denomination.write n)) (Ok tt))
  denomination-numbered n h =
      subst (Numbered P) (sym (ap (λ (z : List ℕ). judged denomination (given z) (Ok tt)) (denomination-write n) ∙ denomination-judged n))
      (pick-numbered P (leb n 32) (Ok tt) (rule_of bad_denomination) tt h)

  chain-numbered : (c : List ℕ) → length c ≡ 32 → Numbered P (judged (blob 32) (given ((blob 32).write c)) (Ok tt))
  unfolding blob
  chain-numbered c h = subst (Numbered P) (sym (id-judged c h)) tt

  head-numbered : (most type network : ℕ) (chain : List ℕ) → length chain ≡ 32 → P (rule_of unknown_type)
      → Numbered P (judged (head (avm most)) (given (head_bytes type network chain)) (Ok tt))
  head-numbered most type network chain h k =
      subst (Numbered P) (sym (head-judged most type network chain h)) (pick-numbered P (is_type type) (Ok tt) (rule_of unknown_type) tt k)

-- ---- each call answers a number of its own list

abbrev Among : Call → Rule → Type 0
Among c = NumberIn (call_numbers c)

call-owed : (most : ℕ) (c : Call) → Typed c → (w : Writer) (s : List ℕ) → Owed (Among c) (is_due c w) w s (call most c w s)
unfolding close finish
call-owed most (C.start type network id) (_, _, (h, _)) w s =
    let c : Call = C.start type network id in
    start-owed (Among c) (one_of (call_numbers c) 14 refl) (avm most) w s type network id
    (head-numbered (Among c) most type network id h (one_of (call_numbers c) 4 refl))
call-owed most (C.output asset amount locktime threshold addresses) ((h, _), _, _, _, _) w s =
    let c : Call = C.output asset amount locktime threshold addresses in
    let has = one_of (call_numbers c) in
    put-element-owed (Among c) (has 14 refl) most w s (output_given asset amount locktime threshold addresses) L.Output
    (output-numbered (Among c) asset amount locktime threshold addresses (prev w s) h (has 2 refl) (has 5 refl) (has 6 refl) (has 7 refl))
call-owed most (C.input txid index asset amount indices) ((h, _), _, (k, _), _, words) w s =
    let c : Call = C.input txid index asset amount indices in
    let has = one_of (call_numbers c) in
    put-element-owed (Among c) (has 14 refl) most w s (input_given txid index asset amount indices) L.Input
    (input-numbered (Among c) txid index asset amount indices (prev w s) h k words (has 5 refl) (has 6 refl))
call-owed most (C.operation b) typed w s =
    let c : Call = C.operation b in
    let has = one_of (call_numbers c) in
    put-element-owed (Among c) (has 14 refl) most w s (given b) L.Operation
    (judged-numbered (Among c) Operations.operation (given b)
    (refuses-more Operations.operation operation_numbers (call_numbers c) refl operation-numbers) (has 2 refl) (has 13 refl))
call-owed most (C.state b) typed w s =
    let c : Call = C.state b in
    let has = one_of (call_numbers c) in
    put-element-owed (Among c) (has 14 refl) most w s (given b) L.State
    (judged-numbered (Among c) (initial_state (prev w s)) (given b)
    (refuses-more (initial_state (prev w s)) state_numbers (call_numbers c) refl (state-numbers (prev w s)))
    (has 2 refl) (has 13 refl))
call-owed most (C.memo b) typed w s =
    let c : Call = C.memo b in
    let has = one_of (call_numbers c) in
    put-field-owed (Among c) (has 14 refl) most w s _ F.Memo (memo-numbered (Among c) most b (has 8 refl))
call-owed most (C.name b) typed w s =
    let c : Call = C.name b in
    let has = one_of (call_numbers c) in
    put-field-owed (Among c) (has 14 refl) most w s _ F.Name (text-numbered (Among c) 128 b (has 8 refl) (has 9 refl))
call-owed most (C.symbol b) typed w s =
    let c : Call = C.symbol b in
    let has = one_of (call_numbers c) in
    put-field-owed (Among c) (has 14 refl) most w s _ F.Symbol (text-numbered (Among c) 4 b (has 8 refl) (has 9 refl))
call-owed most (C.chain b) (h, _) w s =
    let c : Call = C.chain b in
    let has = one_of (call_numbers c) in
    put-field-owed (Among c) (has 14 refl) most w s _ F.Chain (chain-numbered (Among c) b h)
call-owed most (C.denomination n) typed w s =
    let c : Call = C.denomination n in
    let has = one_of (call_numbers c) in
    put-field-owed (Among c) (has 14 refl) most w s _ F.Denomination (denomination-numbered (Among c) n (has 10 refl))
call-owed most C.close typed w s =
    let has = one_of (call_numbers C.close) in
    close-owed (Among C.close) (has 14 refl) (has 11 refl) (due_for (avm most) w) w s
call-owed most C.finish typed w s =
    let has = one_of (call_numbers C.finish) in
    finish-owed (Among C.finish) (has 14 refl) (avm most)
    (refuses-more (unsigned (avm most)) unsigned_numbers (call_numbers C.finish) refl (unsigned-numbers (avm most))) (has 2 refl) (has 13 refl)
    (due_for (avm most) w) w s

-- 0, 14 and 16 are in every call's list
abbrev is_listed : Call → ℕ → Bool
is_listed c = listed (λ (k : ℕ). k) (call_numbers c)

always-listed : (c : Call) → (is_listed c 0 ≡ true) × (is_listed c (rule_number no_room) ≡ true) × (is_listed c (rule_number step_not_due) ≡ true)
always-listed (C.start type network id) = (refl, refl, refl)
always-listed (C.output asset amount locktime threshold addresses) = (refl, refl, refl)
always-listed (C.input txid index asset amount indices) = (refl, refl, refl)
always-listed (C.operation b) = (refl, refl, refl)
always-listed (C.state b) = (refl, refl, refl)
always-listed (C.memo b) = (refl, refl, refl)
always-listed (C.name b) = (refl, refl, refl)
always-listed (C.symbol b) = (refl, refl, refl)
always-listed (C.chain b) = (refl, refl, refl)
always-listed (C.denomination n) = (refl, refl, refl)
always-listed C.close = (refl, refl, refl)
always-listed C.finish = (refl, refl, refl)

-- ---- whatever its arguments, a call's rules refuse by a number from 2 to 14

abbrev Some : Rule → Type 0
Some x = (2 ≤ rule_number x) × (rule_number x ≤ rule_number no_room)

rules-some : {A : Type 0} (F : Format A) → RefusesBy F Some
rules-some F s at e r =
    let (least, most) = ruled-range e.rule (F.ruled s at e r) in
    (least, omega (arith, most))

some-room : Some no_room
some-room = (omega arith, omega arith)

some-numbered : {A : Type 0} (F : Format A) (g : Given) → Numbered Some (judged F g (Ok tt))
some-numbered F g = judged-numbered Some F g (rules-some F) (omega arith, omega arith) (omega arith, omega arith)

module _ (most : ℕ) (w : Writer) (s : List ℕ) (g : Given) where
  field-some : (f : FieldName) → Owed Some (field_due f w) w s (put_field (avm most) w s f g)
  field-some f = put-field-owed Some some-room most w s g f (some-numbered (content_of most f) g)

  element-some : (l : ListName) → Owed Some (element_due l w) w s (put_element (avm most) w s l g)
  element-some l = put-element-owed Some some-room most w s g l (some-numbered ((elements_of l).element (prev w s)) g)

call-some : (most : ℕ) (c : Call) (w : Writer) (s : List ℕ) → Owed Some (is_due c w) w s (call most c w s)
unfolding close finish
call-some most (C.start type network id) w s = start-owed Some some-room (avm most) w s type network id (some-numbered (head (avm most)) _)
call-some most (C.output asset amount locktime threshold addresses) w s = element-some most w s _ L.Output
call-some most (C.input txid index asset amount indices) w s = element-some most w s _ L.Input
call-some most (C.operation b) w s = element-some most w s _ L.Operation
call-some most (C.state b) w s = element-some most w s _ L.State
call-some most (C.memo b) w s = field-some most w s _ F.Memo
call-some most (C.name b) w s = field-some most w s _ F.Name
call-some most (C.symbol b) w s = field-some most w s _ F.Symbol
call-some most (C.chain b) w s = field-some most w s _ F.Chain
call-some most (C.denomination n) w s = field-some most w s _ F.Denomination
call-some most C.close w s = close-owed Some some-room (omega arith, omega arith) (due_for (avm most) w) w s
call-some most C.finish w s =
    finish-owed Some some-room (avm most) (rules-some (unsigned (avm most))) (omega arith, omega arith) (omega arith, omega arith)
    (due_for (avm most) w) w s

-- every refusal has a number of at least 2, also the 16 of a step that is not due
abbrev AtLeastTwo : Rule → Type 0
AtLeastTwo x = 2 ≤ rule_number x

two-or-more : (most : ℕ) (c : Call) (w : Writer) (s : List ℕ) → Numbered AtLeastTwo (guarded (is_due c w) w s (call-some most c w s).rules)
two-or-more most c w s =
    let o = call-some most c w s in
    guarded-numbered AtLeastTwo (omega arith) (omega arith) (is_due c w) w s o.rules (λ e. weaker o.rules (o.numbered e))
  where
    weaker : (v : Result (Unit {0}) Refusal) → Numbered Some v → Numbered AtLeastTwo v
    weaker (Ok tt) h = tt
    weaker (Err e) ((least, _), z) = (least, z)

-- ---- what follows from an answer

module _ (w : Writer) (s : List ℕ) (w' : Writer) (s' : List ℕ) where
  abbrev number_by : Result (Unit {0}) Refusal → ℕ
  number_by v = written_number (answered v w s w' s').step.answer

  answered-number : (l : List ℕ) → OneOf 0 l → (v : Result (Unit {0}) Refusal) → Numbered (NumberIn l) v → OneOf (number_by v) l
  unfolding answered
  answered-number l z (Ok tt) h = z
  answered-number l z (Err e) h = h.0

  -- a step that is refused changes nothing and reports place 0; one that is done reports the bytes written
  answered-refused : (v : Result (Unit {0}) Refusal) → Numbered AtLeastTwo v → (number_by v ≡ 0 → ⊥)
      → ((answered v w s w' s').step.next ≡ w) × ((answered v w s w' s').buffer ≡ s) × (written_place (answered v w s w' s').step.answer ≡ 0)
  unfolding answered
  answered-refused (Ok tt) k h = absurd (h refl)
  answered-refused (Err e) k h = (refl, refl, k.1)

  answered-done : (v : Result (Unit {0}) Refusal) → Numbered AtLeastTwo v → number_by v ≡ 0
      → written_place (answered v w s w' s').step.answer ≡ (answered v w s w' s').step.next.at
  unfolding answered
  answered-done (Ok tt) k h = refl
  answered-done (Err e) k h = absurd (omega (arith, k.0))

  answered-long : (v : Result (Unit {0}) Refusal) → (v ≡ (Ok tt) → length s' ≡ length s) → length (answered v w s w' s').buffer ≡ length s
  unfolding answered
  answered-long (Ok tt) h = h refl
  answered-long (Err e) h = refl

  -- no rule refuses by 16
  answered-rules : (v : Result (Unit {0}) Refusal) → Numbered Some v → number_by v ≡ rule_number step_not_due → ⊥
  unfolding answered
  answered-rules (Ok tt) h e = absurd (omega arith)
  answered-rules (Err d) ((_, most), _) e = absurd (omega arith)

  -- a step answers 16 exactly if it is not due, and 14 if it is due and the buffer is short
  guarded-not-due : (is_due : Bool) (v : Result (Unit {0}) Refusal) → (is_due ≡ true → Numbered Some v)
      → (number_by (guarded is_due w s v) ≡ rule_number step_not_due)
      ↔ (is_due ≡ false)
  unfolding answered
  guarded-not-due true v h =
      let rules = pick-numbered Some (leb w.at (length s)) v no_room (h refl) some-room in
      (λ e. absurd (answered-rules (guarded true w s v) rules e), λ e. absurd (false≢true (sym e)))
  guarded-not-due false v h = (λ e. refl, λ e. refl)

  guarded-short : (is_due : Bool) (v : Result (Unit {0}) Refusal) → length s < w.at
      → number_by (guarded is_due w s v) ≡ rule_number (pick is_due no_room step_not_due)
  unfolding answered
  guarded-short true v h = rw (lt-leb w.at (length s) h)
  guarded-short false v h = refl

module _ (most : ℕ) where
  number : (c : Call) → Typed c → (w : Writer) (s : List ℕ) → OneOf (number_of most c w s) (call_numbers c)
  number c typed w s =
      let o = call-owed most c typed w s in
      let (done, room, not_due) = always-listed c in
      let has = one_of (call_numbers c) in
      subst (λ (t : Turn). OneOf (written_number t.step.answer) (call_numbers c)) (sym o.is)
      (answered-number w s o.next o.buffer (call_numbers c) (has 0 done) (guarded (is_due c w) w s o.rules)
      (guarded-numbered (Among c) (has (rule_number no_room) room) (has (rule_number step_not_due) not_due) (is_due c w) w s o.rules o.numbered))

  not-due : (c : Call) (w : Writer) (s : List ℕ) → (number_of most c w s ≡ rule_number step_not_due) ↔ (is_due c w ≡ false)
  not-due c w s =
      let o = call-some most c w s in
      subst (λ (t : Turn). (written_number t.step.answer ≡ rule_number step_not_due) ↔ (is_due c w ≡ false)) (sym o.is)
      (guarded-not-due w s o.next o.buffer (is_due c w) o.rules o.numbered)

  short : (c : Call) (w : Writer) (s : List ℕ) → length s < w.at → number_of most c w s ≡ rule_number (pick (is_due c w) no_room step_not_due)
  short c w s h =
      let o = call-some most c w s in
      subst (λ (t : Turn). written_number t.step.answer ≡ rule_number (pick (is_due c w) no_room step_not_due)) (sym o.is)
      (guarded-short w s o.next o.buffer (is_due c w) o.rules h)

  refused : (c : Call) (w : Writer) (s : List ℕ) → (number_of most c w s ≡ 0 → ⊥)
      → ((call most c w s).step.next ≡ w) × ((call most c w s).buffer ≡ s) × (place_of most c w s ≡ 0)
  refused c w s =
      let o = call-some most c w s in
      subst (λ (t : Turn). (written_number t.step.answer ≡ 0 → ⊥)
      → (t.step.next ≡ w) × (t.buffer ≡ s) × (written_place t.step.answer ≡ 0)) (sym o.is)
      (answered-refused w s o.next o.buffer (guarded (is_due c w) w s o.rules) (two-or-more most c w s))

  done : (c : Call) (w : Writer) (s : List ℕ) → number_of most c w s ≡ 0 → place_of most c w s ≡ (call most c w s).step.next.at
  done c w s =
      let o = call-some most c w s in
      subst (λ (t : Turn). written_number t.step.answer ≡ 0 → written_place t.step.answer ≡ t.step.next.at) (sym o.is)
      (answered-done w s o.next o.buffer (guarded (is_due c w) w s o.rules) (two-or-more most c w s))

  long : (c : Call) (w : Writer) (s : List ℕ) → length (call most c w s).buffer ≡ length s
  long c w s =
      let o = call-some most c w s in
      subst (λ (t : Turn). length t.buffer ≡ length s) (sym o.is)
      (answered-long w s o.next o.buffer (guarded (is_due c w) w s o.rules) o.long)

  pub methods-owe : MethodsOwe most
  methods-owe =
      record {
        number = number;
        not-due = not-due;
        short-buffer = short;
        refused-state = λ c w s h. (refused c w s h).0;
        refused-buffer = λ c w s h. (refused c w s h).1;
        refused-place = λ c w s h. (refused c w s h).2;
        done-place = done;
        length-kept = long;
      }
