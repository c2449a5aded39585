-- Calls of the writer's methods, runs of them, and the calls that write the reading of a transaction, for any limit of the memo. Assumes nothing.
use Rattle.std.specs.Prelude.{ℕ, ◌≤◌, ◌<◌, ◌^◌, ◌≡◌, ◌⊎◌, ◌↔◌, Bool, true, false, ◌&&◌, List, [], ◌∷◌, ◌++◌, map, length, take, eqb, Ok, Err}
use Rattle.wire.specs.Bytes.{Bytes, pick}
use Rattle.wire.specs.Numbers.{rule_number, no_room, step_not_due}
use Rattle.wire.specs.Format.{took}
use Rattle.wire.specs.Orders.{OneOf}
use Rattle.wire.specs.declared.Refusal.{Refusal}
use Rattle.element.specs.Outputs.{Output, secp_mint, secp_transfer, nft_mint, nft_transfer, TransferableOutput}
use Rattle.element.specs.Inputs.{Input}
use Rattle.element.specs.Operations as Operations
use Rattle.element.specs.Operations.{Operation, InitialState}
use Rattle.transaction.specs.Slots.{slot_at, put_all}
use Rattle.transaction.specs.Plan.{own_plan, type_id, plan_of}
use Rattle.transaction.specs.Form.{Value}
use Rattle.transaction.specs.Avm.{avm}
use Rattle.transaction.specs.Signed as AnySigned
use Rattle.transaction.specs.Family.{Signed, Unsigned, unsigned, wants, check, accepted}
use Rattle.transaction.specs.declared.TransactionType.{TransactionType}
use Rattle.transaction.specs.declared.TransactionType.TheVariants as K
use Rattle.transaction.specs.declared.FieldName.{FieldName}
use Rattle.transaction.specs.declared.FieldName.TheVariants as F
use Rattle.transaction.specs.declared.ListName.{ListName}
use Rattle.transaction.specs.declared.ListName.TheVariants as L
use Rattle.plan.specs.Due.{due, due_of, is_list, is_field, is_open, is_finish}
use Rattle.plan.specs.declared.Due.{Due}
use Rattle.writer.specs.declared.Writer.{Writer}
use Rattle.writer.specs.Steps as Steps
use Rattle.writer.specs.Steps.{Turn, written_number, written_place, sane}
use Rattle.writer.specs.Fields.{add_output, add_input, add_operation, add_initial_state, put_memo, put_name, put_symbol, put_denomination, put_chain}

pub data Call : Type 0 where
  start : ℕ → ℕ → List ℕ → Call
  output : List ℕ → ℕ → ℕ → ℕ → List ℕ → Call
  input : List ℕ → ℕ → List ℕ → ℕ → List ℕ → Call
  operation state memo name symbol chain : List ℕ → Call
  denomination : ℕ → Call
  close finish : Call

-- each integer fits four bytes
abbrev pub Words : List ℕ → Type 0
Words [] = Unit {0}
Words (n ∷ l) = (n < 256 ^ 4) × Words l

abbrev pub Id : List ℕ → Type 0
Id c = (length c ≡ 32) × Bytes c

-- what the types of a method's arguments guarantee
abbrev pub Typed : Call → Type 0
Typed (start type network id) = (type < 256 ^ 4) × (network < 256 ^ 4) × Id id
Typed (output asset amount locktime threshold addresses) = Id asset × (amount < 256 ^ 8) × (locktime < 256 ^ 8) × (threshold < 256 ^ 4) × Bytes addresses
Typed (input txid index asset amount indices) = Id txid × (index < 256 ^ 4) × Id asset × (amount < 256 ^ 8) × Words indices
Typed (operation b) = Bytes b
Typed (state b) = Bytes b
Typed (memo b) = Bytes b
Typed (name b) = Bytes b
Typed (symbol b) = Bytes b
Typed (chain c) = Id c
Typed (denomination n) = n < 256
Typed close = Unit {0}
Typed finish = Unit {0}

abbrev pub AllTyped : List Call → Type 0
AllTyped [] = Unit {0}
AllTyped (c ∷ l) = Typed c × AllTyped l

-- with memos of at most `most` bytes
module _ (most : ℕ) where
  -- what the call's method answers, and the buffer afterwards
  abbrev pub call : Call → Writer → List ℕ → Turn
  call (start type network id) w s = Steps.start (avm most) w s type network id
  call (output asset amount locktime threshold addresses) w s = add_output most w s asset amount locktime threshold addresses
  call (input txid index asset amount indices) w s = add_input most w s txid index asset amount indices
  call (operation b) w s = add_operation most w s b
  call (state b) w s = add_initial_state most w s b
  call (memo b) w s = put_memo most w s b
  call (name b) w s = put_name most w s b
  call (symbol b) w s = put_symbol most w s b
  call (chain c) w s = put_chain most w s c
  call (denomination n) w s = put_denomination most w s n
  call close w s = Steps.close (avm most) w s
  call finish w s = Steps.finish (avm most) w s

  unfoldable pub calls : List Call → Writer → List ℕ → Writer × List ℕ
  calls [] w s = (w, s)
  calls (c ∷ l) w s = calls l (call c w s).step.next (call c w s).buffer

  -- every call of the run is done
  unfoldable pub AllCallsDone : List Call → Writer → List ℕ → Type 0
  AllCallsDone [] w s = Unit {0}
  AllCallsDone (c ∷ l) w s =
      ((call c w s).step.answer ≡ Ok (call c w s).step.next.at) × AllCallsDone l (call c w s).step.next (call c w s).buffer

-- ---- the calls that write a reading

-- addresses, one after the other
unfoldable pub joined : List (List ℕ) → List ℕ
joined [] = []
joined (a ∷ l) = a ++ joined l

-- a transferable output is of type 7; no accepted transaction has another type, so the call for the others does not matter
abbrev pub of_output : List ℕ → Output → Call
of_output asset (secp_mint, o) = close
of_output asset (secp_transfer, (amount, o)) = output asset amount o.locktime o.threshold (joined o.addresses)
of_output asset (nft_mint, o) = close
of_output asset (nft_transfer, o) = close

abbrev pub output_call : TransferableOutput → Call
output_call o = of_output o.asset o.output

abbrev pub input_call : Input → Call
input_call i = input i.txid i.index i.asset i.amount i.indices

abbrev pub operation_call : Operation → Call
operation_call o = operation ((Operations.operation).write o)

abbrev pub state_call : InitialState → Call
state_call v = state ((Operations.initial_state []).write v)

-- a list's elements, and then its close
abbrev pub list_calls : {A : Type 0} → (A → Call) → List A → List Call → List Call
list_calls f l more = map f l ++ (close ∷ more)

abbrev pub own_calls : (k : TransactionType) → Value (own_plan k) → List Call
own_calls K.Base v = []
own_calls K.CreateAsset (a, (b, (d, (l, e)))) = name a ∷ symbol b ∷ denomination d ∷ list_calls state_call l []
own_calls K.Operation (l, e) = list_calls operation_call l []
own_calls K.Import (c, (l, e)) = chain c ∷ list_calls input_call l []
own_calls K.Export (c, (l, e)) = chain c ∷ list_calls output_call l []

abbrev pub reading_calls : (most : ℕ) → Unsigned (avm most) → List Call
reading_calls most (h, (outs, (ins, (note, own)))) =
    start (type_id h.type) h.network h.chain ∷ list_calls output_call outs (list_calls input_call ins (memo note ∷ own_calls h.type own))

-- ---- the numbers that a call can answer, whatever the state and the buffer

-- 0 is done; every call can answer 14 and 16; the others are the rules that its arguments can break. Finish reads the unsigned part back, so over a
-- state and buffer that no run of calls has left it can answer any rule of that part; after a run it refuses by 14 and 16 only (`MethodsFinish`)
abbrev pub call_numbers : Call → List ℕ
call_numbers (start type network id) = 0 ∷ 4 ∷ 14 ∷ 16 ∷ []
call_numbers (output asset amount locktime threshold addresses) = 0 ∷ 2 ∷ 5 ∷ 6 ∷ 7 ∷ 14 ∷ 16 ∷ []
call_numbers (input txid index asset amount indices) = 0 ∷ 5 ∷ 6 ∷ 14 ∷ 16 ∷ []
call_numbers (operation b) = 0 ∷ 2 ∷ 4 ∷ 6 ∷ 7 ∷ 8 ∷ 13 ∷ 14 ∷ 16 ∷ []
call_numbers (state b) = 0 ∷ 2 ∷ 4 ∷ 5 ∷ 6 ∷ 7 ∷ 8 ∷ 13 ∷ 14 ∷ 16 ∷ []
call_numbers (memo b) = 0 ∷ 8 ∷ 14 ∷ 16 ∷ []
call_numbers (name b) = 0 ∷ 8 ∷ 9 ∷ 14 ∷ 16 ∷ []
call_numbers (symbol b) = 0 ∷ 8 ∷ 9 ∷ 14 ∷ 16 ∷ []
call_numbers (chain c) = 0 ∷ 14 ∷ 16 ∷ []
call_numbers (denomination n) = 0 ∷ 10 ∷ 14 ∷ 16 ∷ []
call_numbers close = 0 ∷ 11 ∷ 14 ∷ 16 ∷ []
call_numbers finish = 0 ∷ 2 ∷ 3 ∷ 4 ∷ 5 ∷ 6 ∷ 7 ∷ 8 ∷ 9 ∷ 10 ∷ 11 ∷ 13 ∷ 14 ∷ 16 ∷ []

-- ---- when a call is due

-- the segment of the transaction that is due in this state
abbrev pub due_now : Writer → Due
due_now w = due_of (due w.phase (plan_of w.type_id))

-- a field of that name is due
abbrev pub field_due : FieldName → Writer → Bool
field_due f w = is_field f (due_now w)

-- a list of that name is open; an element is due only if the count and the last element that the state names lie inside the bytes written, as they
-- do after every run of calls from a fresh writer
abbrev pub element_due : ListName → Writer → Bool
element_due l w = is_open l (due_now w) && sane w

abbrev pub is_due : Call → Writer → Bool
is_due (start type network id) w = eqb w.phase 0
is_due (output asset amount locktime threshold addresses) w = element_due L.Output w
is_due (input txid index asset amount indices) w = element_due L.Input w
is_due (operation b) w = element_due L.Operation w
is_due (state b) w = element_due L.State w
is_due (memo b) w = field_due F.Memo w
is_due (name b) w = field_due F.Name w
is_due (symbol b) w = field_due F.Symbol w
is_due (chain c) w = field_due F.Chain w
is_due (denomination n) w = field_due F.Denomination w
is_due close w = is_list (due_now w)
is_due finish w = is_finish (due_now w)

-- ---- what is claimed of the methods, with memos of at most `most` bytes

module _ (most : ℕ) where
  -- finish after a run of calls from a fresh writer over the buffer s
  abbrev pub finish_after : List Call → List ℕ → Turn
  finish_after l s = Steps.finish (avm most) (calls most l Steps.fresh s).0 (calls most l Steps.fresh s).1

  -- for every run of calls, whichever of them are refused
  pub record MethodsFinish : Type 0 where
    pub is-accepted : (l : List Call) → AllTyped l → (s : List ℕ) (n : ℕ) → (finish_after l s).step.answer ≡ Ok n
        → accepted (avm most) (take n (finish_after l s).buffer) ≡ true
    pub refused-by : (l : List Call) → AllTyped l → (s : List ℕ) (e : Refusal) → (finish_after l s).step.answer ≡ Err e
        → (e.rule ≡ no_room) ⊎ (e.rule ≡ step_not_due)

  -- d is accepted, v is its reading, and the buffer s has room for d, whatever s holds
  pub record MethodsRoundTrip : Type 0 where
    pub calls-typed : (d : List ℕ) (v : Signed (avm most)) (n : ℕ) → Bytes d → check (avm most) d ≡ took v n → AllTyped (reading_calls most v.0)
    pub calls-done : (d : List ℕ) (v : Signed (avm most)) (n : ℕ) → Bytes d → check (avm most) d ≡ took v n → (s : List ℕ) → length d ≤ length s
        → AllCallsDone most (reading_calls most v.0) Steps.fresh s
    pub finish-done : (d : List ℕ) (v : Signed (avm most)) (n : ℕ) → Bytes d → check (avm most) d ≡ took v n → (s : List ℕ) → length d ≤ length s
        → (finish_after (reading_calls most v.0) s).step.answer ≡ Ok (length d)
    pub filled : (d : List ℕ) (v : Signed (avm most)) (n : ℕ) → Bytes d → check (avm most) d ≡ took v n → (s : List ℕ) → length d ≤ length s
        → put_all (AnySigned.slots_at (unsigned (avm most)) (wants (avm most)) d) (slot_at d)
        (take (length d) (finish_after (reading_calls most v.0) s).buffer) ≡ d

  -- a call's answer: its number, and its place
  abbrev pub number_of : Call → Writer → List ℕ → ℕ
  number_of c w s = written_number (call most c w s).step.answer

  abbrev pub place_of : Call → Writer → List ℕ → ℕ
  place_of c w s = written_place (call most c w s).step.answer

  -- for any call, any state and any buffer
  pub record MethodsOwe : Type 0 where
    pub number : (c : Call) → Typed c → (w : Writer) (s : List ℕ) → OneOf (number_of c w s) (call_numbers c)
    -- 16 where the step is not due, and nowhere else
    pub not-due : (c : Call) (w : Writer) (s : List ℕ) → (number_of c w s ≡ rule_number step_not_due) ↔ (is_due c w ≡ false)
    -- "14, after 16 and before the rules, where the buffer is shorter than the bytes written"
    pub short-buffer : (c : Call) (w : Writer) (s : List ℕ) → length s < w.at → number_of c w s ≡ rule_number (pick (is_due c w) no_room step_not_due)
    -- a refusal changes neither state nor buffer, and its place is 0
    pub refused-state : (c : Call) (w : Writer) (s : List ℕ) → (number_of c w s ≡ 0 → ⊥) → (call most c w s).step.next ≡ w
    pub refused-buffer : (c : Call) (w : Writer) (s : List ℕ) → (number_of c w s ≡ 0 → ⊥) → (call most c w s).buffer ≡ s
    pub refused-place : (c : Call) (w : Writer) (s : List ℕ) → (number_of c w s ≡ 0 → ⊥) → place_of c w s ≡ 0
    -- a call that is done reports the bytes written so far
    pub done-place : (c : Call) (w : Writer) (s : List ℕ) → number_of c w s ≡ 0 → place_of c w s ≡ (call most c w s).step.next.at
    -- the buffer keeps its length, whether the call is refused or done
    pub length-kept : (c : Call) (w : Writer) (s : List ℕ) → length (call most c w s).buffer ≡ length s
