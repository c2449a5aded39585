-- Each number in a call's list occurs, as the computed answer of some call. Assumes nothing.
use Rattle.std.specs.Prelude.{Ok, Result}
use Rattle.wire.specs.declared.Refusal.{Refusal}
use Prim.Native.Nat.{ℕ, zero, suc, ◌<◌, ◌^◌}
use mathlib.Core.Path.{◌≡◌, refl, sym, ap, ◌∙◌, subst}
use mathlib.Core.Logic.{⊎_elim}
use mathlib.Core.Bool.{Bool, true, false, ◌&&◌, false≢true}
use mathlib.Core.List.{List, [], ◌∷◌, ◌++◌}
use native.Mathlib.Omega.{arith}
use lib.ListN.{length, replicate, length-replicate}
use lib.Dec.{ltb, leb-zero}
use borrow.Author.Tests.{ltb-true, lt-leb}
use Rattle.wire.specs.Bytes.{Bytes, pick, value, digits, below}
use Rattle.wire.specs.declared.Rule.{Rule}
use Rattle.wire.specs.Numbers.{rule_number, rule_of, bad_length}
use Rattle.wire.specs.Format.{Format}
use Rattle.wire.specs.Fields.{blob, integer, constant}
use Rattle.wire.specs.Sequence.{tag, items}
use Rattle.wire.specs.Parsers.{list_parse, list_write, blob_parse}
use Rattle.wire.specs.Orders.{OneOf}
use Rattle.string.specs.Strings as Strings
use Rattle.string.specs.Strings.{string, text, denomination}
use Rattle.string.specs.Characters.{unprintable}
use Rattle.owners.specs.Owners.{owners}
use Rattle.element.specs.Outputs as Outputs
use Rattle.element.specs.Outputs.{transfer_body, transferable_output}
use Rattle.element.specs.Inputs.{key, spend, input_after}
use Rattle.element.specs.Operations as Operations
use Rattle.element.specs.Operations.{terms, action, fx_id, state_outputs, initial_state_after}
use Rattle.transaction.specs.Credentials.{credentials}
use Rattle.transaction.specs.Form.{at_least, form}
use Rattle.transaction.specs.Family.{head, unsigned, wants}
use Rattle.writer_rules.specs.Given.{Given, given, addresses_of}
use Rattle.writer_rules.specs.Judged.{refused_by, judged}
use Rattle.writer_rules.specs.code.Judged.{on_allowed}
use Rattle.writer_rules.proofs.Verdicts.{both_true, judged-on}
use Rattle.writer_rules.proofs.FieldLaws.{string-write, string-judged}
use Rattle.writer_buffer.specs.Stores.{room_for}
use Rattle.writer_buffer.specs.Closing.{closing, closable}
use Rattle.writer.specs.declared.Writer.{Writer}
use Rattle.writer.specs.Steps.{written_number, answered, prev, put_field_at, put_element_at, close_at, finish_at, put_field, put_element, close, finish}
use Rattle.writer.specs.Steps as Steps
use Rattle.writer_theorems.specs.Calls as C
use Rattle.writer_theorems.specs.Calls.{Call, Words, Typed, call_numbers, number_of}
use Rattle.writer_theorems.specs.Occurring.{Method, start, output, input, operation, state, memo, name, symbol, chain, method_of, Held, Occurs}
use Rattle.writer_theorems.specs.Occurring.{WriterNumbersOccur}
use Rattle.writer_theorems.specs.Occurring as M

-- ---- the arguments of the calls

-- each element is a byte, as a test
abbrev pub each_byte : List ℕ → Bool
each_byte [] = true
each_byte (x ∷ s) = pick (ltb x 256) (each_byte s) false

pub bytes_of : (s : List ℕ) → each_byte s ≡ true → Bytes s
bytes_of [] h = tt
bytes_of (x ∷ s) h = turn (ltb x 256) refl h (bytes_of s)
  where
    turn : (b : Bool) → ltb x 256 ≡ b → pick b (each_byte s) false ≡ true → (each_byte s ≡ true → Bytes s) → (x < 256) × Bytes s
    turn true p h on = (ltb-true x 256 p, on h)
    turn false p h on = absurd (false≢true h)

-- the state fits the types of the code, as a test
abbrev fits : Writer → Bool
fits w =
    ltb w.type_id (2 ^ 32) && (ltb w.phase (2 ^ 32) && (ltb w.count (2 ^ 32)
    && (ltb w.at (2 ^ 64) && (ltb w.list (2 ^ 64) && ltb w.last (2 ^ 64)))))

held_of : (w : Writer) → fits w ≡ true → Held w
held_of w h =
    let (type, h₁) = both_true (ltb w.type_id (2 ^ 32)) _ h in
    let (phase, h₂) = both_true (ltb w.phase (2 ^ 32)) _ h₁ in
    let (count, h₃) = both_true (ltb w.count (2 ^ 32)) _ h₂ in
    let (at, h₄) = both_true (ltb w.at (2 ^ 64)) _ h₃ in
    let (list, last) = both_true (ltb w.list (2 ^ 64)) (ltb w.last (2 ^ 64)) h₄ in
    record {
      type = ltb-true w.type_id (2 ^ 32) type;
      phase = ltb-true w.phase (2 ^ 32) phase;
      count = ltb-true w.count (2 ^ 32) count;
      at = ltb-true w.at (2 ^ 64) at;
      list = ltb-true w.list (2 ^ 64) list;
      last = ltb-true w.last (2 ^ 64) last;
    }

abbrev pub zeros : ℕ → List ℕ
zeros n = replicate n 0

bytes-zeros : (n : ℕ) → Bytes (zeros n)
bytes-zeros zero = tt
bytes-zeros (suc n) = (omega arith, bytes-zeros n)

abbrev pub word : ℕ → List ℕ
word n = 0 ∷ 0 ∷ 0 ∷ n ∷ []

-- n bytes are written, and the open list's count is in the first four
abbrev at : ℕ → ℕ → ℕ → Writer
at type phase n = record { type_id = type; phase = phase; at = n; list = 0; count = 0; last = 0 }

-- the test on state and buffer together
abbrev holds : Writer → List ℕ → Bool
holds w s = fits w && each_byte s

-- an operation up to its indices: asset id, no pairs, type 13
abbrev transfer : List ℕ
transfer = zeros 36 ++ word 13

abbrev space : List ℕ
space = 32 ∷ []

-- a transaction up to its first output's amount
abbrev pub paid : List ℕ
paid = zeros 42 ++ word 1 ++ zeros 32 ++ word 7

-- a transaction of that type with no outputs, no inputs and no memo, up to the segments of its own
abbrev pub typed : ℕ → List ℕ
typed type = zeros 2 ++ word type ++ zeros 48

-- numbers, each with a proof of P
module _ (P : ℕ → Type 0) where
  abbrev numbers : List ((n : ℕ) × P n) → List ℕ
  numbers [] = []
  numbers ((n, p) ∷ l) = n ∷ numbers l

  pub one-occurs : (l : List ((n : ℕ) × P n)) (n : ℕ) → OneOf n (numbers l) → P n
  one-occurs [] n h = absurd h
  one-occurs ((k, p) ∷ l) n h = ⊎_elim (λ e. subst P (sym e) p) (one-occurs l n) h

-- what a format refuses is refused whatever is judged after it
refused-number : {A : Type 0} (F : Format A) (g : Given) (v : Result (Unit {0}) Refusal) (x : Rule) → judged F g (Ok tt) ≡ refused_by x
    → (w : Writer) (s : List ℕ) (w' : Writer) (s' : List ℕ) → written_number (answered (judged F g v) w s w' s').step.answer ≡ rule_number x
unfolding answered
refused-number F g v x e w s w' s' =
    ap (λ (u : Result (Unit {0}) Refusal). written_number (answered u w s w' s').step.answer) (judged-on F g v
    ∙ ap (λ (u : Result (Unit {0}) Refusal). on_allowed u v) e)

-- ---- the calls, with memos of at most `most` bytes

module _ (most : ℕ) where
  -- a number, with a proof that it occurs
  abbrev Case : Method → Type 0
  Case m = (n : ℕ) × Occurs most m n

  abbrev occurs : (c : Call) → Typed c → (w : Writer) (s : List ℕ) → holds w s ≡ true → (n : ℕ) → number_of most c w s ≡ n → Case (method_of c)
  occurs c typed w s h n e =
      let (f, b) = both_true (fits w) (each_byte s) h in
      (n, record { call = c; of = refl; typed = typed; before = w; held = held_of w f; buffer = s; bytes = bytes_of s b; answers = e })

  -- ---- start

  abbrev starts : (type : ℕ) → type < 256 ^ 4 → (w : Writer) (s : List ℕ) → holds w s ≡ true → (n : ℕ)
      → number_of most (C.start type 0 (zeros 32)) w s ≡ n → Case start
  starts type h w s = occurs (C.start type 0 (zeros 32)) (h, omega arith, (refl, bytes_of (zeros 32) refl)) w s

  unfoldable start-cases : List (Case start)
  unfolding Steps.start judged answered room_for digits value blob_parse integer head constant tag
  start-cases =
      starts 0 (omega arith) (at 0 0 0) (zeros 46) refl 0 refl
      ∷ starts 5 (omega arith) (at 0 0 0) [] refl 4 refl
      ∷ starts 0 (omega arith) (at 0 0 0) [] refl 14 refl
      ∷ starts 0 (omega arith) (at 0 1 0) [] refl 16 refl
      ∷ []

  -- ---- output

  abbrev gives : (amount threshold : ℕ) (addresses : List ℕ) → amount < 256 ^ 8 → threshold < 256 ^ 4 → each_byte addresses ≡ true
      → (w : Writer) (s : List ℕ) → holds w s ≡ true → (n : ℕ) → number_of most (C.output (zeros 32) amount 0 threshold addresses) w s ≡ n → Case output
  gives amount threshold addresses h k b w s =
      occurs (C.output (zeros 32) amount 0 threshold addresses) ((refl, bytes_of (zeros 32) refl), h, omega arith, k, bytes_of addresses b) w s

  unfoldable output-cases : List (Case output)
  unfolding put_element put_element_at judged answered prev room_for addresses_of value digits below blob blob_parse integer list_parse list_write items
      transferable_output transfer_body owners
  output-cases =
      gives 1 0 [] (omega arith) (omega arith) refl (at 0 1 4) (zeros 100) refl 0 refl
      ∷ gives 1 0 (zeros 1) (omega arith) (omega arith) refl (at 0 1 4) (zeros 4) refl 2 refl
      ∷ gives 0 0 [] (omega arith) (omega arith) refl (at 0 1 4) (zeros 4) refl 5 refl
      ∷ gives 1 1 (zeros 40) (omega arith) (omega arith) refl (at 0 1 4) (zeros 4) refl 6 refl
      ∷ gives 1 1 [] (omega arith) (omega arith) refl (at 0 1 4) (zeros 4) refl 7 refl
      ∷ gives 1 0 [] (omega arith) (omega arith) refl (at 0 1 4) (zeros 4) refl 14 refl
      ∷ gives 1 0 [] (omega arith) (omega arith) refl (at 0 0 4) (zeros 4) refl 16 refl
      ∷ []

  -- ---- input

  abbrev spends : (amount : ℕ) (indices : List ℕ) → amount < 256 ^ 8 → Words indices → (w : Writer) (s : List ℕ) → holds w s ≡ true
      → (n : ℕ) → number_of most (C.input (zeros 32) 0 (zeros 32) amount indices) w s ≡ n → Case input
  spends amount indices h k w s =
      occurs (C.input (zeros 32) 0 (zeros 32) amount indices) ((refl, bytes_of (zeros 32) refl), omega arith, (refl, bytes_of (zeros 32) refl), h, k) w s

  unfoldable input-cases : List (Case input)
  unfolding put_element put_element_at judged answered prev room_for value digits below blob blob_parse integer list_parse list_write items input_after key
      spend
      constant
  input-cases =
      spends 1 [] (omega arith) tt (at 0 2 4) (zeros 100) refl 0 refl
      ∷ spends 0 [] (omega arith) tt (at 0 2 4) (zeros 4) refl 5 refl
      ∷ spends 1 (0 ∷ 0 ∷ []) (omega arith) (omega arith, (omega arith, tt)) (at 0 2 4) (zeros 4) refl 6 refl
      ∷ spends 1 [] (omega arith) tt (at 0 2 4) (zeros 4) refl 14 refl
      ∷ spends 1 [] (omega arith) tt (at 0 0 4) (zeros 4) refl 16 refl
      ∷ []

  -- ---- operation

  abbrev operates : (b : List ℕ) → each_byte b ≡ true → (w : Writer) (s : List ℕ) → holds w s ≡ true → (n : ℕ)
      → number_of most (C.operation b) w s ≡ n → Case operation
  operates b h w s = occurs (C.operation b) (bytes_of b h) w s

  unfoldable operation-cases : List (Case operation)
  unfolding put_element put_element_at judged answered prev room_for value digits below blob blob_parse integer list_parse items
      Operations.operation key action tag terms string owners
  operation-cases =
      operates (transfer ++ zeros 28) refl (at 2 4 4) (zeros 100) refl 0 refl
      ∷ operates [] refl (at 2 4 4) (zeros 4) refl 2 refl
      ∷ operates (zeros 40) refl (at 2 4 4) (zeros 4) refl 4 refl
      ∷ operates (transfer ++ word 2 ++ zeros 8) refl (at 2 4 4) (zeros 4) refl 6 refl
      ∷ operates (transfer ++ zeros 20 ++ word 1 ++ word 0) refl (at 2 4 4) (zeros 4) refl 7 refl
      ∷ operates (transfer ++ zeros 8 ++ (0 ∷ 0 ∷ 4 ∷ 1 ∷ [])) refl (at 2 4 4) (zeros 4) refl 8 refl
      ∷ operates (transfer ++ zeros 29) refl (at 2 4 4) (zeros 4) refl 13 refl
      ∷ operates (transfer ++ zeros 28) refl (at 2 4 4) (zeros 4) refl 14 refl
      ∷ operates [] refl (at 2 0 4) (zeros 4) refl 16 refl
      ∷ []

  -- ---- state

  abbrev states : (b : List ℕ) → each_byte b ≡ true → (w : Writer) (s : List ℕ) → holds w s ≡ true → (n : ℕ) → number_of most (C.state b) w s ≡ n → Case state
  states b h w s = occurs (C.state b) (bytes_of b h) w s

  unfoldable state-cases : List (Case state)
  unfolding put_element put_element_at judged answered prev room_for value digits below blob_parse integer list_parse items initial_state_after fx_id
      state_outputs
      Outputs.output transfer_body string owners
  state-cases =
      states (zeros 8) refl (at 1 7 4) (zeros 100) refl 0 refl
      ∷ states [] refl (at 1 7 4) (zeros 4) refl 2 refl
      ∷ states (word 2) refl (at 1 7 4) (zeros 4) refl 4 refl
      ∷ states (word 0 ++ word 1 ++ word 7 ++ zeros 8) refl (at 1 7 4) (zeros 4) refl 5 refl
      ∷ states (word 0 ++ word 1 ++ word 6 ++ zeros 8 ++ word 1 ++ word 2 ++ zeros 40) refl (at 1 7 4) (zeros 4) refl 6 refl
      ∷ states (word 0 ++ word 1 ++ word 6 ++ zeros 8 ++ word 1 ++ word 0) refl (at 1 7 4) (zeros 4) refl 7 refl
      ∷ states (word 1 ++ word 1 ++ word 11 ++ word 0 ++ (0 ∷ 0 ∷ 4 ∷ 1 ∷ [])) refl (at 1 7 4) (zeros 4) refl 8 refl
      ∷ states (zeros 9) refl (at 1 7 4) (zeros 4) refl 13 refl
      ∷ states (zeros 8) refl (at 1 7 4) (zeros 4) refl 14 refl
      ∷ states [] refl (at 1 0 4) (zeros 4) refl 16 refl
      ∷ []

  -- ---- the other fields

  -- the shortest memo that is too long
  abbrev long : List ℕ
  long = zeros (suc most)

  long-refused : number_of most (C.memo long) (at 0 3 0) [] ≡ 8
  unfolding put_field put_field_at answered
  long-refused =
      let ys : List ℕ = (Strings.memo most).write long in
      let over : judged (Strings.memo most) (given ys) (Ok tt) ≡ refused_by (rule_of bad_length) =
      ap (λ (z : List ℕ). judged (Strings.memo most) (given z) (Ok tt)) (string-write 4 most long) ∙ string-judged most long
      ∙ rw (lt-leb (length long) most (omega (arith, length-replicate {A = ℕ} (suc most) 0))) in
      refused-number (Strings.memo most) (given ys) _ (rule_of bad_length) over (at 0 3 0) [] _ _

  unfoldable memo-cases : List (Case memo)
  unfolding put_field put_field_at judged answered room_for value digits blob_parse integer string
  memo-cases =
      occurs (C.memo []) tt (at 0 3 0) (zeros 4) refl 0 (rw (leb-zero most))
      ∷ occurs (C.memo long) (bytes-zeros (suc most)) (at 0 3 0) [] refl 8 long-refused
      ∷ occurs (C.memo []) tt (at 0 3 0) [] refl 14 (rw (leb-zero most))
      ∷ occurs (C.memo []) tt (at 0 0 0) [] refl 16 refl
      ∷ []

  unfoldable name-cases : List (Case name)
  unfolding put_field put_field_at judged answered room_for value digits blob_parse integer text unprintable
  name-cases =
      occurs (C.name space) (omega arith, tt) (at 1 4 0) (zeros 3) refl 0 refl
      ∷ occurs (C.name []) tt (at 1 4 0) [] refl 8 refl
      ∷ occurs (C.name (zeros 1)) (omega arith, tt) (at 1 4 0) [] refl 9 refl
      ∷ occurs (C.name space) (omega arith, tt) (at 1 4 0) [] refl 14 refl
      ∷ occurs (C.name space) (omega arith, tt) (at 1 0 0) [] refl 16 refl
      ∷ []

  unfoldable symbol-cases : List (Case symbol)
  unfolding put_field put_field_at judged answered room_for value digits blob_parse integer text unprintable
  symbol-cases =
      occurs (C.symbol space) (omega arith, tt) (at 1 5 0) (zeros 3) refl 0 refl
      ∷ occurs (C.symbol []) tt (at 1 5 0) [] refl 8 refl
      ∷ occurs (C.symbol (zeros 1)) (omega arith, tt) (at 1 5 0) [] refl 9 refl
      ∷ occurs (C.symbol space) (omega arith, tt) (at 1 5 0) [] refl 14 refl
      ∷ occurs (C.symbol space) (omega arith, tt) (at 1 0 0) [] refl 16 refl
      ∷ []

  unfoldable denomination-cases : List (Case M.denomination)
  unfolding put_field put_field_at judged answered room_for value digits blob_parse integer denomination
  denomination-cases =
      occurs (C.denomination 0) (omega arith) (at 1 6 0) (zeros 5) refl 0 refl
      ∷ occurs (C.denomination 33) (omega arith) (at 1 6 0) [] refl 10 refl
      ∷ occurs (C.denomination 0) (omega arith) (at 1 6 0) [] refl 14 refl
      ∷ occurs (C.denomination 0) (omega arith) (at 1 0 0) [] refl 16 refl
      ∷ []

  abbrev chains : (w : Writer) (s : List ℕ) → holds w s ≡ true → (n : ℕ) → number_of most (C.chain (zeros 32)) w s ≡ n → Case chain
  chains w s = occurs (C.chain (zeros 32)) (refl, bytes_of (zeros 32) refl) w s

  unfoldable chain-cases : List (Case chain)
  unfolding put_field put_field_at judged answered room_for digits blob blob_parse
  chain-cases =
      chains (at 3 4 0) (zeros 36) refl 0 refl
      ∷ chains (at 3 4 0) [] refl 14 refl
      ∷ chains (at 3 0 0) [] refl 16 refl
      ∷ []

  -- ---- close: of the base outputs, and of operations, which must not be empty

  unfoldable close-cases : List (Case M.close)
  unfolding close close_at answered room_for digits
  close-cases =
      occurs C.close tt (at 0 1 0) (zeros 4) refl 0 refl
      ∷ occurs C.close tt (at 2 4 0) [] refl 11 refl
      ∷ occurs C.close tt (at 0 1 0) [] refl 14 refl
      ∷ occurs C.close tt (at 0 0 0) [] refl 16 refl
      ∷ []

  -- ---- finish, over bytes that no sequence of calls leaves

  abbrev ends : (s : List ℕ) → holds (at 0 4 (length s)) s ≡ true → (n : ℕ) → number_of most C.finish (at 0 4 (length s)) s ≡ n → Case M.finish
  ends s h n = occurs C.finish tt (at 0 4 (length s)) s h n

  unfoldable finish-cases : List (Case M.finish)
  unfolding finish finish_at closable closing judged answered room_for value digits below blob_parse integer list_parse items unsigned head constant tag form
      at_least
      transferable_output transfer_body owners string text unprintable denomination credentials wants
  finish-cases =
      occurs C.finish tt (at 0 4 54) (zeros 58) refl 0 (rw (leb-zero most))
      ∷ ends [] refl 2 refl
      ∷ ends (0 ∷ 1 ∷ []) refl 3 refl
      ∷ ends (zeros 2 ++ word 9) refl 4 refl
      ∷ ends (paid ++ zeros 8) refl 5 refl
      ∷ ends (paid ++ zeros 4 ++ word 1 ++ zeros 8 ++ word 1 ++ word 2 ++ zeros 40) refl 6 refl
      ∷ ends (paid ++ zeros 4 ++ word 1 ++ zeros 8 ++ word 1 ++ word 0) refl 7 refl
      ∷ ends (typed 1 ++ zeros 2) refl 8 (rw (leb-zero most))
      ∷ ends (typed 1 ++ (0 ∷ 1 ∷ 0 ∷ [])) refl 9 (rw (leb-zero most))
      ∷ ends (typed 1 ++ (0 ∷ 1 ∷ 32 ∷ 0 ∷ 1 ∷ 32 ∷ 33 ∷ [])) refl 10 (rw (leb-zero most))
      ∷ ends (typed 2 ++ word 0) refl 11 (rw (leb-zero most))
      ∷ ends (zeros 55) refl 13 (rw (leb-zero most))
      ∷ ends (zeros 54) refl 14 (rw (leb-zero most))
      ∷ occurs C.finish tt (at 0 0 0) [] refl 16 refl
      ∷ []

  each : (c : Call) (n : ℕ) → OneOf n (call_numbers c) → Occurs most (method_of c) n
  unfolding start-cases output-cases input-cases operation-cases state-cases memo-cases name-cases symbol-cases chain-cases
      denomination-cases close-cases finish-cases
  each (C.start type network id) = one-occurs (Occurs most start) start-cases
  each (C.output asset amount locktime threshold addresses) = one-occurs (Occurs most output) output-cases
  each (C.input txid index asset amount indices) = one-occurs (Occurs most input) input-cases
  each (C.operation b) = one-occurs (Occurs most operation) operation-cases
  each (C.state b) = one-occurs (Occurs most state) state-cases
  each (C.memo b) = one-occurs (Occurs most memo) memo-cases
  each (C.name b) = one-occurs (Occurs most name) name-cases
  each (C.symbol b) = one-occurs (Occurs most symbol) symbol-cases
  each (C.chain c) = one-occurs (Occurs most chain) chain-cases
  each (C.denomination n) = one-occurs (Occurs most M.denomination) denomination-cases
  each C.close = one-occurs (Occurs most M.close) close-cases
  each C.finish = one-occurs (Occurs most M.finish) finish-cases

  pub writer-numbers-occur : WriterNumbersOccur most
  writer-numbers-occur = record { each = each }
