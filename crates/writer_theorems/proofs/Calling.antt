-- Calls of the methods are steps over what the code can be given. Assumes nothing.
use Rattle.std.specs.Prelude.{Ok}
use Prim.Native.Nat.{ℕ, ◌*◌, ◌/◌, ◌%◌, ◌≤◌, ◌<◌, ◌^◌}
use mathlib.Core.Path.{◌≡◌, refl, sym, ap, ap₂, ◌∙◌, subst}
use mathlib.Core.Bool.{Bool, true, false≢true}
use mathlib.Core.List.{List, [], ◌∷◌, ◌++◌, map}
use native.Mathlib.Omega.{arith}
use native.Mathlib.Nat.{div-le_self, mul-mod_right, mul-div_cancel_left}
use lib.ListN.{length, take, length-append}
use lib.Seq.{take_at, drop_at}
use borrow.Author.Tests.{eqb-true, eq-eqb}
use Rattle.wire.specs.Bytes.{Bytes, digits}
use Rattle.wire.specs.laws.Bytes.{length_digits, bytes-append, bytes-digits}
use Rattle.wire.specs.Format.{took}
use Rattle.wire.specs.Fields.{integer, blob, constant}
use Rattle.wire.specs.Sequence.{and_then, guard, guard_at, named, tag, items}
use Rattle.wire.specs.Series.{left, above, not_below, count_prefixed}
use Rattle.wire.specs.Parsers.{Chain}
use Rattle.owners.specs.Owners.{Owners, owners}
use Rattle.element.specs.Outputs.{amount, Output, secp_mint, secp_transfer, nft_mint, nft_transfer}
use Rattle.element.specs.Outputs.{transfer_body, output, TransferableOutput, transferable_output}
use Rattle.string.specs.Strings.{denomination}
use Rattle.element.specs.Inputs.{key, indices, spend, Input, input_after, input}
use Rattle.element.specs.Operations as Operations
use Rattle.element.specs.Operations.{InitialState, initial_state_after, initial_state}
use Rattle.string.specs.Strings as Strings
use Rattle.transaction.specs.Slots.{slot_at, put_all}
use Rattle.transaction.specs.Credentials.{layout, blanks}
use Rattle.transaction.specs.Signed as AnySigned
use Rattle.transaction.specs.Signed.{most_bytes}
use Rattle.transaction.specs.Plan.{elements_of, Plan, shut, end, field, many, own_plan, type_id}
use Rattle.transaction.specs.Form.{list_of, Value, form}
use Rattle.transaction.specs.Avm.{avm}
use Rattle.transaction.specs.Family.{Family, Head, head, Signed, Unsigned, unsigned, wants, check, accepted}
use Rattle.transaction.specs.declared.TransactionType.{TransactionType}
use Rattle.transaction.specs.declared.TransactionType.TheVariants as K
use Rattle.transaction.specs.declared.FieldName.TheVariants as F
use Rattle.transaction.specs.declared.ListName.{ListName}
use Rattle.transaction.specs.declared.ListName.TheVariants as L
use Rattle.transaction.proofs.Signed.{parts-took}
use Rattle.writer_rules.specs.Given.{Given, given, addresses_of, output_given, input_given}
use Rattle.writer_rules.specs.code.Elements.{output_front, output_head, input_head, integers_bytes}
use Rattle.writer_rules.proofs.FieldLaws.{string-write, text-write, denomination-write}
use Rattle.writer_transfers.proofs.Outputs.{built-written}
use Rattle.writer_rules.proofs.Integers.{length-integers}
use Rattle.writer_transfers.proofs.Inputs.{written-input}
use Rattle.plan.specs.Due.{list_code}
use Rattle.writer.specs.declared.Writer.{Writer}
use Rattle.writer.specs.Steps.{fresh, Turn, put_element_at, due_for, put_element, finish}
use Rattle.writer_theorems.specs.Runs.{Act, starts, puts_field, puts_element, closes, finishes, Fair, AllFair, act, run, AllDone, element_acts}
use Rattle.writer_theorems.specs.Runs.{plan_acts, spelled}
use Rattle.writer_theorems.specs.Claims.{finish_after}
use Rattle.writer_theorems.specs.Calls as C
use Rattle.writer_theorems.specs.Calls.{Call, Words, Id, Typed, AllTyped, call, calls}
use Rattle.writer_theorems.proofs.Keeping.{list-inv}
use Rattle.writer_theorems.proofs.Finishing.{finished-is-accepted}
use Rattle.writer_theorems.proofs.Theorems.{avm-round-trip}

-- ---- a call is a step

module _ (most : ℕ) where
  abbrev act_of : Call → Act
  act_of (C.start type network id) = starts type network id
  act_of (C.output asset amount locktime threshold addresses) = puts_element L.Output (output_given asset amount locktime threshold addresses)
  act_of (C.input txid index asset amount indices) = puts_element L.Input (input_given txid index asset amount indices)
  act_of (C.operation b) = puts_element L.Operation (given b)
  act_of (C.state b) = puts_element L.State (given b)
  act_of (C.memo b) = puts_field F.Memo (given ((Strings.memo most).write b))
  act_of (C.name b) = puts_field F.Name (given ((Strings.name).write b))
  act_of (C.symbol b) = puts_field F.Symbol (given ((Strings.symbol).write b))
  act_of (C.chain c) = puts_field F.Chain (given ((blob 32).write c))
  act_of (C.denomination n) = puts_field F.Denomination (given (denomination.write n))
  act_of C.close = closes
  act_of C.finish = finishes

  -- call and step agree on every state and buffer
  abbrev Does : Call → Act → Type 0
  Does c a = (w : Writer) (s : List ℕ) → call most c w s ≡ act (avm most) a w s

  call-is : (c : Call) → Does c (act_of c)
  call-is (C.start type network id) w s = refl
  call-is (C.output asset amount locktime threshold addresses) w s = refl
  call-is (C.input txid index asset amount indices) w s = refl
  call-is (C.operation b) w s = refl
  call-is (C.state b) w s = refl
  call-is (C.memo b) w s = refl
  call-is (C.name b) w s = refl
  call-is (C.symbol b) w s = refl
  call-is (C.chain c) w s = refl
  call-is (C.denomination n) w s = refl
  call-is C.close w s = refl
  call-is C.finish w s = refl

  -- the calls are the steps, one by one
  abbrev Do : List Call → List Act → Type 0
  Do [] [] = Unit {0}
  Do [] (a ∷ m) = ⊥
  Do (c ∷ l) [] = ⊥
  Do (c ∷ l) (a ∷ m) = Does c a × Do l m

  do-own : (l : List Call) → Do l (map act_of l)
  do-own [] = tt
  do-own (c ∷ l) = (call-is c, do-own l)

  do-run : (l : List Call) (m : List Act) → Do l m → (w : Writer) (s : List ℕ) → calls most l w s ≡ run (avm most) m w s
  unfolding calls run
  do-run [] [] h w s = refl
  do-run [] (a ∷ m) h w s = absurd h
  do-run (c ∷ l) [] h w s = absurd h
  do-run (c ∷ l) (a ∷ m) (h, hs) w s =
      let t : Turn = act (avm most) a w s in
      ap (λ (t : Turn). calls most l t.step.next t.buffer) (h w s) ∙ do-run l m hs t.step.next t.buffer

  do-done : (l : List Call) (m : List Act) → Do l m → (w : Writer) (s : List ℕ) → AllDone (avm most) m w s → C.AllCallsDone most l w s
  unfolding AllDone C.AllCallsDone
  do-done [] [] h w s d = tt
  do-done [] (a ∷ m) h w s d = absurd h
  do-done (c ∷ l) [] h w s d = absurd h
  do-done (c ∷ l) (a ∷ m) (h, hs) w s (d, ds) =
      let t : Turn = act (avm most) a w s in
      subst (λ (t : Turn). (t.step.answer ≡ Ok t.step.next.at) × C.AllCallsDone most l t.step.next t.buffer) (sym (h w s))
      (d, do-done l m hs t.step.next t.buffer ds)

  do-finish : (l : List Call) (m : List Act) → Do l m → (s : List ℕ) → C.finish_after most l s ≡ finish_after (avm most) m s
  do-finish l m h s = ap (λ (x : Writer × List ℕ). finish (avm most) x.0 x.1) (do-run l m h fresh s)

-- ---- the arguments of the calls are bytes

bytes-integers : (l : List ℕ) → Words l → Bytes (integers_bytes l)
unfolding integers_bytes
bytes-integers [] h = tt
bytes-integers (n ∷ l) (h, hs) = bytes-append (digits 4 n) (integers_bytes l) (bytes-digits 4 n h) (bytes-integers l hs)

-- a count and the bytes that it counts are bytes
bytes_counted : (w n : ℕ) (b : List ℕ) → n < 256 ^ w → Bytes b → Bytes (digits w n ++ b)
bytes_counted w n b h k = bytes-append (digits w n) b (bytes-digits w n h) k

-- if the addresses are complete, an output's bytes are its head and the addresses
bytes-output : (asset : List ℕ) (amount locktime threshold : ℕ) (addresses : List ℕ) → Typed (C.output asset amount locktime threshold addresses)
    → length addresses % 20 ≡ 0 → length (output_given asset amount locktime threshold addresses).bytes ≤ most_bytes
    → Bytes (output_given asset amount locktime threshold addresses).bytes
unfolding output_head output_front
bytes-output asset amount locktime threshold addresses ((l, ba), n, t, h, bs) w k =
    let e = built-written asset amount locktime threshold addresses w in
    let c : ℕ = length addresses / 20 in
    let few : c < 256 ^ 4 =
    omega (arith, ap length e, length-append (output_head asset amount locktime threshold c) addresses, div-le_self (length addresses) 20) in
    subst Bytes e
    (bytes-append (asset ++ digits 4 7 ++ digits 8 amount ++ digits 8 locktime ++ digits 4 threshold ++ digits 4 c) addresses
    (bytes-append (asset ++ digits 4 7 ++ digits 8 amount ++ digits 8 locktime ++ digits 4 threshold) (digits 4 c)
    (bytes-append (asset ++ digits 4 7 ++ digits 8 amount ++ digits 8 locktime) (digits 4 threshold)
    (bytes-append (asset ++ digits 4 7 ++ digits 8 amount) (digits 8 locktime)
    (bytes-append (asset ++ digits 4 7) (digits 8 amount) (bytes-append asset (digits 4 7) ba (bytes-digits 4 7 (omega arith))) (bytes-digits 8 amount n))
    (bytes-digits 8 locktime t)) (bytes-digits 4 threshold h)) (bytes-digits 4 c few)) bs)

fair-call : (most : ℕ) (c : Call) → Typed c → Fair (act_of most c)
unfolding blob input_head
fair-call most (C.start type network id) (a, b, (l, bs)) = (a, b, l, bs)
fair-call most (C.output asset amount locktime threshold addresses) typed = λ w k.
    bytes-output asset amount locktime threshold addresses typed (eqb-true (length addresses % 20) 0 w) k
fair-call most (C.input txid index asset amount indices) ((l, bt), i, (m, ba), fits, ws) = λ w k.
    let e = written-input txid index asset amount indices in
    let n = length-append (input_head txid index asset amount (length indices)) (integers_bytes indices) in
    let few : length indices < 256 ^ 4 = omega (arith, ap length e, length-integers indices) in
    subst Bytes (sym e)
    (bytes-append (txid ++ digits 4 index ++ asset ++ digits 4 5 ++ digits 8 amount ++ digits 4 (length indices)) (integers_bytes indices)
    (bytes-append (txid ++ digits 4 index ++ asset ++ digits 4 5 ++ digits 8 amount) (digits 4 (length indices))
    (bytes-append (txid ++ digits 4 index ++ asset ++ digits 4 5) (digits 8 amount)
    (bytes-append (txid ++ digits 4 index ++ asset) (digits 4 5)
    (bytes-append (txid ++ digits 4 index) asset (bytes-append txid (digits 4 index) bt (bytes-digits 4 index i)) ba) (bytes-digits 4 5 (omega arith)))
    (bytes-digits 8 amount fits)) (bytes-digits 4 (length indices) few))
    (bytes-integers indices ws))
fair-call most (C.operation b) bs = λ w k. bs
fair-call most (C.state b) bs = λ w k. bs
fair-call most (C.memo b) bs = λ w k.
    let e = string-write 4 most b in
    subst Bytes (sym e) (bytes_counted 4 (length b) b (omega (arith, ap length e, length-append (digits 4 (length b)) b)) bs)
fair-call most (C.name b) bs = λ w k.
    let e = text-write 128 b in
    subst Bytes (sym e) (bytes_counted 2 (length b) b (omega (arith, ap length e, length-append (digits 2 (length b)) b, length_digits 2 (length b))) bs)
fair-call most (C.symbol b) bs = λ w k.
    let e = text-write 4 b in
    subst Bytes (sym e) (bytes_counted 2 (length b) b (omega (arith, ap length e, length-append (digits 2 (length b)) b, length_digits 2 (length b))) bs)
fair-call most (C.chain c) (l, bs) = λ w k. bs
fair-call most (C.denomination n) h = λ w k. subst Bytes (sym (denomination-write n)) (bytes_counted 1 n [] h tt)
fair-call most C.close h = tt
fair-call most C.finish h = tt

-- ---- the calls that write a reading are the steps that write it

-- each address has twenty bytes
abbrev Twenties : List (List ℕ) → Type 0
Twenties [] = Unit {0}
Twenties (a ∷ l) = (length a ≡ 20) × Twenties l

joined-long : (l : List (List ℕ)) → Twenties l → length (C.joined l) ≡ 20 * length l
unfolding C.joined
joined-long [] h = refl
joined-long (a ∷ l) (h, hs) = omega (arith, length-append a (C.joined l), joined-long l hs)

joined_back : (l : List (List ℕ)) → Twenties l → addresses_of (length l) (C.joined l) ≡ l
unfolding C.joined addresses_of
joined_back [] h = refl
joined_back (a ∷ l) (h, hs) =
    ap₂ (λ (x : List ℕ) (y : List (List ℕ)). x ∷ y) (take_at a (C.joined l) 20 h)
    (ap (addresses_of (length l)) (drop_at a (C.joined l) 20 h) ∙ joined_back l hs)

chain-twenties : (p : List ℕ) (l : List (List ℕ)) → Chain (above (blob 20)) (left (above (blob 20))) p l → Twenties l
unfolding guard blob
chain-twenties p [] h = tt
chain-twenties p (a ∷ l) (h, hs) = (h.0.0, chain-twenties a l hs)

owners-twenties : (o : Owners) → owners.Good o → Twenties o.addresses
unfolding owners named and_then guard items
owners-twenties o g = chain-twenties [] o.addresses g.1.1.1

output-own : (asset : List ℕ) (amount : ℕ) (o : Owners) → Twenties o.addresses
    → output_given asset amount o.locktime o.threshold (C.joined o.addresses)
    ≡ given (transferable_output.write record { asset = asset; output = (secp_transfer, (amount, o)) })
output-own asset amount o h =
    let l : List (List ℕ) = o.addresses in
    let long : length (C.joined l) ≡ 20 * length l = joined-long l h in
    let whole : length (C.joined l) % 20 ≡ 0 = ap (λ (n : ℕ). n % 20) long ∙ mul-mod_right 20 (length l) in
    let count : length (C.joined l) / 20 ≡ length l = ap (λ (n : ℕ). n / 20) long ∙ mul-div_cancel_left (length l) (omega arith) in
    ap₂ (λ (t : Bool) (m : List (List ℕ)).
    let p : Owners = record { locktime = o.locktime; threshold = o.threshold; addresses = m } in
    record { whole = t; bytes = transferable_output.write record { asset = asset; output = (secp_transfer, (amount, p)) } })
    (eq-eqb (length (C.joined l) % 20) 0 whole) (ap (λ (n : ℕ). addresses_of n (C.joined l)) count ∙ joined_back l h)

-- the steps that add an element to lists with the same code are the same
same_step : (F : Family) (l m : ListName) → list_code l ≡ list_code m → (w : Writer) (s : List ℕ) (g : Given) → put_element F w s l g ≡ put_element F w s m g
unfolding put_element put_element_at
same_step F l m e w s g = go (due_for F w)
  where
    go : (q : Plan) → put_element_at q w s l g ≡ put_element_at q w s m g
    go shut = refl
    go end = refl
    go (field f q) = refl
    go (many k least q) = rw e

module _ (most : ℕ) where
  of-type : (asset : List ℕ) (o : Output) → (output (secp_transfer ∷ [])).Good o
      → Does most (C.of_output asset o) (puts_element L.Output (given (transferable_output.write record { asset = asset; output = o })))
  unfolding output tag and_then transfer_body
  of-type asset (secp_mint, o) h = absurd (false≢true h.0.1)
  of-type asset (secp_transfer, (amount, o)) h = λ w s.
      ap (put_element (avm most) w s L.Output) (output-own asset amount o (owners-twenties o h.1.1))
  of-type asset (nft_mint, o) h = absurd (false≢true h.0.1)
  of-type asset (nft_transfer, o) h = absurd (false≢true h.0.1)

  -- an output of the base outputs or of the exported ones
  output-does : (l : ListName) → list_code L.Output ≡ list_code l → (p : List ℕ) (v : TransferableOutput) → (not_below transferable_output p).Good v
      → Does most (C.output_call v) (puts_element l (given ((not_below transferable_output p).write v)))
  unfolding guard transferable_output named and_then
  output-does l e p v g w s =
      of-type v.asset v.output g.0.1 w s ∙ same_step (avm most) L.Output l e w s (given ((not_below transferable_output p).write v))

  -- an input of the base inputs or of the imported ones
  input-does : (l : ListName) → list_code L.Input ≡ list_code l → (p : List ℕ) (v : Input) → (input p).Good v
      → Does most (C.input_call v) (puts_element l (given ((input p).write v)))
  unfolding input_after guard
  input-does l e p v g w s = same_step (avm most) L.Input l e w s (given ((input p).write v))

  state-does : (p : List ℕ) (v : InitialState) → (initial_state p).Good v
      → Does most (C.state_call v) (puts_element L.State (given ((initial_state p).write v)))
  unfolding initial_state_after guard
  state-does p v g w s = refl

  -- the calls for a list's elements are the steps for them
  module _ (l : ListName) (f : (elements_of l).Element → Call)
      (one : (p : List ℕ) (v : (elements_of l).Element) → ((elements_of l).element p).Good v
      → Does most (f v) (puts_element l (given (((elements_of l).element p).write v)))) where
    elements-do : (p : List ℕ) (vs : List (elements_of l).Element) → Chain (elements_of l).element (left (elements_of l).element) p vs
        → (more : List Call) (acts : List Act) → Do most more acts → Do most (map f vs ++ more) (element_acts l p vs ++ acts)
    unfolding element_acts
    elements-do p [] h more acts k = k
    elements-do p (v ∷ vs) (h, hs) more acts k = (one p v h, elements-do (((elements_of l).element p).write v) vs hs more acts k)

    list-do : (least : ℕ) (vs : List (elements_of l).Element) → (list_of l least).Good vs → (more : List Call) (acts : List Act) → Do most more acts
        → Do most (C.list_calls f vs more) (element_acts l [] vs ++ (closes ∷ acts))
    list-do least vs g more acts k =
        elements-do [] vs (list-inv (elements_of l) least vs g).0 (C.close ∷ more) (closes ∷ acts) (call-is most C.close, k)

  own-do : (k : TransactionType) (v : Value (own_plan k)) → (form most (own_plan k)).Good v → Do most (C.own_calls k v) (plan_acts most (own_plan k) v)
  unfolding form and_then plan_acts
  own-do K.Base v g = tt
  own-do K.CreateAsset (a, (b, (d, (l, e)))) (_, (_, (_, (g, _)))) =
      (call-is most (C.name a), (call-is most (C.symbol b), (call-is most (C.denomination d), list-do L.State C.state_call state-does 1 l g [] [] tt)))
  own-do K.Operation (l, e) (g, _) = list-do L.Operation C.operation_call (λ p v h w s. refl) 1 l g [] [] tt
  own-do K.Import (c, (l, e)) (_, (g, _)) = (call-is most (C.chain c), list-do L.Imported C.input_call (input-does L.Imported refl) 1 l g [] [] tt)
  own-do K.Export (c, (l, e)) (_, (g, _)) = (call-is most (C.chain c), list-do L.Exported C.output_call (output-does L.Exported refl) 1 l g [] [] tt)

  reading-do : (u : Unsigned (avm most)) → (unsigned (avm most)).Good u → Do most (C.reading_calls most u) (spelled (avm most) u)
  unfolding unsigned and_then form spelled plan_acts
  reading-do (h, (outs, (ins, (note, own)))) (_, (go, (gi, (_, gw)))) = (
    call-is most (C.start (type_id h.type) h.network h.chain),
    list-do L.Output C.output_call (output-does L.Output refl) 0 outs go _ _
        (list-do L.Input C.input_call (input-does L.Input refl) 0 ins gi _ _ (call-is most (C.memo note), own-do h.type own gw)),
  )

  -- ---- the claims about the methods

  all_fair : (l : List Call) → AllTyped l → AllFair (map (act_of most) l)
  all_fair [] h = tt
  all_fair (c ∷ l) (h, hs) = (fair-call most c h, all_fair l hs)

  pub methods-finish : C.MethodsFinish most
  methods-finish =
      record {
        is-accepted = λ l t s n h.
            let same = do-finish most l (map (act_of most) l) (do-own most l) s in
            subst (λ (x : Turn). accepted (avm most) (take n x.buffer) ≡ true) (sym same)
            ((finished-is-accepted (avm most)).is-accepted (map (act_of most) l) (all_fair l t) s n (sym (ap (λ (x : Turn). x.step.answer) same) ∙ h));
        refused-by = λ l t s e h.
            let same = do-finish most l (map (act_of most) l) (do-own most l) s in
            (finished-is-accepted (avm most)).refused-by (map (act_of most) l) (all_fair l t) s e (sym (ap (λ (x : Turn). x.step.answer) same) ∙ h);
      }

  module _ (d : List ℕ) (v : Signed (avm most)) (n : ℕ) (bs : Bytes d) (e : check (avm most) d ≡ took v n) (s : List ℕ) (room : length d ≤ length s) where
    spells : Do most (C.reading_calls most v.0) (spelled (avm most) v.0)
    spells = reading-do v.0 (parts-took (unsigned (avm most)) (wants (avm most)) d v n bs e).unsigned-good

    ends-alike : C.finish_after most (C.reading_calls most v.0) s ≡ finish_after (avm most) (spelled (avm most) v.0) s
    ends-alike = do-finish most (C.reading_calls most v.0) (spelled (avm most) v.0) spells s

    done : C.AllCallsDone most (C.reading_calls most v.0) fresh s
    done = do-done most (C.reading_calls most v.0) (spelled (avm most) v.0) spells fresh s ((avm-round-trip most).steps-done d v n bs e s room)

    finish-done : (C.finish_after most (C.reading_calls most v.0) s).step.answer ≡ Ok (length d)
    finish-done = ap (λ (x : Turn). x.step.answer) ends-alike ∙ (avm-round-trip most).finish-done d v n bs e s room

    pub blank-written : take (length d) (C.finish_after most (C.reading_calls most v.0) s).buffer
        ≡ AnySigned.assemble (unsigned (avm most)) (wants (avm most)) v.0 (blanks (layout (wants (avm most) v.0)))
    blank-written = ap (λ (x : Turn). take (length d) x.buffer) ends-alike ∙ (avm-round-trip most).blank-written d v n bs e s room

    filled : put_all (AnySigned.slots_at (unsigned (avm most)) (wants (avm most)) d) (slot_at d)
        (take (length d) (C.finish_after most (C.reading_calls most v.0) s).buffer) ≡ d
    filled =
        ap (λ (x : Turn). put_all (AnySigned.slots_at (unsigned (avm most)) (wants (avm most)) d) (slot_at d) (take (length d) x.buffer)) ends-alike
        ∙ (avm-round-trip most).filled d v n bs e s room

-- ---- the calls that write a reading have arguments of the methods' types

append-typed : (l m : List Call) → AllTyped l → AllTyped m → AllTyped (l ++ m)
append-typed [] m h k = k
append-typed (c ∷ l) m (h, hs) k = (h, append-typed l m hs k)

-- a list's calls are typed if each element's call is
module _ (l : ListName) (f : (elements_of l).Element → Call)
    (one : (p : List ℕ) (v : (elements_of l).Element) → ((elements_of l).element p).Good v → Typed (f v)) where
  elements-typed : (p : List ℕ) (vs : List (elements_of l).Element) → Chain (elements_of l).element (left (elements_of l).element) p vs
      → AllTyped (map f vs)
  elements-typed p [] h = tt
  elements-typed p (v ∷ vs) (h, hs) = (one p v h, elements-typed (((elements_of l).element p).write v) vs hs)

  list-typed : (least : ℕ) (vs : List (elements_of l).Element) → (list_of l least).Good vs → (more : List Call) → AllTyped more
      → AllTyped (C.list_calls f vs more)
  list-typed least vs g more h =
      append-typed (map f vs) (C.close ∷ more) (elements-typed [] vs (list-inv (elements_of l) least vs g).0) (tt, h)

joined_bytes : (p : List ℕ) (l : List (List ℕ)) → Chain (above (blob 20)) (left (above (blob 20))) p l → Bytes (C.joined l)
unfolding guard blob C.joined
joined_bytes p [] h = tt
joined_bytes p (a ∷ l) (h, hs) = bytes-append a (C.joined l) h.0.1 (joined_bytes a l hs)

owners-typed : (o : Owners) → owners.Good o → (o.locktime < 256 ^ 8) × (o.threshold < 256 ^ 4) × Bytes (C.joined o.addresses)
unfolding owners named and_then guard items integer
owners-typed o g = (g.0, g.1.0.0.0, joined_bytes [] o.addresses g.1.1.1)

type-typed : (asset : List ℕ) (o : Output) → Id asset → (output (secp_transfer ∷ [])).Good o → Typed (C.of_output asset o)
unfolding output tag and_then transfer_body amount guard integer
type-typed asset (secp_mint, o) i h = tt
type-typed asset (secp_transfer, (n, o)) i h = let (t, r, b) = owners-typed o h.1.1 in (i, h.1.0.0, t, r, b)
type-typed asset (nft_mint, o) i h = tt
type-typed asset (nft_transfer, o) i h = tt

output-typed : (p : List ℕ) (v : TransferableOutput) → (not_below transferable_output p).Good v → Typed (C.output_call v)
unfolding guard transferable_output named and_then blob
output-typed p v g = type-typed v.asset v.output g.0.0 g.0.1

words-typed : (p : List ℕ) (l : List ℕ) → Chain (above (integer 4)) (left (above (integer 4))) p l → Words l
unfolding guard integer
words-typed p [] h = tt
words-typed p (n ∷ l) (h, hs) = (h.0, words-typed ((integer 4).write n) l hs)

input-typed : (p : List ℕ) (v : Input) → (input p).Good v → Typed (C.input_call v)
unfolding input_after named and_then guard key spend constant amount indices count_prefixed items blob integer
input-typed p v g = (g.0.0.0, g.0.0.1, g.1.0, g.1.1.1.0.0, words-typed [] v.indices g.1.1.1.1.1.1)

state-typed : (p : List ℕ) (v : InitialState) → (initial_state p).Good v → Bytes ((initial_state []).write v)
unfolding initial_state_after guard
state-typed p v g = (initial_state p).bytes v g

text-typed : (most : ℕ) (b : List ℕ) → (Strings.text most).Good b → Bytes b
unfolding Strings.text named and_then guard Strings.printable guard_at blob
text-typed most b g = g.1.0.1

module _ (most : ℕ) where
  own-typed : (k : TransactionType) (v : Value (own_plan k)) → (form most (own_plan k)).Good v → AllTyped (C.own_calls k v)
  unfolding form and_then denomination guard integer blob
  own-typed K.Base v g = tt
  own-typed K.CreateAsset (a, (b, (d, (l, e)))) (ga, (gb, (gd, (g, _)))) =
      (text-typed 128 a ga, (text-typed 4 b gb, (gd.0, list-typed L.State C.state_call state-typed 1 l g [] tt)))
  own-typed K.Operation (l, e) (g, _) = list-typed L.Operation C.operation_call (λ p v h. (Operations.operation).bytes v h) 1 l g [] tt
  own-typed K.Import (c, (l, e)) (gc, (g, _)) = (gc, list-typed L.Imported C.input_call input-typed 1 l g [] tt)
  own-typed K.Export (c, (l, e)) (gc, (g, _)) = (gc, list-typed L.Exported C.output_call output-typed 1 l g [] tt)

  head-typed : (h : Head TransactionType) → (head (avm most)).Good h → Typed (C.start (type_id h.type) h.network h.chain)
  unfolding head named and_then constant guard tag integer blob
  head-typed h g = (g.1.0.0, g.1.1.0, g.1.1.1)

  memo-typed : (b : List ℕ) → (Strings.memo most).Good b → Bytes b
  unfolding Strings.string named and_then guard blob
  memo-typed b g = g.1.1

  reading-typed : (u : Unsigned (avm most)) → (unsigned (avm most)).Good u → AllTyped (C.reading_calls most u)
  unfolding unsigned and_then form
  reading-typed (h, (outs, (ins, (note, own)))) (gh, (go, (gi, (gm, gw)))) = (
    head-typed h gh,
    list-typed L.Output C.output_call output-typed 0 outs go (C.list_calls C.input_call ins (C.memo note ∷ C.own_calls h.type own))
        (list-typed L.Input C.input_call input-typed 0 ins gi (C.memo note ∷ C.own_calls h.type own) (memo-typed note gm, own-typed h.type own gw)),
  )

  typed : (d : List ℕ) (v : Signed (avm most)) (n : ℕ) → Bytes d → check (avm most) d ≡ took v n → AllTyped (C.reading_calls most v.0)
  typed d v n bs e = reading-typed v.0 (parts-took (unsigned (avm most)) (wants (avm most)) d v n bs e).unsigned-good

  pub methods-round-trip : C.MethodsRoundTrip most
  methods-round-trip = record { calls-typed = typed; calls-done = done most; finish-done = finish-done most; filled = filled most }
