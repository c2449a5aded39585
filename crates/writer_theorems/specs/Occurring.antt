-- Each number in a call's list can occur. Assumes nothing.
use Rattle.std.specs.Prelude.{ℕ, ◌<◌, ◌^◌, ◌≡◌, List}
use Rattle.wire.specs.Bytes.{Bytes}
use Rattle.wire.specs.Orders.{OneOf}
use Rattle.writer.specs.declared.Writer.{Writer}
use Rattle.writer_theorems.specs.Calls as C
use Rattle.writer_theorems.specs.Calls.{Call, Typed, call_numbers, number_of}

pub data Method : Type 0 where
  start output input operation state memo name symbol chain denomination close finish : Method

abbrev pub method_of : Call → Method
method_of (C.start type network id) = start
method_of (C.output asset amount locktime threshold addresses) = output
method_of (C.input txid index asset amount indices) = input
method_of (C.operation b) = operation
method_of (C.state b) = state
method_of (C.memo b) = memo
method_of (C.name b) = name
method_of (C.symbol b) = symbol
method_of (C.chain c) = chain
method_of (C.denomination n) = denomination
method_of C.close = close
method_of C.finish = finish

-- a state that the code can hold: each field fits its width
pub record Held (w : Writer) : Type 0 where
  pub type : w.type_id < 2 ^ 32
  pub phase : w.phase < 2 ^ 32
  pub count : w.count < 2 ^ 32
  pub at : w.at < 2 ^ 64
  pub list : w.list < 2 ^ 64
  pub last : w.last < 2 ^ 64

-- with memos of at most `most` bytes, some call of the method over some state and buffer answers n
pub record Occurs (most : ℕ) (m : Method) (n : ℕ) : Type 0 where
  pub call : Call
  pub of : method_of call ≡ m
  pub typed : Typed call
  pub before : Writer
  pub held : Held before
  pub buffer : List ℕ
  pub bytes : Bytes buffer
  pub answers : number_of most call before buffer ≡ n

-- with `MethodsOwe.number`: a call's list has exactly the numbers that its method can answer
pub record WriterNumbersOccur (most : ℕ) : Type 0 where
  pub each : (c : Call) (n : ℕ) → OneOf n (call_numbers c) → Occurs most (method_of c) n
