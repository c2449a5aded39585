-- EVERYTHING THAT IS CLAIMED of the calls that users are offered: a field for each statement, in the order of document 00's demands. docs/CLAIMS.md
-- has the same order, with each sentence of the papers beside its field. Proved as `claims`, in proofs/Claims. Assumes nothing.
--
-- The calls are given by definitions: `checked`, `tabled`, `entry_of`, `tabled_slots`, `merge_call`, `fill_call`, `piece_call`, `end_call`, `call` (the
-- writer's methods), and `packed` (the answers to C). The contract of each public function says that its answer, its state and every lent byte equal
-- these, whatever it is handed; that it ends and stays inside the memory lent is part of what a proved function is.
use Rattle.std.specs.Prelude.{ℕ}
use Rattle.transaction.specs.Family.{Family}
use Rattle.transaction.specs.Avm.{avm}
use Rattle.transaction.specs.Answer.{memo_most}
use Rattle.transaction.specs.Codec.{Codec}
use Rattle.transaction.specs.Accepted.{Transactions}
use Rattle.transaction.specs.FirstBroken.{FirstBroken}
use Rattle.draft.specs.Reader.{reader}
use Rattle.writer_theorems.specs.Runs.{Ends}
use Rattle.writer_theorems.specs.Claims.{FinishedIsAccepted, StepsRoundTrip}
use Rattle.writer_theorems.specs.Calls.{MethodsOwe, MethodsFinish, MethodsRoundTrip}
use Rattle.writer_theorems.specs.Occurring.{WriterNumbersOccur}
use Rattle.draft_theorems.specs.Answers.{CallsOwe, CallsDecide}
use Rattle.draft_theorems.specs.Slots.{SlotsOfReading}
use Rattle.draft_theorems.specs.Demand.{Demand3}
use Rattle.draft_theorems.specs.Order.{Orders}
use Rattle.draft_theorems.specs.Filling.{Filling}
use Rattle.upload_theorems.specs.Answers.{UploadOwes}
use Rattle.upload_theorems.specs.Pieces.{CutFreely}
use Rattle.phone.specs.Packed.{Unpacked}
use Rattle.operator.specs.Listing.{Unlisted}
use Rattle.operator.specs.Uploads.{UploadWords}
use Rattle.claims.specs.Answers.{CheckAnswers, TableAnswers, EntryAnswers, SlotsAnswers}
use Rattle.claims.specs.Occurring.{NumbersOccur}
use Rattle.claims.specs.Lengths.{Lengths}
use Rattle.claims.specs.RoundTrip.{RoundTrips}
use Rattle.claims.specs.Instance.{Instances}
use Rattle.claims.specs.Cases.{AllHold, table}

-- "answers with a number from document 01's table .. A refusal changes no lent byte and no builder state": each call has a list of its numbers
pub record Demand1 : Type 0 where
  pub check : CheckAnswers
  pub check-with-table : TableAnswers
  pub entry : EntryAnswers
  pub slots : SlotsAnswers
  pub merge-and-fill : CallsOwe (reader (avm memo_most))
  -- "checks 17, 18, 19, 20, 14 in that order"; fill "17, 15, 21, then 20"
  pub merge-and-fill-decide : CallsDecide (reader (avm memo_most))
  pub writer : MethodsOwe memo_most
  pub upload : UploadOwes memo_most
  -- each number of a list is the answer of some call, so the lists are exact
  pub numbers-occur : NumbersOccur
  pub writer-numbers-occur : WriterNumbersOccur memo_most
  -- the answer to C is one integer, from which the caller gets back the number, and the place or the rows
  pub phone : Unpacked
  pub operator : Unlisted
  -- an upload's state crosses as two integers, from which each call reads the state that the last one left
  pub upload-words : UploadWords

pub record Demand2 : Type 0 where
  -- "accepted exactly when they are a signed AVM transaction", "one reading", "gives the same bytes"; for every limit of the memo, 256 in the base
  pub transactions : (most : ℕ) → Transactions most
  -- "A refusal names the first broken rule and its place"
  pub first-broken : FirstBroken (avm memo_most)
  -- the lengths that document 01 gives
  pub lengths : Lengths
  -- "whatever the writer finishes, each step given the state and buffer the last one left, is accepted"
  pub finished : MethodsFinish memo_most
  -- "writing that reading, room given, then filling in its signatures": the calls that write the reading are typed and done
  pub written : MethodsRoundTrip memo_most
  -- ".. gives the same bytes": calls of the writer's methods and of fill alone
  pub round-trips : RoundTrips

pub record Claims : Type 1 where
  pub demand-1 : Demand1
  pub demand-2 : Demand2
  -- one statement about every list of drafts and every grouping over it
  pub demand-3 : Demand3 (reader (avm memo_most))
  -- the slots that it speaks of are the signatures of demand 2's reading
  pub slots : SlotsOfReading (avm memo_most)
  -- its hypotheses can be met, with a conflict and without
  pub instances : Instances
  -- what follows: order, grouping and repetition do not matter
  pub orders : Orders (reader (avm memo_most))
  -- what a call of fill does and leaves
  pub filling : Filling (reader (avm memo_most))
  -- document 02, T-01: an upload in pieces is answered as the whole, however it was cut; for every limit of the memo, 256 in the base
  pub uploads : (most : ℕ) → CutFreely most
  -- P1 to P14 and the bad examples, as one table
  pub cases : AllHold table
  -- ---- for every family of transactions, and so for one that is added later
  pub codecs : (F : Family) → Codec F
  pub first-broken-rules : (F : Family) → FirstBroken F
  pub slots-of-readings : (F : Family) → SlotsOfReading F
  pub groupings : (F : Family) → Demand3 (reader F)
  pub every-order : (F : Family) → Orders (reader F)
  pub every-filling : (F : Family) → Filling (reader F)
  pub every_call : (F : Family) → CallsOwe (reader F)
  pub every-decision : (F : Family) → CallsDecide (reader F)
  pub finished-steps : (F : Family) → FinishedIsAccepted F
  pub written-steps : (F : Family) → ((k : F.TransactionType) → Ends (F.plan k)) → StepsRoundTrip F
