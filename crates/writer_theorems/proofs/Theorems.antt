-- The round trip by steps, for the AVM's family. Assumes nothing.
use Prim.Native.Nat.{ℕ}
use Rattle.transaction.specs.Plan.{plan}
use Rattle.transaction.specs.Avm.{avm}
use Rattle.transaction.specs.declared.TransactionType.{TransactionType}
use Rattle.transaction.specs.declared.TransactionType.TheVariants as K
use Rattle.writer_theorems.specs.Runs.{Ends}
use Rattle.writer_theorems.specs.Claims.{StepsRoundTrip}
use Rattle.writer_theorems.proofs.Trip.{steps-round-trip}

ends : (k : TransactionType) → Ends (plan k)
ends K.Base = tt
ends K.CreateAsset = tt
ends K.Operation = tt
ends K.Import = tt
ends K.Export = tt

pub avm-round-trip : (most : ℕ) → StepsRoundTrip (avm most)
avm-round-trip most = steps-round-trip (avm most) ends
