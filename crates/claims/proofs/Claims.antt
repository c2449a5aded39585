-- The proof of everything that is claimed. Assumes nothing.
use Rattle.transaction.specs.Avm.{avm}
use Rattle.transaction.specs.Answer.{memo_most}
use Rattle.transaction.proofs.Codec.{codec}
use Rattle.transaction.proofs.Accepted.{transactions}
use Rattle.transaction.proofs.FirstBroken.{first-broken}
use Rattle.writer_theorems.proofs.Calling.{methods-finish, methods-round-trip}
use Rattle.writer_theorems.proofs.Finishing.{finished-is-accepted}
use Rattle.writer_theorems.proofs.Numbering.{methods-owe}
use Rattle.writer_theorems.proofs.Trip.{steps-round-trip}
use Rattle.writer_theorems.proofs.Occurring.{writer-numbers-occur}
use Rattle.draft_theorems.proofs.Theorems.{demand-3, orders, filling, slots-of-reading, calls-owe, calls-decide}
use Rattle.draft_theorems.proofs.Theorems.{avm-demand-3, avm-slots-of-reading, avm-orders, avm-filling, avm-calls-owe, avm-calls-decide}
use Rattle.upload_theorems.proofs.Answering.{upload-owes}
use Rattle.upload_theorems.proofs.Theorems.{cut-freely}
use Rattle.phone.proofs.Unpacking.{unpacked}
use Rattle.operator.proofs.Unlisting.{unlisted}
use Rattle.operator.proofs.UploadWords.{upload-words}
use Rattle.claims.specs.Cases.{proved-cases}
use Rattle.claims.specs.Claims.{Demand1, Demand2, Claims}
use Rattle.claims.proofs.Answering.{check-answers, table-answers, entry-answers, slots-answers}
use Rattle.claims.proofs.Occurring.{numbers-occur}
use Rattle.claims.proofs.Measuring.{lengths}
use Rattle.claims.proofs.Filling.{round-trips}
use Rattle.claims.proofs.Instances.{instances}

demand-1-holds : Demand1
demand-1-holds =
    record {
      check = check-answers;
      check-with-table = table-answers;
      entry = entry-answers;
      slots = slots-answers;
      merge-and-fill = avm-calls-owe;
      merge-and-fill-decide = avm-calls-decide;
      writer = methods-owe memo_most;
      upload = upload-owes memo_most;
      numbers-occur = numbers-occur;
      writer-numbers-occur = writer-numbers-occur memo_most;
      phone = unpacked;
      operator = unlisted;
      upload-words = upload-words;
    }

demand-2-holds : Demand2
demand-2-holds =
    record {
      transactions = transactions;
      first-broken = first-broken (avm memo_most);
      lengths = lengths;
      finished = methods-finish memo_most;
      written = methods-round-trip memo_most;
      round-trips = round-trips;
    }

pub claims : Claims
claims =
    record {
      demand-1 = demand-1-holds;
      demand-2 = demand-2-holds;
      demand-3 = avm-demand-3;
      slots = avm-slots-of-reading;
      instances = instances;
      orders = avm-orders;
      filling = avm-filling;
      uploads = cut-freely;
      cases = proved-cases;
      codecs = codec;
      first-broken-rules = first-broken;
      slots-of-readings = slots-of-reading;
      groupings = demand-3;
      every-order = orders;
      every-filling = filling;
      every_call = calls-owe;
      every-decision = calls-decide;
      finished-steps = finished-is-accepted;
      written-steps = steps-round-trip;
    }
