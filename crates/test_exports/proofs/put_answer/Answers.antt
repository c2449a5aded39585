-- `test_exports::put_answer` meets its contract. Assumes nothing.
use Rattle.test_exports.specs.code.Values.{answer_values}
use Rattle.test_exports.proofs.Putting.{put_one, put-found, put-known, put-none, by-case}
use Rattle.test_exports.proofs.put_answer.Goals as goal

pub returns-in-Ok : goal.returns-in-Ok
returns-in-Ok c = put-found _ _ c.in-Ok.is _ _ _ _ _ _ c.put.ensures c.put-in-Ok.ensures c.put-in-Ok-2.ensures
    c.put-in-Ok-3.ensures c.put_entry.ensures

pub returns-in-Err : goal.returns-in-Err
returns-in-Err c = search (by-case answer_values, put-known, put_one, put-none)
