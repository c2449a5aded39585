-- `test_exports::put_operation` meets its contract. Assumes nothing.
use Rattle.test_exports.proofs.Putting.{put-fields}
use Rattle.test_exports.proofs.put_operation.Goals as goal

pub returns : goal.returns
returns c = put-fields c.args.fields c.args.numbers.now _ _ _ _ _ _ _ _ c.put.ensures c.put-2.ensures c.put-3.ensures
    c.put-4.ensures c.put-5.ensures c.put-6.ensures c.put-7.ensures c.put_recipients.ensures
