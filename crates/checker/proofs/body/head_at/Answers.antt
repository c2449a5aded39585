-- `checker::body::head_at` meets its contract. Assumes nothing.
use Rattle.transaction.proofs.Reading.{heading}
use Rattle.transaction.specs.Family.{head}
use Rattle.wire.specs.Fields.{constant}
use Rattle.checker.proofs.body.head_at.Goals as goal

pub returns-in_err-codec : goal.returns-in_err-codec
unfolding head constant
returns-in_err-codec c = search (heading, c.in_err-codec.was) depth 12

pub returns-then-codec-ne0 : goal.returns-then-codec-ne0
unfolding head constant
returns-then-codec-ne0 c = search (heading, c.in_ok-codec.was) depth 12

pub returns-in_err-number : goal.returns-in_err-number
unfolding head constant
returns-in_err-number c = search (heading, c.in_ok-codec.was, c.in_err-number.was) depth 12

pub returns-then-not-is_type : goal.returns-then-not-is_type
unfolding head constant
returns-then-not-is_type c = search (heading, c.in_ok-codec.was, c.in_ok-number.was) depth 12

pub returns-in_err-chain_at : goal.returns-in_err-chain_at
unfolding head constant
returns-in_err-chain_at c = search (heading, c.in_ok-codec.was, c.in_ok-number.was, c.in_err-chain_at.was) depth 12

pub returns-in_err-next : goal.returns-in_err-next
unfolding head constant
returns-in_err-next c = search (heading, c.in_ok-codec.was, c.in_ok-number.was, c.in_ok-chain_at.was, c.in_err-next.was) depth 12

pub returns : goal.returns
unfolding head constant
returns c = search (heading, c.in_ok-codec.was, c.in_ok-number.was, c.in_ok-chain_at.was, c.in_ok-next.was) depth 12
