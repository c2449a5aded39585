-- `element::outputs::nft_at` meets its contract. Assumes nothing.
use Rattle.element.proofs.Reading.{reading, if-another}
use Rattle.element.specs.Outputs.{output}
use Rattle.element.proofs.outputs.nft_at.Goals as goal

pub returns-in_err-type_id : goal.returns-in_err-type_id
unfolding output
returns-in_err-type_id c = search (reading, c.in_err-type_id.was) depth 12

pub returns-in_err-after_group-in-10 : goal.returns-in_err-after_group-in-10
unfolding output
returns-in_err-after_group-in-10 c = search (reading, c.in_ok-type_id.was, c.in_err-after_group-in-10.was) depth 12

pub returns-in_err-payload_at-in-11 : goal.returns-in_err-payload_at-in-11
unfolding output
returns-in_err-payload_at-in-11 c = search (reading, if-another, c.in_ok-type_id.was, c.in_err-payload_at-in-11.was) depth 12

pub returns-in_err-after_payload-in-11 : goal.returns-in_err-after_payload-in-11
unfolding output
returns-in_err-after_payload-in-11 c =
    search (reading, if-another, c.in_ok-type_id.was, c.in_ok-payload_at-in-11.was, c.in_err-after_payload-in-11.was) depth 12

pub returns-in_ok-after_group-in-10 : goal.returns-in_ok-after_group-in-10
unfolding output
returns-in_ok-after_group-in-10 c = search (reading, c.in_ok-type_id.was, c.in_ok-after_group-in-10.was) depth 12

pub returns-in_ok-after_payload-in-11 : goal.returns-in_ok-after_payload-in-11
unfolding output
returns-in_ok-after_payload-in-11 c = search (reading, if-another, c.in_ok-type_id.was, c.in_ok-payload_at-in-11.was, c.in_ok-after_payload-in-11.was) depth 12

pub returns-in_default : goal.returns-in_default
unfolding output
returns-in_default c = search (reading, c.in_ok-type_id.was) depth 12
