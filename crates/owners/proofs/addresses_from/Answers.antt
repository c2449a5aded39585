use Rattle.wire.proofs.Trying.{passed-on}
use Rattle.owners.proofs.Reading.{no_address, address-first, address-gone, address-cut, address-again, address-not-above, address-last}
use Rattle.owners.proofs.addresses_from.Goals as goal

pub returns-then-count-eq0 : goal.returns-then-count-eq0
returns-then-count-eq0 c = search no_address

pub loop-init : goal.loop-init
loop-init c = search address-first

pub returns-in_err-at : goal.returns-in_err-at
returns-in_err-at c = search (address-gone, passed-on, c.in_err-at.was)

pub returns-in_err-field_at : goal.returns-in_err-field_at
returns-in_err-field_at c = search (address-cut, passed-on, c.in_ok-at.was, c.in_err-field_at.was)

pub returns-then-not-address_below : goal.returns-then-not-address_below
returns-then-not-address_below c = search (address-not-above, c.in_ok-at.was, c.in_ok-field_at.was) depth 6

pub loop-preserved : goal.loop-preserved
loop-preserved c = search (address-again, c.in_ok-at.was, c.in_ok-field_at.was) depth 6

pub returns : goal.returns
returns c = search address-last
