-- `credentials::asking::next_wanted` meets its contract. The invariant: what is wanted from the start on is wanted from the current state on. Assumes nothing.
use Prim.Native.Nat.{◌+◌, ◌-◌}
use Rattle.plan.specs.code.Rows.{last_phase}
use Rattle.credentials.proofs.Ahead.{Onward}
use Rattle.credentials.proofs.asking.next_wanted.Given as goal

abbrev pub invariant-loop-left : goal.invariant-loop-left
invariant-loop-left l =
    let i = l.initial in Onward l.type_id l.s record { phase = i.phase; asks = i.asks; at = i.at; left = i.left } l.phase l.asks l.at l.left

abbrev pub decreases-loop-left : goal.decreases-loop-left
decreases-loop-left l = last_phase + 1 - l.phase
