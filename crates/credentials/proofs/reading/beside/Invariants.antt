-- `credentials::reading::beside` meets its contract. The invariant: an answer for the credentials that are left is one for all. Assumes nothing.
use Rattle.credentials.proofs.Besides.{BesideOnward}
use Rattle.credentials.proofs.reading.beside.Given as goal

abbrev pub invariant-loop : goal.invariant-loop
invariant-loop l =
    let i = l.initial in
    BesideOnward l.s l.type_id record { phase = i.phase; asks = i.asks; at = i.asks_at; left = i.elements } l.count l.start
    record { phase = l.phase; asks = l.asks; at = l.asks_at; left = l.elements } l.counter l.at
