-- Owners: locktime, threshold, addresses. Assumes nothing.
use Rattle.std.specs.Prelude.{refl, ℕ, ◌-◌, ◌*◌, Bool, List, [], length, leb, eqb}
use Rattle.std.proofs.Common.{ap}
use Rattle.wire.specs.Bytes.{pick}
use Rattle.wire.specs.Numbers.{bad_threshold}
use Rattle.wire.specs.Format.{Format}
use Rattle.wire.specs.Fields.{integer, blob}
use Rattle.wire.specs.Sequence.{and_then, guard, named}
use Rattle.wire.specs.Series.{above, left, increasing}
use Rattle.wire.specs.laws.Sizes.{items-sized}
use Rattle.owners.specs.declared.OwnersFields.{OwnersFields}

pub record Owners : Type 0 where
  pub locktime : ℕ
  pub threshold : ℕ
  pub addresses : List (List ℕ)

abbrev pub address_width : ℕ
address_width = 20

-- the threshold is at most the number of addresses, and 0 only where there are none
abbrev pub threshold_fits : ℕ → ℕ → Bool
threshold_fits threshold addresses = pick (eqb threshold 0) (eqb addresses 0) (leb threshold addresses)

-- the threshold is checked when the number of addresses is read, and refused at the threshold's place
unfoldable pub owners : Format Owners
unfolding named and_then guard
owners =
    named
    (and_then (integer 8) (λ locktime.
    and_then (guard (and_then (integer 4) (λ threshold. integer 4)) (λ v. threshold_fits v.0 v.1) bad_threshold) (λ v.
    increasing (blob address_width) v.1)))
    (λ (locktime, ((threshold, count), list)). record { locktime = locktime; threshold = threshold; addresses = list })
    (λ o. (o.locktime, ((o.threshold, length o.addresses), o.addresses)))
    (λ v h. ap (λ (n : ℕ). (v.0, ((v.1.0.0, n), v.1.1)))
    (items-sized (above (blob address_width)) (left (above (blob address_width))) [] v.1.0.1 v.1.1 h.1.1))
    (λ o. refl)

-- the fields of owners that end at `end`: the addresses are their last bytes
abbrev pub owners_fields : ℕ → Owners → OwnersFields
owners_fields end o =
    record {
      locktime = o.locktime;
      threshold = o.threshold;
      addresses_at = end - address_width * length o.addresses;
      addresses_count = length o.addresses;
    }
