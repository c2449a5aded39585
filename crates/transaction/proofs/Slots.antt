-- Laws of slots: how long a slot is, and that it is bytes
use mathlib.Core.Path.{◌≡◌}
use Prim.Native.Nat.{ℕ, zero, suc, ◌+◌, ◌≤◌}
use native.Mathlib.Omega.{arith}
use mathlib.Core.List.{List}
use lib.ListN.{length, drop, replicate, length-drop, length-replicate}
use lib.Seq.{length-take-le}
use Rattle.wire.specs.Bytes.{Bytes}
use Rattle.wire.specs.laws.Bytes.{bytes_take, bytes_drop}
use Rattle.transaction.specs.Slots.{signature_width, blank, slot_at}

pub length-slot_at : (d : List ℕ) (p : ℕ) → p + signature_width ≤ length d → length (slot_at d p) ≡ signature_width
unfolding slot_at
length-slot_at d p h = length-take-le signature_width (drop p d) (omega (arith, length-drop p d))

pub bytes-slot_at : (d : List ℕ) (p : ℕ) → Bytes d → Bytes (slot_at d p)
unfolding slot_at
bytes-slot_at d p b = bytes_take signature_width (drop p d) (bytes_drop p d b)

pub length-blank : length blank ≡ signature_width
unfolding blank
length-blank = length-replicate signature_width 0

pub bytes-blank : Bytes blank
unfolding blank
bytes-blank = zeros signature_width
  where
    zeros : (n : ℕ) → Bytes (replicate n 0)
    zeros zero = tt
    zeros (suc n) = (omega arith, zeros n)
