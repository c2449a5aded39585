-- The lengths of outputs and inputs. Assumes nothing.
use Prim.Native.Nat.{ℕ, ◌+◌, ◌*◌}
use mathlib.Core.Path.{◌≡◌, refl}
use mathlib.Core.List.{List, [], ◌∷◌}
use native.Mathlib.Omega.{arith}
use lib.ListN.{length, length-append}
use Rattle.wire.specs.laws.Bytes.{length_digits}
use Rattle.wire.specs.Orders.{All}
use Rattle.owners.specs.Owners.{Owners}
use Rattle.element.specs.PlainBytes.{u32, joined, owners_bytes, output_bytes, input_bytes}
use Rattle.claims.specs.Lengths.{AddressesOf20, Lengths}

length-joined : (l : List (List ℕ)) → All (λ address. length address ≡ 20) l → length (joined (λ address. address) l) ≡ 20 * length l
unfolding joined
length-joined [] h = refl
length-joined (a ∷ l) h = simp length-append (omega (arith, h.0, length-joined l h.1))

length-indices : (l : List ℕ) → length (joined u32 l) ≡ 4 * length l
unfolding joined
length-indices [] = refl
length-indices (n ∷ l) = simp (length-append, length_digits) (omega (arith, length-indices l))

length-owners : (o : Owners) → AddressesOf20 o → length (owners_bytes o) ≡ 16 + 20 * length o.addresses
unfolding owners_bytes
length-owners o h = simp (length-append, length_digits, length-joined o.addresses h) (omega arith)

pub lengths : Lengths
unfolding output_bytes input_bytes
lengths =
    record {
      output-7 = λ amount o h. simp (length-append, length_digits, length-owners o h) (omega arith);
      output-6 = λ o h. simp (length-append, length_digits, length-owners o h) (omega arith);
      output-10 = λ group o h. simp (length-append, length_digits, length-owners o h) (omega arith);
      output-11 = λ group payload o h. simp (length-append, length_digits, length-owners o h) (omega arith);
      input-after-asset = λ i id asset. simp (length-append, length_digits, length-indices i.indices) (omega arith);
    }
