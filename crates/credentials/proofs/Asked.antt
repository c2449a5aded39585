-- How many credentials are asked for: one for each value, or none. Assumes nothing.
use Rattle.std.specs.Prelude.{Option, None, Some}
use Prim.Native.Nat.{ℕ}
use mathlib.Core.Path.{◌≡◌, refl}
use mathlib.Core.List.{List, [], ◌∷◌}
use native.Mathlib.Omega.{arith}
use lib.ListN.{length, length-append}
use Rattle.transaction.specs.Credentials.{CredentialType, secp_credential, nft_credential}
use Rattle.transaction.specs.Plan.{want_of}
use Rattle.transaction.specs.Form.{asked}
use Rattle.plan.specs.code.Rows.{credential_asked}

pub none-wanted : (c : Option CredentialType) (t n : ℕ) → t ≡ credential_asked c → t ≡ 0 → want_of c n ≡ []
none-wanted None t n i z = refl
none-wanted (Some secp_credential) t n i z = absurd (omega arith)
none-wanted (Some nft_credential) t n i z = absurd (omega arith)

pub one_wanted : (c : Option CredentialType) (t n : ℕ) → t ≡ credential_asked c → (t ≡ 0 → ⊥) → length (want_of c n) ≡ 1
one_wanted None t n i z = absurd (z i)
one_wanted (Some c) t n i z = refl

module _ {A : Type 0} (c : Option CredentialType) (f : A → ℕ) (t : ℕ) (i : t ≡ credential_asked c) where
  pub none-asked : t ≡ 0 → (v : List A) → asked (λ a. want_of c (f a)) v ≡ []
  unfolding asked
  none-asked z [] = refl
  none-asked z (a ∷ v) = rw (none-wanted c t (f a) i z) (none-asked z v)

  pub each-asked : (t ≡ 0 → ⊥) → (v : List A) → length (asked (λ a. want_of c (f a)) v) ≡ length v
  unfolding asked
  each-asked z [] = refl
  each-asked z (a ∷ v) =
      omega (arith, length-append (want_of c (f a)) (asked (λ a. want_of c (f a)) v), one_wanted c t (f a) i z, each-asked z v)
