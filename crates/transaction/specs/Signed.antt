-- A signed transaction, for any format of what stands before the credentials (`body`: codec and unsigned part) and any function that says which
-- credentials a value wants. Assumes nothing.
use Rattle.std.specs.Prelude.{◌≡◌, Bool, true, false, List, [], ◌++◌, ℕ, ◌≤◌, length}
use Rattle.wire.specs.Format.{Format, Parsed, took, refused, read}
use Rattle.wire.specs.Sequence.{and_then}
use Rattle.wire.specs.Whole.{whole}
use Rattle.transaction.specs.Credentials.{Want, layout, credentials, places}

-- the most bytes of a signed transaction (rule 1)
abbrev pub most_bytes : ℕ
most_bytes = 65536

abbrev pub taken : {A : Type 0} → Parsed A → Bool
taken (took v n) = true
taken (refused e) = false

-- from the result of reading the body: the offset just past it, and the offsets of the slots
abbrev pub end_of : {U : Type 0} → Parsed U → ℕ
end_of (took u m) = m
end_of (refused e) = 0

abbrev pub slots_of : {U : Type 0} → (U → List Want) → Parsed U → List ℕ
slots_of wants (took u m) = places m (layout (wants u))
slots_of wants (refused e) = []

module _ {U : Type 0} (body : Format U) (wants : U → List Want) where
  unfoldable pub signed : Format (U × List (List ℕ))
  unfolding and_then
  signed = and_then body (λ u. credentials (wants u))

  -- the check: at most 65,536 bytes, one signed transaction, and nothing after it
  unfoldable pub check : List ℕ → Parsed (U × List (List ℕ))
  unfolding signed
  check s = whole signed most_bytes s refused took

  -- bytes are accepted if the check does not refuse them
  abbrev pub accepted : List ℕ → Bool
  accepted s = taken (check s)

  -- the offset of the credential count, and the offsets of the signatures
  abbrev pub credentials_at : List ℕ → ℕ
  credentials_at d = end_of (read body d 0)

  abbrev pub slots_at : List ℕ → List ℕ
  slots_at d = slots_of wants (read body d 0)

  -- the bytes of a transaction, from its unsigned part and its signatures
  unfoldable pub assemble : U → List (List ℕ) → List ℕ
  unfolding credentials
  assemble u l = body.write u ++ (credentials (wants u)).write l

  pub record Parts (d : List ℕ) (u : U) (l : List (List ℕ)) : Type 0 where
    pub unsigned-good : body.Good u
    pub signatures-good : (credentials (wants u)).Good l
    pub same : d ≡ assemble u l
    pub short : length d ≤ most_bytes
