-- Laws of blank credentials: their bytes, one after the other, and the room that they need. Assumes nothing.
use Rattle.std.specs.Prelude.{Ok, Err, Result}
use Prim.Native.Nat.{ℕ, zero, suc, ◌+◌, ◌*◌, ◌^◌, ◌≤◌, ◌<◌}
use mathlib.Core.Path.{◌≡◌, refl, sym, ap, ◌∙◌}
use mathlib.Core.Bool.{Bool, true, false}
use mathlib.Core.List.{List, [], ◌∷◌, ◌++◌, append_assoc}
use native.Mathlib.Omega.{arith}
use native.Mathlib.Numerals.{add-one}
use lib.ListN.{length, drop, set, replicate, length-append, length-replicate, replicate-append-replicate}
use lib.Dec.{leb}
use lib.Seq.{drop-cons, set_at}
use borrow.Author.Tests.{leb-true, leb-false, le-leb, lt-leb}
use Rattle.wire.specs.Bytes.{digits, pick}
use Rattle.wire.specs.laws.Bytes.{length_digits}
use Rattle.wire.specs.Numbers.{refusal, no_room}
use Rattle.wire.specs.Fields.{integer}
use Rattle.wire.specs.declared.Refusal.{Refusal}
use Rattle.transaction.specs.Slots.{signature_width, blank}
use Rattle.transaction.specs.Credentials.{CredentialType, secp_credential, nft_credential, credential_code, Want}
use Rattle.transaction.specs.Credentials.{Piece, signatures, each, layout, pieces, credentials, blanks}
use Rattle.writer_buffer.specs.Stores.{overwrite}
use Rattle.writer_buffer.specs.code.Stores.{with_integer}
use Rattle.writer_buffer.proofs.Stores.{overwrite-more, integer-put, length-integer}
use Rattle.writer_buffer.specs.code.Closing.{blank_credential, credential_width, blank_bytes, closing_bytes, fitted}

-- ---- zeros

-- one more byte is set to zero
pub zero_more : (s : List ℕ) (i : ℕ) → i < length s → set (replicate i 0 ++ drop i s) i 0 ≡ replicate (i + 1) 0 ++ drop (i + 1) s
zero_more s i h =
    ap (λ (r : List ℕ). set (replicate i 0 ++ r) i 0) (drop-cons s i 0 h)
    ∙ set_at (replicate i 0) _ (drop (suc i) s) 0 i (length-replicate i 0)
    ∙ sym (append_assoc (replicate i 0) (0 ∷ []) (drop (suc i) s))
    ∙ ap (λ (r : List ℕ). r ++ drop (suc i) s) (replicate-append-replicate i 1 0)
    ∙ ap (λ (n : ℕ). replicate (i + 1) 0 ++ drop n s) (sym (add-one i))

-- ---- the buffer

-- a blank credential is stored field by field
pub blank-back : (s a b c : List ℕ) (at t n : ℕ) → t < 256 ^ 4 → n < 256 ^ 4 → at + credential_width n ≤ length s → a ≡ with_integer s at t
    → b ≡ with_integer a (at + 4) n → c ≡ overwrite b (at + 8) (replicate (signature_width * n) 0) → c ≡ overwrite s at (blank_credential t n)
unfolding blank_credential
blank-back s a b c at t n ft fn h ha hb ec =
    let x = digits 4 t in
    let y = digits 4 n in
    let z : List ℕ = replicate (signature_width * n) 0 in
    let ea : a ≡ overwrite s at x = ha ∙ integer-put s at t (omega arith) ft in
    let eb : b ≡ overwrite a (at + 4) y = hb ∙ integer-put a (at + 4) n (omega (arith, ap length ha, length-integer s at t)) fn in
    let two : b ≡ overwrite s at (x ++ y) =
    eb ∙ ap (λ (r : List ℕ). overwrite r (at + 4) y) ea ∙ overwrite-more s at x y (at + 4) (omega (arith, length_digits 4 t)) (omega arith) in
    ec
    ∙ ap (λ (r : List ℕ). overwrite r (at + 8) z) two
    ∙ overwrite-more s at (x ++ y) z (at + 8) (omega (arith, length-append x y, length_digits 4 t, length_digits 4 n)) (omega arith)
    ∙ ap (overwrite s at) (append_assoc x y z)

-- ---- the bytes of blank credentials

pub length-blank : (t n : ℕ) → length (blank_credential t n) ≡ credential_width n
unfolding blank_credential
length-blank t n =
    omega (
      arith,
      length-append (digits 4 t) (digits 4 n ++ replicate (signature_width * n) 0),
      length-append (digits 4 n) (replicate {A = ℕ} (signature_width * n) 0),
      length_digits 4 t,
      length_digits 4 n,
      length-replicate {A = ℕ} (signature_width * n) 0,
    )

pub type-small : (t : CredentialType) → credential_code t < 256 ^ 4
type-small secp_credential = omega arith
type-small nft_credential = omega arith

signatures-blank : (n : ℕ) (ps : List Piece)
    → (pieces (signatures n ps)).write (blanks (signatures n ps)) ≡ replicate (signature_width * n) 0 ++ (pieces ps).write (blanks ps)
unfolding pieces signatures blanks blank signature_width
signatures-blank zero ps = refl
signatures-blank (suc n) ps =
    let w : List ℕ = (pieces ps).write (blanks ps) in
    let more : 65 + 65 * n ≡ 65 * suc n = omega arith in
    ap (λ (l : List ℕ). replicate 65 0 ++ l) (signatures-blank n ps)
    ∙ sym (append_assoc (replicate 65 0) (replicate (65 * n) 0) w)
    ∙ ap (λ (l : List ℕ). l ++ w) (replicate-append-replicate 65 (65 * n) 0)
    ∙ ap (λ (k : ℕ). replicate k 0 ++ w) more

pub none-blank : blank_bytes [] ≡ []
unfolding blank_bytes pieces each
none-blank = refl

-- the bytes of the first, and then of the others
pub one_more : (w : Want) (ws : List Want) → blank_bytes (w ∷ ws) ≡ blank_credential (credential_code w.type) w.signatures ++ blank_bytes ws
unfolding blank_bytes pieces each blanks blank_credential integer
one_more w ws =
    let t : List ℕ = digits 4 (credential_code w.type) in
    let n : List ℕ = digits 4 w.signatures in
    let z : List ℕ = replicate (signature_width * w.signatures) 0 in
    ap (λ (l : List ℕ). t ++ (n ++ l)) (signatures-blank w.signatures (each ws))
    ∙ ap (λ (l : List ℕ). t ++ l) (sym (append_assoc n z (blank_bytes ws)))
    ∙ sym (append_assoc t (n ++ z) (blank_bytes ws))

-- each has at least a type and a count, 8 bytes
pub blank-long : (ws : List Want) → 8 * length ws ≤ length (blank_bytes ws)
blank-long [] = omega arith
blank-long (w ∷ ws) =
    let t : ℕ = credential_code w.type in
    omega (
      arith,
      blank-long ws,
      ap length (one_more w ws),
      length-append (blank_credential t w.signatures) (blank_bytes ws),
      length-blank t w.signatures,
    )

-- the closing bytes are their count and then the credentials
pub count-first : (ws : List Want) → closing_bytes ws ≡ digits 4 (length ws) ++ blank_bytes ws
unfolding blank_bytes credentials layout pieces blanks integer
count-first ws = refl

pub closing-long : (ws : List Want) → length (closing_bytes ws) ≡ 4 + length (blank_bytes ws)
closing-long ws =
    omega (arith, ap length (count-first ws), length-append (digits 4 (length ws)) (blank_bytes ws), length_digits 4 (length ws))

-- ---- room

pub fitted-room : (at n limit m : ℕ) → m ≡ at + n → m ≤ limit → Ok m ≡ fitted at n limit
unfolding fitted
fitted-room at n limit m e h = rw (le-leb (at + n) limit (rw e at h)) (ap Ok e)

pub fitted-full : (at n limit : ℕ) → limit < at + n → Err (refusal no_room 0) ≡ fitted at n limit
unfolding fitted
fitted-full at n limit h = rw (lt-leb (at + n) limit h)

module _ (z : Result ℕ Refusal) (at a limit : ℕ) (e : z ≡ fitted at a limit) where
  fitted-cases : (b : Bool) → leb (at + a) limit ≡ b → (m : ℕ) → z ≡ Ok m → z ≡ pick b (Ok (at + a)) (Err (refusal no_room 0))
      → (m ≡ at + a) × (m ≤ limit)
  fitted-cases true h m f g = let i : m ≡ at + a = cc in let k = leb-true (at + a) limit h in (i, omega arith)
  fitted-cases false h m f g = let i : ◌≡◌ {A = ℕ} 0 1 = cc in absurd (omega arith)

  pub fitted-next : (m : ℕ) → z ≡ Ok m → (m ≡ at + a) × (m ≤ limit)
  unfolding fitted
  fitted-next m f = fitted-cases (leb (at + a) limit) refl m f e

  refused-cases : (b : Bool) → leb (at + a) limit ≡ b → (r : Refusal) → z ≡ Err r → z ≡ pick b (Ok (at + a)) (Err (refusal no_room 0))
      → (limit < at + a) × (r ≡ refusal no_room 0)
  refused-cases true h r f g = let i : ◌≡◌ {A = ℕ} 0 1 = cc in absurd (omega arith)
  refused-cases false h r f g = let i : r ≡ refusal no_room 0 = cc in (omega (arith, leb-false (at + a) limit h), i)

  pub fitted-refused : (r : Refusal) → z ≡ Err r → (limit < at + a) × (r ≡ refusal no_room 0)
  unfolding fitted
  fitted-refused r f = refused-cases (leb (at + a) limit) refl r f e

  -- if a bytes fit, then b more fit after them exactly if a + b fit
  pub fitted-on : (m b : ℕ) → z ≡ Ok m → fitted m b limit ≡ fitted at (a + b) limit
  unfolding fitted
  fitted-on m b f = let (i, k) = fitted-next m f in let j : m + b ≡ at + (a + b) = omega arith in rw j

  pub fitted-off : (r : Refusal) (b : ℕ) → z ≡ Err r → Err r ≡ fitted at (a + b) limit
  fitted-off r b f = let (k, i) = fitted-refused r f in ap Err i ∙ fitted-full at (a + b) limit (omega arith)
