-- What the readers of a transaction return, as the two continuations of a format's parser. Assumes nothing.
use Rattle.wire.specs.declared.Refusal.{Refusal}
use Rattle.std.specs.Prelude.{ℕ, ◌≡◌, List, length, eqb, Ok, Err, Result}
use Rattle.wire.specs.Bytes.{pick}
use Rattle.wire.specs.Numbers.{refusal, bytes_after_end}
use Rattle.wire.specs.Format.{took, read}
use Rattle.wire.specs.code.Answer.{ended}
use Rattle.transaction.specs.Credentials.{credentials}
use Rattle.transaction.specs.Plan.{type_id}
use Rattle.transaction.specs.Form.{list_of}
use Rattle.transaction.specs.Family.{head, Unsigned, unsigned, wants}
use Rattle.transaction.specs.Avm.{avm}
use Rattle.transaction.specs.Answer.{memo_most, layout}
use Rattle.transaction.specs.declared.ListName.{ListName}
use Rattle.transaction.specs.declared.Layout.{Layout}

-- a list: the number of its elements, and the offset just past them
abbrev pub list_at : ListName → ℕ → List ℕ → ℕ → Result (ℕ × ℕ) Refusal
list_at l least s at = (list_of l least).parse s at Err (λ v n. Ok (length v, n))

-- codec, type, network, chain id: the type's number, and the offset just past them; the memo's limit does not matter here
abbrev pub head_at : List ℕ → ℕ → Result (ℕ × ℕ) Refusal
head_at s at = (head (avm memo_most)).parse s at Err (λ h n. Ok (type_id h.type, n))

-- the unsigned part, with memos of at most `most` bytes
abbrev pub unsigned_at : ℕ → List ℕ → Result Layout Refusal
unsigned_at most s = (unsigned (avm most)).parse s 0 Err (λ u n. Ok (layout most u))

-- r is the answer for the credentials that follow an unsigned part with layout w
abbrev pub CredentialsAt : Layout → List ℕ → Result ℕ Refusal → Type 0
CredentialsAt w s r =
    (most : ℕ) (u : Unsigned (avm most)) (at : ℕ) → read (unsigned (avm most)) s 0 ≡ took u at → w ≡ layout most u
    → r ≡ ended (credentials (wants (avm most) u)) s at

-- r is the answer for these credentials with nothing after them
abbrev pub SignedAt : Layout → List ℕ → Result (Layout × ℕ) Refusal → Type 0
SignedAt w s r =
    (most : ℕ) (u : Unsigned (avm most)) (at : ℕ) → read (unsigned (avm most)) s 0 ≡ took u at → w ≡ layout most u
    → r ≡ (credentials (wants (avm most) u)).parse s at Err (λ l n. pick (eqb n (length s)) (Ok (w, n)) (Err (refusal bytes_after_end n)))
