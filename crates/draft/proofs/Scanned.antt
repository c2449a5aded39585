-- In a transaction the scan by the counts stored there finds exactly its slots. For any unsigned format and any credentials wanted.
-- Assumes nothing.
use Rattle.std.specs.Prelude.{Some, None, Option}
use mathlib.Core.Path.{◌≡◌, refl, sym, ap, ◌∙◌, subst}
use mathlib.Core.List.{List, [], ◌∷◌, ◌++◌, append_assoc, append-nil}
use Prim.Native.Nat.{ℕ, zero, suc, ◌+◌, ◌*◌, ◌≤◌}
use native.Mathlib.Omega.{arith}
use lib.ListN.{length, drop, length-append}
use lib.Seq.{drop_at}
use Rattle.wire.specs.Bytes.{Bytes}
use Rattle.wire.specs.laws.Bytes.{bytes-append, drop-step}
use Rattle.wire.specs.Format.{Format}
use Rattle.wire.specs.Fields.{integer, blob}
use Rattle.wire.specs.laws.Sizes.{length-integer}
use Rattle.transaction.specs.Slots.{signature_width}
use Rattle.transaction.specs.Credentials.{Want, credential_code, Piece, signatures, each, layout, pieces, credentials, places}
use Rattle.transaction.specs.Signed.{assemble, Parts}
use Rattle.draft_slots.specs.code.Scan.{range_at, on_range, slot_range, scan_from}
use Rattle.draft_slots.specs.declared.SlotRange.{SlotRange}

-- n signatures are a slot range, and the other slots follow it
places-range : (n : ℕ) (ps : List Piece) (p : ℕ) → places p (signatures n ps) ≡ slot_range n p ++ places (p + 65 * n) ps
unfolding places signatures slot_range signature_width
places-range zero ps p = let e : p ≡ p + 65 * 0 = omega arith in ap (λ (i : ℕ). places i ps) e
places-range (suc n) ps p =
    let e : p + 65 + 65 * n ≡ p + 65 * suc n = omega arith in
    ap (λ (l : List ℕ). p ∷ l) (places-range n ps (p + 65) ∙ ap (λ (i : ℕ). slot_range n (p + 65) ++ places i ps) e)

-- the bytes of n signatures, and the signatures after them
pub record Split (n : ℕ) (ps : List Piece) (l : List (List ℕ)) : Type 0 where
  pub front : List ℕ
  pub others : List (List ℕ)
  pub good : (pieces ps).Good others
  pub written : (pieces (signatures n ps)).write l ≡ front ++ (pieces ps).write others
  pub long : length front ≡ 65 * n
  pub bytes : Bytes front

pub split : (n : ℕ) (ps : List Piece) (l : List (List ℕ)) → (pieces (signatures n ps)).Good l → Split n ps l
unfolding pieces signatures signature_width
split zero ps l g = record { front = []; others = l; good = g; written = refl; long = omega arith; bytes = tt }
split (suc n) ps [] g = absurd g
split (suc n) ps (b ∷ l) g =
    let r = split n ps l g.1 in
    record {
      front = b ++ r.front;
      others = r.others;
      good = r.good;
      written = ap (λ (z : List ℕ). b ++ z) r.written ∙ sym (append_assoc b r.front ((pieces ps).write r.others));
      long = omega (arith, length-append b r.front, r.long, g.0.0);
      bytes = bytes-append b r.front g.0.1 r.bytes;
    }

-- the bytes just past an integer
after-integer : (s : List ℕ) (q v : ℕ) (t : List ℕ) → drop q s ≡ (integer 4).write v ++ t → drop (q + 4) s ≡ t
after-integer s q v t h = subst (λ (n : ℕ). drop (q + n) s ≡ t) (length-integer 4 v) (drop-step s q ((integer 4).write v) t h)

abbrev pub slots : ℕ → ℕ → ℕ → Option SlotRange
slots p n next = Some (record { first = p; count = n; next = next })

-- the slots of the credential at offset q, and the bytes after them
module _ (s : List ℕ) (q t n : ℕ) (x rest : List ℕ) (gt : (integer 4).Good t) (gn : (integer 4).Good n) (lx : length x ≡ 65 * n) (bx : Bytes x)
    (h : drop q s ≡ (integer 4).write t ++ ((integer 4).write n ++ (x ++ rest))) where
  at_count : drop (q + 4) s ≡ (integer 4).write n ++ (x ++ rest)
  at_count = after-integer s q t ((integer 4).write n ++ (x ++ rest)) h

  at-signatures : drop (q + 4 + 4) s ≡ x ++ rest
  at-signatures = after-integer s (q + 4) n (x ++ rest) at_count

  pub after-signatures : drop (q + 4 + 4 + 65 * n) s ≡ rest
  after-signatures = subst (λ (i : ℕ). drop (q + 4 + 4 + i) s ≡ rest) lx (drop-step s (q + 4 + 4) x rest at-signatures)

  pub range-there : range_at s q ≡ slots (q + 4 + 4) n (q + 4 + 4 + 65 * n)
  unfolding blob
  range-there =
      (blob 4).complete s q ((integer 4).write t) ((integer 4).write n ++ (x ++ rest)) (λ e. None) (λ b i. counted i)
      (length-integer 4 t, (integer 4).bytes t gt) h
      ∙ ap (λ (i : ℕ). counted (q + i)) (length-integer 4 t)
      ∙ (integer 4).complete s (q + 4) n (x ++ rest) (λ e. None) signed gn at_count
      ∙ ap (λ (i : ℕ). signed n (q + 4 + i)) (length-integer 4 n)
      ∙ (blob (65 * n)).complete s (q + 4 + 4) x rest (λ e. None) (λ b next. slots (q + 4 + 4) n next) (lx, bx) at-signatures
      ∙ ap (λ (i : ℕ). slots (q + 4 + 4) n (q + 4 + 4 + i)) lx
    where
      signed : ℕ → ℕ → Option SlotRange
      signed c first = (blob (65 * c)).parse s first (λ e. None) (λ b next. slots first c next)

      counted : ℕ → Option SlotRange
      counted i = (integer 4).parse s i (λ e. None) signed

-- three byte strings, one after the other, the third in two pieces
pub regroup : (a b c x y rest : List ℕ) → c ≡ x ++ y → (a ++ (b ++ c)) ++ rest ≡ a ++ (b ++ (x ++ (y ++ rest)))
regroup a b c x y rest e = rw e (simp append_assoc)

scan-each : (ws : List Want) (l : List (List ℕ)) (s : List ℕ) (q : ℕ) (rest : List ℕ) → (pieces (each ws)).Good l
    → drop q s ≡ (pieces (each ws)).write l ++ rest
    → scan_from (length ws) s q ≡ places q (each ws)
unfolding each pieces scan_from places integer
scan-each [] l s q rest g h = refl
scan-each (w ∷ ws) l s q rest g h =
    let n : ℕ = w.signatures in
    let t : ℕ = credential_code w.type in
    let r : Split n (each ws) l = split n (each ws) l g.1.1 in
    let y : List ℕ = (pieces (each ws)).write r.others ++ rest in
    let k : drop q s ≡ (integer 4).write t ++ ((integer 4).write n ++ (r.front ++ y)) =
    h ∙ regroup ((integer 4).write t) ((integer 4).write n) ((pieces (signatures n (each ws))).write l) r.front ((pieces (each ws)).write r.others) rest
    r.written in
    ap (λ (u : Option SlotRange). on_range u [] (λ first c next. slot_range c first ++ scan_from (length ws) s next))
    (range-there s q t n r.front y g.0.0 g.1.0.0 r.long r.bytes k)
    ∙ ap (λ (ps : List ℕ). slot_range n (q + 4 + 4) ++ ps)
    (scan-each ws r.others s (q + 4 + 4 + 65 * n) rest r.good (after-signatures s q t n r.front y g.0.0 g.1.0.0 r.long r.bytes k))
    ∙ sym (places-range n (each ws) (q + 4 + 4))

module _ {U : Type 0} (body : Format U) (wants : U → List Want) (d : List ℕ) (u : U) (l : List (List ℕ)) (p : Parts body wants d u l) where
  abbrev at : ℕ
  at = length (body.write u)

  abbrev ws : List Want
  ws = wants u

  abbrev signed : List ℕ
  signed = (pieces (each ws)).write l

  same_bytes : d ≡ body.write u ++ ((integer 4).write (length ws) ++ signed)
  unfolding assemble credentials layout pieces integer
  same_bytes = p.same

  pub count_fits : at + 4 ≤ length d
  count_fits =
      omega (
        arith,
        ap length same_bytes,
        length-append (body.write u) ((integer 4).write (length ws) ++ signed),
        length-append ((integer 4).write (length ws)) signed,
        length-integer 4 (length ws),
      )

  -- the credentials follow their count
  pub past-count : drop (at + 4) d ≡ signed ++ []
  past-count =
      let k : drop at d ≡ (integer 4).write (length ws) ++ signed =
      ap (drop at) same_bytes ∙ drop_at (body.write u) ((integer 4).write (length ws) ++ signed) at refl in
      after-integer d at (length ws) signed k ∙ sym (append-nil signed)

  pub scanned : scan_from (length ws) d (at + 4) ≡ places at (layout ws)
  unfolding credentials layout pieces places integer
  scanned = scan-each ws l d (at + 4) [] p.signatures-good.1 past-count
