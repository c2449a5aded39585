-- Entry n, by what the check returned and which row was found. Assumes nothing.
use Rattle.std.specs.Prelude.{Ok, Err, Some, None, Option, Result}
use Rattle.std.specs.Option.{option_map, unwrap_or, ok_or}
use Rattle.std.specs.Result.{IsErr, IsErrAnd}
use Prim.Native.Nat.{ℕ, ◌-◌}
use mathlib.Core.Path.{◌≡◌, refl, sym, ap, ap₂, ◌∙◌, subst}
use mathlib.Core.Bool.{Bool, true, false}
use mathlib.Core.List.{List, [], ◌∷◌}
use lib.Dec.{eqb}
use Rattle.wire.specs.declared.Refusal.{Refusal}
use Rattle.wire.specs.Bytes.{pick}
use Rattle.wire.specs.Numbers.{refusal, no_entry}
use Rattle.wire.specs.Format.{on_result}
use Rattle.wire.proofs.Trying.{passed-on, some-ok, none-err}
use Rattle.wire.proofs.Bytes.{Slice, found}
use Rattle.transaction.specs.Entries.{EntryAt, nth}
use Rattle.transaction.specs.Family.{entries, entry}
use Rattle.transaction.specs.Avm.{avm}
use Rattle.transaction.specs.Answer.{checked}
use Rattle.transaction.specs.declared.Layout.{Layout}
use Rattle.transaction.proofs.Verdicts.{checked-accepted}
use Rattle.entry_walk.specs.code.Walk.{located, start, Ahead}
use Rattle.entry_walk.proofs.Starting.{started}
use Rattle.entry_walk.proofs.Each.{Each}
use Rattle.entry_table.specs.code.Rows.{row_of, Finds}
use Rattle.entry_walk.specs.declared.Row.{Row}
use Rattle.entry.specs.Entry.{refused_entry, missing_entry, found_entry, entry_answer, entry_of}
use Rattle.entry.specs.code.Typed.{with_ids, row_entry, read_entry}
use Rattle.entry.specs.declared.EntryRead.{EntryRead}
use Rattle.entry.proofs.Standing.{Standing, entries-stand}

-- if the fields at the row of an entry are the entry, the row is read as the entry
row-stands : (s : List ℕ) (k : ℕ) (e : EntryAt) → Standing s e → row_entry s k (located e) ≡ Some (found_entry k e)
row-stands s k e h =
    ap (option_map (with_ids s k (located e))) h.typed
    ∙ ap₂ (λ (a t : List ℕ). Some record { answer = Ok record { fields = e.fields; start = e.start; end = e.end; bytes = k }; asset = a; txid = t })
    h.asset h.txid

-- entry n by its row
abbrev entry_by : List ℕ → ℕ → Option Row → EntryRead
entry_by s k (Some r) = unwrap_or (row_entry s k r) missing_entry
entry_by s k None = missing_entry

nth-stands : (s : List ℕ) (k : ℕ) (es : List EntryAt) → Each (Standing s) es → (n : ℕ) → entry_by s k (row_of (nth es n)) ≡ entry_answer k (nth es n)
unfolding nth
nth-stands s k [] h n = refl
nth-stands s k (e ∷ es) (h, hs) n = go (eqb n 0) (nth-stands s k es hs (n - 1))
  where
    go : (b : Bool) → entry_by s k (row_of (nth es (n - 1))) ≡ entry_answer k (nth es (n - 1))
        → entry_by s k (row_of (pick b (Some e) (nth es (n - 1)))) ≡ entry_answer k (pick b (Some e) (nth es (n - 1)))
    go true i = ap (λ (r : Option EntryRead). unwrap_or r missing_entry) (row-stands s k e h)
    go false i = i

read-or : (o : Option EntryRead) (f : Refusal) → read_entry (ok_or o f) ≡ unwrap_or o (refused_entry f)
read-or (Some r) f = refl
read-or None f = refl

-- ---- by what the check returned and which row was found

module _ (most : ℕ) (s : List ℕ) (n : ℕ) (x : Result (Layout × ℕ) Refusal) (p : x ≡ checked most s) (w : Layout) (k : ℕ) (q : x ≡ Ok (w, k)) (b : Slice s)
    (y : Option Row) (d : Finds n w.type_id s y) where
  entry-by : entry_by s k y ≡ entry_of most s n
  unfolding Finds
  entry-by =
      let (v, r, l) = checked-accepted most s w k (found q p) in
      let es : List EntryAt = entries (avm most) v in
      let h : Ahead s most w.type_id start es = subst (λ (w : Layout). Ahead s most w.type_id start es) (sym l) (started s b most v k r) in
      ap (entry_by s k) (d most es h)
      ∙ nth-stands s k es (entries-stand s b most w.type_id es h) n
      ∙ sym (ap (λ o. on_result o refused_entry (λ v end. entry_answer end (entry (avm most) v n))) r)

  module _ (f : Refusal) (o : Result Row Refusal) (i : o ≡ ok_or y f) where
    pub entry-missing : (e : Refusal) → o ≡ Err e → f ≡ refusal no_entry 0 → (z : Result EntryRead Refusal) → IsErr z × IsErrAnd z (λ d. d ≡ e)
        → read_entry z ≡ entry_of most s n
    entry-missing e j g z h =
        let (none, same) = none-err y f o i e j in
        ap read_entry (passed-on z e h) ∙ ap refused_entry (same ∙ g) ∙ sym (ap (entry_by s k) none) ∙ entry-by

    pub entry_found : (r : Row) → o ≡ Ok r → (a : Option EntryRead) → a ≡ row_entry s k r → (g : Refusal) → g ≡ refusal no_entry 0
        → (z : Result EntryRead Refusal) → z ≡ ok_or a g → read_entry z ≡ entry_of most s n
    entry_found r j a h g made z l =
        ap read_entry l ∙ read-or a g ∙ ap₂ (λ (a : Option EntryRead) (g : Refusal). unwrap_or a (refused_entry g)) h made
        ∙ sym (ap (entry_by s k) (some-ok y f o i r j)) ∙ entry-by

pub ruleset entering = (entry-missing, entry_found)
