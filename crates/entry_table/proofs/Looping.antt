-- What is counted, found and stored, by the rows that the iterator gives. Assumes nothing.
use Rattle.std.specs.Prelude.{◌≡◌, ℕ, min, leb, Bool, true, false, zero, suc, ◌+◌, ◌-◌, ◌*◌, ◌≤◌}
use Rattle.std.specs.Prelude.{List, [], ◌∷◌, ◌++◌, length, map, fold, take, drop, Some, None, Option}
use mathlib.Core.Path.{refl, sym, ap, ◌∙◌, subst}
use native.Mathlib.Omega.{arith}
use native.Mathlib.Numerals.{sub-one}
use lib.ListN.{length-append, length-drop}
use lib.Seq.{drop-drop, length-take-le}
use borrow.Author.Tests.{le-leb, leb-true, leb-false, lt-leb, ne_eqb}
use Rattle.std.specs.Option.{option_map, MatchOption}
use Rattle.std.specs.Bool.{then_some}
use Rattle.std.specs.Int.Bits.{bit_and}
use borrow.Rule.Slice.PartMut.{put_mid}
use Rattle.std.proofs.lemmas.Nat.{and_mask}
use Rattle.std.specs.List.{slice_get, zip, range_with_len}
use Rattle.std.specs.Iterator.{Yields, YieldsThen, Drains}
use Rattle.std.specs.Iterator.Adapters.{take_source, take_count, take_steps, zip_first, zip_second}
use Rattle.std.specs.declared.iter.Take.{Take}
use Rattle.std.specs.declared.iter.Zip.{Zip}
use Rattle.std.specs.declared.ops.Range.{Range}
use Rattle.std.proofs.iter.Yields.{nat_range_steps}
use Rattle.std.proofs.lemmas.List.{length-take, length-map}
use Rattle.std.proofs.lemmas.Iterator.{YieldsList, YieldsList-from_take, YieldsList-from_range, YieldsList-from_zip, zips}
use Rattle.std.proofs.lemmas.Iterator.Consumers.{nth_from_yields_List, count_from_yields_List, YieldsList-end}
use Rattle.wire.specs.Bytes.{pick}
use Rattle.transaction.specs.Entries.{EntryAt, nth}
use Rattle.entry_walk.specs.code.Walk.{located}
use Rattle.entry_walk.specs.declared.Row.{Row}
use Rattle.entry_table.specs.declared.rows.Entries.{Entries}
use Rattle.entry_table.specs.code.Rows.{numbers, put_row, put_rows, row_of, Begins, NextRow, Counts, Finds, Puts}
use Rattle.entry_table.proofs.Stepping.{rows-yielded}

-- ---- counting rows

-- the lesser of the number of rows and one more than there is room for
counted : (room n r : ℕ) → r ≡ min (room + 1) n → then_some (leb r room) r ≡ pick (leb n room) (Some n) None
counted room n r h = go (leb n room) refl
  where
    go : (b : Bool) → leb n room ≡ b → then_some (leb r room) r ≡ pick (leb n room) (Some n) None
    go true e = let l = leb-true n room e in let q : r ≡ n = omega arith in rw (q, le-leb n room l) refl
    go false e = let l = leb-false n room e in rw (lt-leb r room (omega arith), lt-leb n room l) refl

module _ (s : List ℕ) (type_id : ℕ) (e : Entries) (b : Begins s type_id e) where
  pub count-most : (room : ℕ) (t : Take Entries) (r : ℕ) (z : Option ℕ) → take_source t ≡ e → take_count t ≡ room + 1
      → ((xs : List Row) × Drains (take_steps NextRow) t xs × (r ≡ length xs)) → z ≡ then_some (leb r room) r → Counts room type_id s z
  unfolding Counts
  count-most room t r z p q h k most es a =
      let y = rows-yielded most s type_id es e b a in
      let g : YieldsList (take_steps NextRow) (λ r. r) t (take (room + 1) (map located es)) =
      YieldsList-from_take (room + 1) (subst (λ (e : Entries). YieldsList NextRow (λ r. r) e (map located es)) (sym p) y) q in
      let n : r ≡ length (take (room + 1) (map located es)) = count_from_yields_List t r h g in
      k ∙ counted room (length es) r (n ∙ length-take (room + 1) (map located es) ∙ ap (min (room + 1)) (length-map es located))

-- ---- finding entry n

nth-row : (es : List EntryAt) (n : ℕ) → slice_get (map located es) n ≡ row_of (nth es n)
unfolding nth
nth-row [] n = refl
nth-row (e ∷ es) zero = refl
nth-row (e ∷ es) (suc n) =
    rw (ne_eqb (suc n) 0 (λ q. omega arith), sub-one (suc n)) (nth-row es n)

module _ (s : List ℕ) (type_id : ℕ) (e : Entries) (b : Begins s type_id e) where
  -- entry n, by the number m that `nth` was given
  pub find-nth : (n m : ℕ) (r : Option Row) (u : Entries) → ((xs : List Row) × YieldsThen NextRow e xs r u × MatchOption r (length xs ≤ m) (λ _. length xs ≡ m))
      → m ≡ n → Finds n type_id s r
  unfolding Finds
  find-nth n m r u h i most es a =
      same r (nth_from_yields_List r u m h (rows-yielded most s type_id es e b a) ∙ nth-row es m ∙ ap (λ (k : ℕ). row_of (nth es k)) i)
    where
      same : (r : Option Row) {x : Option Row} → option_map (λ r. r) r ≡ x → r ≡ x
      same (Some r) h = h
      same None h = h

-- ---- storing rows

abbrev pub store : List ℕ → ℕ × Row → List ℕ
store t p = put_row p.0 p.1 t

stored : (i n : ℕ) (es : List EntryAt) (t : List ℕ) → length es ≡ n → fold store t (zip (range_with_len i n) (map located es)) ≡ put_rows i es t
unfolding put_rows
stored i zero [] t h = refl
stored i (suc n) (e ∷ es) t h = stored (i + 1) n es (put_row i (located e) t) (omega arith)
stored i zero (e ∷ es) t h = absurd (omega arith)
stored i (suc n) [] t h = absurd (omega arith)

same-pairs : (xs : List (ℕ × Row)) → map (λ p. (p.0, p.1)) xs ≡ xs
same-pairs [] = refl
same-pairs (x ∷ xs) = ap (λ l. x ∷ l) (same-pairs xs)

module _ (s : List ℕ) (type_id : ℕ) (e : Entries) (b : Begins s type_id e) where
  abbrev pairs : Zip (Range ℕ) Entries → Option (ℕ × Row) → Zip (Range ℕ) Entries → Type 0
  pairs = zips nat_range_steps NextRow

  pub put-each : (n : ℕ) (t u : List ℕ) (z w : Zip (Range ℕ) Entries) → zip_first z ≡ record { start = 0; end = n } → zip_second z ≡ e → w ≡ z
      → (xs : List (ℕ × Row)) (v y : Zip (Range ℕ) Entries) (r : Option (ℕ × Row)) → Yields pairs w xs v → r ≡ None → pairs v r y
      → u ≡ fold store t xs → Puts n type_id s t u
  unfolding Puts
  put-each n t u z w f g p xs v y r h q k j most es a l =
      let rows = subst (λ (e : Entries). YieldsList NextRow (λ r. r) e (map located es)) (sym (ap zip_second p ∙ g)) (rows-yielded most s type_id es e b a) in
      let all = YieldsList-from_zip (YieldsList-from_range 0 n n (ap zip_first p ∙ f) (omega arith)) rows in
      let given = YieldsList-end all xs v h r y q k in
      j ∙ ap (fold store t) (sym (same-pairs xs) ∙ given.0) ∙ stored 0 n es t l

pub row-put : (i : ℕ) (r : Row) (l : ℕ) (t w : List ℕ) → l ≡ r.end - r.start
    → w ≡ r.kind ∷ bit_and r.start 4294967295 ∷ bit_and l 4294967295 ∷ [] → put_mid (3 * i) (3 * i + 3 - 3 * i) t w ≡ put_row i r t
unfolding put_row
row-put i r l t w p q =
    let k : 3 * i + 3 - 3 * i ≡ 3 = omega arith in
    rw (k, q, p, and_mask r.start 32, and_mask (r.end - r.start) 32, drop-drop 3 (3 * i) t) refl

pub length-put_row : (i : ℕ) (r : Row) (t : List ℕ) → 3 * i + 3 ≤ length t → length (put_row i r t) ≡ length t
unfolding put_row
length-put_row i r t h =
    omega (
      arith,
      length-append (take (3 * i) t) (numbers r ++ drop (3 * i + 3) t),
      length-append (numbers r) (drop (3 * i + 3) t),
      length-take-le (3 * i) t (omega arith),
      length-drop (3 * i + 3) t,
    )
