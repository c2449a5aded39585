-- The check with a table: what is stored is the rows of the entries. Assumes nothing.
use Rattle.std.specs.Prelude.{Ok, Err, Some, None, Option, Result}
use Prim.Native.Nat.{ℕ, suc, ◌+◌, ◌-◌, ◌*◌, ◌/◌, ◌%◌, ◌≤◌, ◌<◌}
use mathlib.Core.Path.{◌≡◌, refl, sym, ap, ap₂, ◌∙◌, subst}
use mathlib.Core.Bool.{Bool, true, false}
use mathlib.Core.List.{List, [], ◌∷◌, ◌++◌, append_assoc}
use native.Mathlib.Omega.{arith}
use native.Mathlib.Nat.{mod-eq_of_lt, mod-lt, div-add-mod', zero-lt-suc}
use lib.ListN.{length, take, drop, length-append, take-append-drop}
use lib.Seq.{take_at, drop_at, drop-drop, length-take-le}
use lib.Dec.{leb}
use borrow.Author.Tests.{le-leb, lt-leb, leb-true, leb-false}
use Rattle.wire.specs.declared.Refusal.{Refusal}
use Rattle.wire.specs.Bytes.{pick}
use Rattle.wire.specs.Numbers.{refusal, no_room}
use Rattle.wire.specs.Format.{on_result}
use Rattle.std.specs.Option.{ok_or}
use Rattle.std.specs.Result.{IsErr, IsErrAnd}
use Rattle.wire.proofs.Trying.{passed-on, some-ok, none-err}
use Rattle.wire.proofs.Bytes.{Slice, slice-bytes, found}
use Rattle.transaction.specs.Entries.{EntryAt, row, rows}
use Rattle.transaction.specs.Family.{entries}
use Rattle.transaction.specs.Avm.{avm}
use Rattle.transaction.specs.Answer.{checked}
use Rattle.transaction.specs.declared.Layout.{Layout}
use Rattle.transaction.proofs.Codec.{codec}
use Rattle.transaction.proofs.Verdicts.{checked-accepted}
use Rattle.entry_walk.specs.code.Walk.{located, start, Ahead}
use Rattle.entry_walk.proofs.Starting.{started}
use Rattle.entry_table.specs.code.Rows.{numbers, put_row, put_rows, counted_rows, Counts, Puts}
use Rattle.entry_table.specs.Table.{filled, listed, tabled}
use Rattle.entry_table.proofs.Looping.{length-put_row}
use Rattle.entry_table.proofs.Inside.{Inside, entries-inside}

flat : List EntryAt → List ℕ
flat [] = []
flat (e ∷ es) = numbers (located e) ++ flat es

-- storing the rows one by one stores them all
put_all : (i : ℕ) (es : List EntryAt) (t : List ℕ) → 3 * (i + length es) ≤ length t
    → put_rows i es t ≡ take (3 * i) t ++ (flat es ++ drop (3 * (i + length es)) t)
unfolding put_rows flat put_row
put_all i [] t h = let e : i + 0 ≡ i = omega arith in rw e (sym (take-append-drop (3 * i) t))
put_all i (x ∷ es) t h =
    let r : List ℕ = numbers (located x) in
    let a : List ℕ = take (3 * i) t in
    let z : List ℕ = drop (3 * i + 3) t in
    let long : length a ≡ 3 * i = length-take-le (3 * i) t (omega arith) in
    let n : ℕ = length es in
    let front : take (3 * (i + 1)) (a ++ (r ++ z)) ≡ a ++ r =
    rw (← append_assoc a r z) (take_at (a ++ r) z (3 * (i + 1)) (omega (arith, length-append a r))) in
    let u : List ℕ = a ++ (r ++ z) in
    let three : length (a ++ r) ≡ 3 * i + 3 = omega (arith, length-append a r) in
    let there : 3 * (i + 1 + n) ≡ 3 * i + 3 + 3 * n = omega arith in
    let here : 3 * i + 3 + 3 * n ≡ 3 * (i + suc n) = omega arith in
    let back : drop (3 * (i + 1 + n)) u ≡ drop (3 * (i + suc n)) t =
    ap (λ (k : ℕ). drop k u) there ∙ sym (drop-drop (3 * n) (3 * i + 3) u)
    ∙ ap (drop (3 * n)) (ap (drop (3 * i + 3)) (sym (append_assoc a r z)) ∙ drop_at (a ++ r) z (3 * i + 3) three)
    ∙ drop-drop (3 * n) (3 * i + 3) t ∙ ap (λ (k : ℕ). drop k t) here in
    let room : 3 * (i + 1 + n) ≤ length u = omega (arith, length-put_row i (located x) t (omega arith)) in
    put_all (i + 1) es u room ∙ ap₂ (λ (p q : List ℕ). p ++ (flat es ++ q)) front back ∙ regroup a r (flat es) (drop (3 * (i + suc n)) t)
  where
    regroup : (a b c d : List ℕ) → (a ++ b) ++ (c ++ d) ≡ a ++ ((b ++ c) ++ d)
    regroup a b c d = simp append_assoc

-- offsets and lengths that fit in 32 bits are stored unchanged
flat_rows : (hi : ℕ) (es : List EntryAt) → hi < 4294967296 → Inside hi es → flat es ≡ rows es
unfolding flat rows
flat_rows hi [] h i = refl
flat_rows hi (e ∷ es) h (a, c, i) =
    let s : e.start % 4294967296 ≡ e.start = mod-eq_of_lt (omega arith) in
    let l : (e.end - e.start) % 4294967296 ≡ e.end - e.start = mod-eq_of_lt (omega arith) in
    rw (s, l, flat_rows hi es h i)

pub length-rows : (es : List EntryAt) → length (rows es) ≡ 3 * length es
unfolding rows
length-rows [] = refl
length-rows (e ∷ es) = omega (arith, length-append (row e) (rows es), length-rows es)

-- ---- what the answers of the check and of the count say

module _ (most : ℕ) (s t : List ℕ) (x : Result (Layout × ℕ) Refusal) (p : x ≡ checked most s) where
  module _ (w : Layout) (k : ℕ) (q : x ≡ Ok (w, k)) (b : Slice s) where
    -- the entries ahead of the first cursor, which are stored unchanged
    record Meets : Type 0 where
      es : List EntryAt
      ahead : Ahead s most w.type_id start es
      all : tabled most s t ≡ listed k es t
      small : flat es ≡ rows es

    meets : Meets
    meets =
        let (v, r, h) = checked-accepted most s w k (found q p) in
        let (wr, _) = (codec (avm most)).write-after-read s v k (slice-bytes s b) r in
        record {
          es = entries (avm most) v;
          ahead = subst (λ (w : Layout). Ahead s most w.type_id start (entries (avm most) v)) (sym h) (started s b most v k r);
          all = ap (λ o. on_result o (λ e. filled (Err e) t) (λ v end. listed end (entries (avm most) v) t)) r;
          small = flat_rows (length s) (entries (avm most) v) (omega (arith, wr.short)) (entries-inside most s v wr);
        }

    module _ (y : Option ℕ) (d : Counts (length t / 3) w.type_id s y) where
      abbrev counted : y ≡ counted_rows (length t / 3) meets.es
      unfolding Counts
      counted = d most meets.es meets.ahead

      too-many : y ≡ None → (f : Refusal) → f ≡ refusal no_room 0 → filled (Err f) t ≡ tabled most s t
      too-many e f made =
          let es : List EntryAt = meets.es in
          let many : length t / 3 < length es = over (length t / 3) (length es) (found counted e) in
          let few = mod-lt (length t) (zero-lt-suc 2) in
          ap (λ (r : Refusal). filled (Err r) t) made
          ∙ sym (meets.all ∙ rw (lt-leb (length (rows es)) (length t) (omega (arith, length-rows es, div-add-mod' (length t) 3))))
        where
          over : (m n : ℕ) → pick (leb n m) (Some n) None ≡ None → m < n
          over m n = go (leb n m) refl
            where
              go : (b : Bool) → leb n m ≡ b → pick b (Some n) None ≡ None → m < n
              go true e h = let z : ◌≡◌ {A = ℕ} 0 1 = cc in absurd (omega arith)
              go false e h = leb-false n m e

      rows-inv : (m n k : ℕ) → pick (leb n m) (Some n) None ≡ Some k → (n ≤ m) × (n ≡ k)
      rows-inv m n k = go (leb n m) refl
        where
          go : (b : Bool) → leb n m ≡ b → pick b (Some n) None ≡ Some k → (n ≤ m) × (n ≡ k)
          go true e h = (leb-true n m e, cc)
          go false e h = let z : ◌≡◌ {A = ℕ} 0 1 = cc in absurd (omega arith)

      pub on-too-many : (f : Refusal) (z : Result ℕ Refusal) (e : Refusal) → z ≡ ok_or y f → z ≡ Err e → f ≡ refusal no_room 0
          → (r : Result (ℕ × ℕ) Refusal) → IsErr r × IsErrAnd r (λ d. d ≡ e) → filled r t ≡ tabled most s t
      on-too-many f z e p q made r h =
          let (none, same) = none-err y f z p e q in
          ap (λ (r : Result (ℕ × ℕ) Refusal). filled r t) (passed-on r e h) ∙ too-many none e (same ∙ made)

      module _ (f : Refusal) (z : Result ℕ Refusal) (n : ℕ) (made : z ≡ ok_or y f) (i : z ≡ Ok n) where
        abbrev e : y ≡ Some n
        e = some-ok y f z made n i

        pub rows_fit : 3 * n ≤ length t
        rows_fit =
            let (few, same) = rows-inv (length t / 3) (length meets.es) n (found counted e) in
            omega (arith, div-add-mod' (length t) 3)

        pub on-rows : (u : List ℕ) → Puts n w.type_id s t u → filled (Ok (n, k)) u ≡ tabled most s t
        unfolding Puts
        on-rows u h =
            let es : List EntryAt = meets.es in
            let (few, same) = rows-inv (length t / 3) (length es) n (found counted e) in
            let fit = rows_fit in
            let long = length-rows es in
            let last : 3 * (0 + length es) ≡ length (rows es) = omega arith in
            let put : u ≡ rows es ++ drop (length (rows es)) t =
            h most es meets.ahead same ∙ put_all 0 es t (omega arith) ∙ ap₂ (λ (p : List ℕ) (i : ℕ). p ++ drop i t) meets.small last in
            ap₂ filled (ap (λ (m : ℕ). Ok (m, k)) (sym same)) put ∙ sym (meets.all ∙ rw (le-leb (length (rows es)) (length t) (omega arith)))
