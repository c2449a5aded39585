-- Rows stored in a table, counted, and found by index; and what the code says of them if es are the entries ahead of the first cursor.
-- Assumes nothing.
use Rattle.std.specs.Prelude.{◌≡◌, ℕ, ◌+◌, ◌-◌, ◌*◌, ◌%◌, List, [], ◌∷◌, ◌++◌, length, take, drop, leb, Some, None, Option}
use Rattle.wire.specs.Bytes.{pick}
use Rattle.transaction.specs.Entries.{EntryAt, nth}
use Rattle.entry_walk.specs.code.Walk.{located, start, Ahead, First}
use Rattle.entry_walk.specs.declared.Row.{Row}
use Rattle.entry_table.specs.declared.rows.Entries.{Entries}

-- kind, start, length, as 32-bit integers
abbrev pub numbers : Row → List ℕ
numbers r = r.kind ∷ r.start % 4294967296 ∷ (r.end - r.start) % 4294967296 ∷ []

-- t with row i stored, if it has room for it
unfoldable pub put_row : ℕ → Row → List ℕ → List ℕ
put_row i r t = take (3 * i) t ++ (numbers r ++ drop (3 * i + 3) t)

-- t with the rows of all entries stored, from row i on
unfoldable pub put_rows : ℕ → List EntryAt → List ℕ → List ℕ
put_rows i [] t = t
put_rows i (e ∷ es) t = put_rows (i + 1) es (put_row i (located e) t)

-- the number of entries, if there is room for that many
abbrev pub counted_rows : ℕ → List EntryAt → Option ℕ
counted_rows room es = pick (leb (length es) room) (Some (length es)) None

abbrev pub row_of : Option EntryAt → Option Row
row_of None = None
row_of (Some e) = Some (located e)

unfoldable pub Counts : ℕ → ℕ → List ℕ → Option ℕ → Type 0
Counts room type_id s r = (most : ℕ) (es : List EntryAt) → Ahead s most type_id start es → r ≡ counted_rows room es

unfoldable pub Finds : ℕ → ℕ → List ℕ → Option Row → Type 0
Finds n type_id s r = (most : ℕ) (es : List EntryAt) → Ahead s most type_id start es → r ≡ row_of (nth es n)

unfoldable pub Puts : ℕ → ℕ → List ℕ → List ℕ → List ℕ → Type 0
Puts n type_id s t u = (most : ℕ) (es : List EntryAt) → Ahead s most type_id start es → length es ≡ n → u ≡ put_rows 0 es t

-- ---- the iterator over the rows

-- es are the entries ahead of e
abbrev pub RowsAhead : Entries → ℕ → List EntryAt → Type 0
RowsAhead e most es = Ahead e.bytes.now most e.type_id e.cursor es

-- all entries are ahead of e
unfoldable pub Begins : List ℕ → ℕ → Entries → Type 0
Begins s type_id e = (most : ℕ) (es : List EntryAt) → Ahead s most type_id start es → RowsAhead e most es

-- r is the row of the first of es, and the others are ahead of f; or there is none
abbrev pub FirstRow : Option Row → Entries → ℕ → List EntryAt → Type 0
FirstRow (Some r) f most es = First f.bytes.now most f.type_id r f.cursor es
FirstRow None f most es = es ≡ []

unfoldable pub NextRow : Entries → Option Row → Entries → Type 0
NextRow e r f = (most : ℕ) (es : List EntryAt) → RowsAhead e most es → FirstRow r f most es
