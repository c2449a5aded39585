-- Steps of the iterator over the rows, by the steps of the walk. Assumes nothing.
use Rattle.std.specs.Prelude.{◌≡◌, ℕ, ◌≤◌, ◌<◌, List, [], ◌∷◌, length, map, Some, None}
use Rattle.std.specs.Iterator.{AlwaysYields}
use Rattle.std.proofs.lemmas.Iterator.{YieldsList}
use mathlib.Core.Path.{sym, ap, ◌∙◌, subst}
use native.Mathlib.Omega.{arith}
use Rattle.transaction.specs.Entries.{EntryAt}
use Rattle.entry_walk.specs.code.Walk.{located, start, Ahead, Advances, AdvanceAhead, ahead, Below, Shorter}
use Rattle.entry_walk.specs.declared.Cursor.{Cursor}
use Rattle.entry_walk.specs.declared.Row.{Row}
use Rattle.entry_walk.specs.declared.Advance.{Advance}
use Rattle.entry_walk.specs.declared.Advance.TheVariants as T
use Rattle.entry_table.specs.declared.rows.Entries.{Entries}
use Rattle.entry_table.specs.code.Rows.{RowsAhead, Begins, NextRow}

pub beginning : (e : Entries) → e.cursor ≡ start → Begins e.bytes.now e.type_id e
unfolding Begins
beginning e h most es a = subst (λ (c : Cursor). Ahead e.bytes.now most e.type_id c es) (sym h) a

-- what was ahead of e is ahead of f, which is no further from the end
pub record Moved (e f : Entries) : Type 0 where
  pub less : ahead f.cursor ≤ ahead e.cursor
  pub kept : (most : ℕ) (es : List EntryAt) → RowsAhead e most es → RowsAhead f most es

-- a step from the cursor of e, in a call of `next` that began at i
module _ (i e : Entries) (m : Moved i e) (r : Advance) (p : AdvanceAhead e.type_id e.bytes.now e.cursor r) where
  pub moved-on : (d : Cursor) → r ≡ T.Moved d → Shorter e.cursor r → Moved i record { bytes = e.bytes; type_id = e.type_id; cursor = d }
  unfolding AdvanceAhead
  moved-on d q l =
      let k : ahead d < ahead e.cursor = subst (Below (ahead e.cursor)) q l in
      record {
        less = omega (arith, k, m.less);
        kept = λ most es a. subst (Advances e.bytes.now most e.type_id es) q (p most es (m.kept most es a));
      }

  pub none-left : r ≡ T.Done → NextRow i None e
  unfolding AdvanceAhead NextRow
  none-left q most es a = subst (Advances e.bytes.now most e.type_id es) q (p most es (m.kept most es a))

  pub one-met : (row : Row) (d : Cursor) → r ≡ T.Found row d → NextRow i (Some row) record { bytes = e.bytes; type_id = e.type_id; cursor = d }
  unfolding AdvanceAhead NextRow
  one-met row d q most es a = subst (Advances e.bytes.now most e.type_id es) q (p most es (m.kept most es a))

pub ruleset stepping = (moved-on, none-left, one-met)

-- ---- the iterator gives the rows of the entries ahead of it

not-none : (x : EntryAt) (l : List EntryAt) → ◌≡◌ {A = List EntryAt} [] (x ∷ l) → ⊥
not-none x l q = let z : 0 ≡ length (x ∷ l) = ap length q in omega arith

module _ (most : ℕ) where
  yielded : (es : List EntryAt) (e : Entries) → RowsAhead e most es → AlwaysYields NextRow (λ r. r) e (map located es)
  unfolding NextRow
  yielded [] e a = λ r f h. let x = h most [] a in not-none x.entry x.others x.all
  yielded (x ∷ es) e a = (
    λ f h. not-none x es (sym (h most (x ∷ es) a)),
    λ r f h.
        let y = h most (x ∷ es) a in
        let i : x ≡ y.entry = cc in
        let j : es ≡ y.others = cc in
        (y.row ∙ ap located (sym i), yielded es f (subst (RowsAhead f most) (sym j) y.ahead)),
  )

  pub rows-yielded : (s : List ℕ) (type_id : ℕ) (es : List EntryAt) (e : Entries) → Begins s type_id e → Ahead s most type_id start es
      → YieldsList NextRow (λ r. r) e (map located es)
  unfolding Begins
  rows-yielded s type_id es e b a = record { runs = yielded es e (b most es a) }
