-- The answer of the check: the layout of what is accepted, or the refusal. Assumes nothing.
use Rattle.wire.specs.declared.Refusal.{Refusal}
use Rattle.std.specs.Prelude.{ℕ, ◌+◌, List, length, Ok, Err, Result}
use Rattle.wire.specs.Numbers.{number_of}
use Rattle.wire.specs.Format.{on_result}
use Rattle.transaction.specs.Plan.{type_id, plan}
use Rattle.transaction.specs.Form.{list_of, Value, form, wanted}
use Rattle.transaction.specs.Family.{head, Unsigned, check}
use Rattle.transaction.specs.Avm.{avm}
use Rattle.transaction.specs.declared.TransactionType.{TransactionType}
use Rattle.transaction.specs.declared.ListName.TheVariants as N
use Rattle.transaction.specs.declared.Layout.{Layout}

-- the memo's limit in the base
abbrev pub memo_most : ℕ
memo_most = 256

-- ---- with memos of at most `most` bytes

module _ (most : ℕ) where
  -- the layout of a transaction whose outputs' count is at `at`
  abbrev pub layout_from : (k : TransactionType) → ℕ → Value (plan k) → Layout
  layout_from k at v =
      record {
        type_id = type_id k;
        inputs_at = at + length ((list_of N.Output 0).write v.0);
        credentials_count = length (wanted (plan k) v);
        credentials_at = at + length ((form most (plan k)).write v);
      }

  abbrev pub layout : Unsigned (avm most) → Layout
  layout u = layout_from u.0.type (length ((head (avm most)).write u.0)) u.1

  -- the answer of the check
  abbrev pub checked : List ℕ → Result (Layout × ℕ) Refusal
  checked s = on_result (check (avm most) s) Err (λ v n. Ok (layout v.0, n))

-- the number and the place that an answer reports: 0 and the length for an accepted transaction
abbrev pub checked_number : Result (Layout × ℕ) Refusal → ℕ
checked_number (Ok (layout, bytes)) = 0
checked_number (Err e) = number_of e

abbrev pub checked_place : Result (Layout × ℕ) Refusal → ℕ
checked_place (Ok (layout, bytes)) = bytes
checked_place (Err e) = e.place
