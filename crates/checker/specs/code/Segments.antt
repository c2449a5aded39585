-- What the loop over a plan returns, with memos of at most `most` bytes. Assumes nothing.
use Rattle.wire.specs.declared.Refusal.{Refusal}
use Rattle.transaction.specs.declared.Layout.{Layout}
use Rattle.std.specs.Prelude.{ℕ, ◌+◌, List, length, Ok, Err, Some, None, Option, Result}
use Rattle.transaction.specs.Plan.{content_of, Plan, shut, end, field, many}
use Rattle.transaction.specs.Form.{list_of, form, field_asks, element_asks, asked, wanted}

module _ (most : ℕ) where
  -- the answer for the first segment of a plan
  abbrev pub passed_at : Plan → List ℕ → ℕ → Result (Option (ℕ × ℕ)) Refusal
  passed_at shut s at = (Ok None)
  passed_at end s at = (Ok None)
  passed_at (field f q) s at = (content_of most f).parse s at Err (λ v n. Ok (Some (length (field_asks f v), n)))
  passed_at (many l least q) s at = (list_of l least).parse s at Err (λ v n. Ok (Some (length (asked (element_asks l) v), n)))

  -- the answer for all segments of a plan, where w credentials are wanted before them and the inputs start at `inputs`
  abbrev pub plan_at : ℕ → ℕ → ℕ → Plan → List ℕ → ℕ → Result Layout Refusal
  plan_at type_id inputs w p s at =
      (form most p).parse s at Err (λ v n.
      Ok record { type_id = type_id; inputs_at = inputs; credentials_count = w + length (wanted p v); credentials_at = n })
