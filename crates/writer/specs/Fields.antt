-- The public steps of the AVM's writer: each adds the bytes of its fields, by the format's own `write`. Assumes nothing.
use Rattle.std.specs.Prelude.{ℕ, List}
use Rattle.transaction.specs.Plan.{Content, content_of}
use Rattle.transaction.specs.Avm.{avm}
use Rattle.transaction.specs.declared.FieldName.{FieldName}
use Rattle.transaction.specs.declared.FieldName.TheVariants as F
use Rattle.transaction.specs.declared.ListName.TheVariants as L
use Rattle.writer_rules.specs.Given.{given, output_given, input_given}
use Rattle.writer.specs.declared.Writer.{Writer}
use Rattle.writer.specs.Steps.{Turn, put_field, put_element}

-- with memos of at most `most` bytes
module _ (most : ℕ) where
  abbrev pub add_output : Writer → List ℕ → List ℕ → ℕ → ℕ → ℕ → List ℕ → Turn
  add_output w s asset amount locktime threshold addresses = put_element (avm most) w s L.Output (output_given asset amount locktime threshold addresses)

  abbrev pub add_input : Writer → List ℕ → List ℕ → ℕ → List ℕ → ℕ → List ℕ → Turn
  add_input w s txid index asset amount indices = put_element (avm most) w s L.Input (input_given txid index asset amount indices)

  abbrev pub add_operation : Writer → List ℕ → List ℕ → Turn
  add_operation w s b = put_element (avm most) w s L.Operation (given b)

  abbrev pub add_initial_state : Writer → List ℕ → List ℕ → Turn
  add_initial_state w s b = put_element (avm most) w s L.State (given b)

  -- the field f with the content v
  abbrev pub put_content : Writer → List ℕ → (f : FieldName) → Content f → Turn
  put_content w s f v = put_field (avm most) w s f (given ((content_of most f).write v))

  abbrev pub put_memo : Writer → List ℕ → List ℕ → Turn
  put_memo w s b = put_content w s F.Memo b

  abbrev pub put_name : Writer → List ℕ → List ℕ → Turn
  put_name w s b = put_content w s F.Name b

  abbrev pub put_symbol : Writer → List ℕ → List ℕ → Turn
  put_symbol w s b = put_content w s F.Symbol b

  abbrev pub put_denomination : Writer → List ℕ → ℕ → Turn
  put_denomination w s n = put_content w s F.Denomination n

  abbrev pub put_chain : Writer → List ℕ → List ℕ → Turn
  put_chain w s c = put_content w s F.Chain c
