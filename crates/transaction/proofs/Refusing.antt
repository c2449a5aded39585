-- The rules that the unsigned part of a transaction and the whole are refused by. Assumes nothing.
use mathlib.Core.Path.{◌≡◌, refl, sym, subst}
use Prim.Native.Nat.{ℕ}
use mathlib.Core.List.{List, [], ◌∷◌}
use lib.ListN.{take}
use lib.Dec.{leb}
use Rattle.wire.specs.declared.Rule.{Rule}
use Rattle.wire.specs.Numbers.{number_of, ReadingRule, rule_of, cut_short, wrong_codec, unknown_type, zero_amount, out_of_order, bad_threshold, bad_length}
use Rattle.wire.specs.Numbers.{not_printable, bad_denomination, empty_list, wrong_count}
use Rattle.wire.specs.Format.{refused}
use Rattle.wire.specs.declared.Refusal.{Refusal}
use Rattle.wire.specs.Fields.{integer, blob, constant}
use Rattle.wire.specs.Sequence.{and_then, guard, tag}
use Rattle.wire.specs.Orders.{OneOf}
use Rattle.wire.proofs.Refusing.{RefusesBy, NumberIn, one_of, blob-refuses, integer-refuses, constant-refuses, then-refuses, guard-refuses}
use Rattle.wire.proofs.Refusing.{mapped-refuses, only-refuses, tag-refuses, not_below-refuses, counted-refuses, whole-refuses}
use Rattle.string.proofs.Refusing.{string-refuses, text-refuses, denomination-refuses}
use Rattle.wire.specs.Series.{not_below}
use Rattle.element.specs.Outputs.{transferable_output}
use Rattle.element.specs.Inputs.{key_width, input}
use Rattle.element.proofs.Refusing.{transferable-refuses, input-refuses, operation-refuses, state-refuses}
use Rattle.transaction.specs.Signed as AnySigned
use Rattle.transaction.specs.Signed.{most_bytes}
use Rattle.transaction.specs.Plan.{content_of, elements_of, Plan, shut, end, field, many}
use Rattle.transaction.specs.Form.{at_least, list_of, form}
use Rattle.transaction.specs.Family.{Family, head, unsigned, signed, check}
use Rattle.transaction.specs.declared.FieldName.{FieldName}
use Rattle.transaction.specs.declared.FieldName.TheVariants as F
use Rattle.transaction.specs.declared.ListName.{ListName}
use Rattle.transaction.specs.declared.ListName.TheVariants as L

module _ (P : Rule → Type 0) (short : P (rule_of cut_short)) where
  module _ (F : Family) (codec : P (rule_of wrong_codec)) (type : P (rule_of unknown_type)) where
    head-refuses : RefusesBy (head F) P
    unfolding head
    head-refuses =
        mapped-refuses P
        (and_then (constant 2 0 wrong_codec) (λ codec.
        and_then (tag F.type_id F.type_of F.type_of-id (integer 4) F.types unknown_type) (λ k.
        and_then (integer 4) (λ network. blob 32))))
        (λ (codec, (k, (network, chain))). record { type = k; network = network; chain = chain })
        (then-refuses P (constant 2 0 wrong_codec) (λ codec.
        and_then (tag F.type_id F.type_of F.type_of-id (integer 4) F.types unknown_type) (λ k.
        and_then (integer 4) (λ network. blob 32))) (constant-refuses P 2 0 wrong_codec short codec) λ u.
        then-refuses P (tag F.type_id F.type_of F.type_of-id (integer 4) F.types unknown_type) (λ k. and_then (integer 4) (λ network. blob 32))
        (tag-refuses P F.type_id F.type_of F.type_of-id (integer 4) F.types unknown_type (integer-refuses P 4 short) type) λ k.
        then-refuses P (integer 4) (λ network. blob 32) (integer-refuses P 4 short) (λ network. blob-refuses P 32 short))

  module _ (type : P (rule_of unknown_type)) (zero : P (rule_of zero_amount)) (order : P (rule_of out_of_order)) (threshold : P (rule_of bad_threshold))
      (long : P (rule_of bad_length)) (print : P (rule_of not_printable)) (denomination : P (rule_of bad_denomination)) where
    -- ---- by name

    field-refuses : (most : ℕ) (f : FieldName) → RefusesBy (content_of most f) P
    field-refuses most F.Memo = string-refuses P short 4 most long
    field-refuses most F.Name = text-refuses P short 128 long print
    field-refuses most F.Symbol = text-refuses P short 4 long print
    field-refuses most F.Denomination = denomination-refuses P short denomination
    field-refuses most F.Chain = blob-refuses P 32 short

    outputs-refuse : (prev : List ℕ) → RefusesBy (not_below transferable_output prev) P
    outputs-refuse prev = not_below-refuses P transferable_output prev (transferable-refuses P short order threshold type zero long) order

    inputs-refuse : (prev : List ℕ) → RefusesBy (input prev) P
    inputs-refuse prev = input-refuses P short order type zero (take key_width prev)

    elements-refuse : (l : ListName) (prev : List ℕ) → RefusesBy ((elements_of l).element prev) P
    elements-refuse L.Output = outputs-refuse
    elements-refuse L.Input = inputs-refuse
    elements-refuse L.State = λ prev. state-refuses P short order threshold type zero long (take 4 prev)
    elements-refuse L.Operation = λ prev. operation-refuses P short order threshold type long
    elements-refuse L.Imported = inputs-refuse
    elements-refuse L.Exported = outputs-refuse

    -- ---- any plan

    module _ (none : P (rule_of empty_list)) where
      list-refuses : (l : ListName) (least : ℕ) → RefusesBy (list_of l least) P
      unfolding at_least
      list-refuses l least =
          counted-refuses P (guard (integer 4) (λ n. leb least n) empty_list) (elements_of l).element
          (guard-refuses P (integer 4) (λ n. leb least n) empty_list (integer-refuses P 4 short) none) (elements-refuse l)

      form-refuses : (most : ℕ) (p : Plan) → RefusesBy (form most p) P
      unfolding form
      form-refuses most shut = only-refuses P tt
      form-refuses most end = only-refuses P tt
      form-refuses most (field f q) = then-refuses P (content_of most f) (λ v. form most q) (field-refuses most f) (λ v. form-refuses most q)
      form-refuses most (many l least q) = then-refuses P (list_of l least) (λ v. form most q) (list-refuses l least) (λ v. form-refuses most q)

      unsigned-refuses : (F : Family) → P (rule_of wrong_codec) → RefusesBy (unsigned F) P
      unfolding unsigned
      unsigned-refuses F codec =
          then-refuses P (head F) (λ v. form F.memo_most (F.plan v.type)) (head-refuses F codec type)
          (λ v. form-refuses F.memo_most (F.plan v.type))

-- the number of every reading rule except that of the credentials' counts
abbrev pub unsigned_numbers : List ℕ
unsigned_numbers = 2 ∷ 3 ∷ 4 ∷ 5 ∷ 6 ∷ 7 ∷ 8 ∷ 9 ∷ 10 ∷ 11 ∷ []

pub unsigned-numbers : (F : Family) → RefusesBy (unsigned F) (NumberIn unsigned_numbers)
unsigned-numbers F =
    let in_List = one_of unsigned_numbers in
    unsigned-refuses (NumberIn unsigned_numbers) (in_List 2 refl) (in_List 4 refl) (in_List 5 refl) (in_List 6 refl) (in_List 7 refl) (in_List 8 refl)
    (in_List 9 refl) (in_List 10 refl) (in_List 11 refl) F (in_List 3 refl)

-- ---- the check: every reading rule, too many bytes, and bytes after the end

abbrev pub check_numbers : List ℕ
check_numbers = 1 ∷ 2 ∷ 3 ∷ 4 ∷ 5 ∷ 6 ∷ 7 ∷ 8 ∷ 9 ∷ 10 ∷ 11 ∷ 12 ∷ 13 ∷ []

rule-listed : (r : ReadingRule) → NumberIn check_numbers (rule_of r)
rule-listed cut_short = one_of check_numbers 2 refl
rule-listed wrong_codec = one_of check_numbers 3 refl
rule-listed unknown_type = one_of check_numbers 4 refl
rule-listed zero_amount = one_of check_numbers 5 refl
rule-listed out_of_order = one_of check_numbers 6 refl
rule-listed bad_threshold = one_of check_numbers 7 refl
rule-listed bad_length = one_of check_numbers 8 refl
rule-listed not_printable = one_of check_numbers 9 refl
rule-listed bad_denomination = one_of check_numbers 10 refl
rule-listed empty_list = one_of check_numbers 11 refl
rule-listed wrong_count = one_of check_numbers 12 refl

pub check-numbers : (F : Family) (s : List ℕ) (e : Refusal) → check F s ≡ refused e → OneOf (number_of e) check_numbers
unfolding AnySigned.check
check-numbers F s e =
    whole-refuses (NumberIn check_numbers) (signed F) most_bytes
    (λ s at e q. let (r, i) = (signed F).ruled s at e q in subst (NumberIn check_numbers) (sym i) (rule-listed r))
    (one_of check_numbers 1 refl) (one_of check_numbers 13 refl) s e
