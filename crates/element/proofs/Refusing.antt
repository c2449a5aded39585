-- The rules that the elements of a transaction are refused by. Assumes nothing.
use Prim.Native.Nat.{ℕ}
use mathlib.Core.Path.{refl}
use mathlib.Core.List.{List, [], ◌∷◌}
use lib.ListN.{take}
use lib.Dec.{ltb}
use Rattle.wire.specs.declared.Rule.{Rule}
use Rattle.wire.specs.Numbers.{rule_of, cut_short, unknown_type, zero_amount, out_of_order, bad_threshold, bad_length}
use Rattle.wire.specs.Format.{Format}
use Rattle.wire.specs.Fields.{integer, blob, constant}
use Rattle.wire.specs.Sequence.{and_then, guard, tag}
use Rattle.wire.specs.Series.{above, not_below, count_prefixed, increasing}
use Rattle.wire.proofs.Refusing.{RefusesBy, NumberIn, one_of, blob-refuses, integer-refuses, constant-refuses, then-refuses, guard-refuses}
use Rattle.wire.proofs.Refusing.{mapped-refuses, tag-refuses, series-refuses, above-refuses, not_below-refuses, counted-refuses}
use Rattle.string.specs.Strings.{payload}
use Rattle.string.proofs.Refusing.{string-refuses}
use Rattle.owners.specs.Owners.{address_width, threshold_fits, owners}
use Rattle.element.specs.Outputs.{amount, OutputType, secp_mint, secp_transfer, nft_mint, nft_transfer, output_code, output_type, output_type-code}
use Rattle.element.specs.Outputs.{transfer_body, output_body, output, transferable_output}
use Rattle.element.specs.Inputs.{key, indices, spend, input_after}
use Rattle.element.specs.Operations.{OperationType, mint_nft, transfer_nft, operation_code, operation_type, operation_type-code, operation_owners}
use Rattle.element.specs.Operations.{terms, action, operation, Fx, secp_fx, nft_fx, fx_code, fx_of, fx_of-code, fx_outputs, fx_id, state_outputs}
use Rattle.element.specs.Operations.{initial_state_after, initial_state}

module _ (P : Rule → Type 0) (short : P (rule_of cut_short)) where
  id-refuses : RefusesBy (blob 32) P
  id-refuses = blob-refuses P 32 short

  four-refuses : RefusesBy (integer 4) P
  four-refuses = integer-refuses P 4 short

  amount-refuses : P (rule_of zero_amount) → RefusesBy amount P
  unfolding amount
  amount-refuses h = guard-refuses P (integer 8) (λ n. ltb 0 n) zero_amount (integer-refuses P 8 short) h

  key-refuses : RefusesBy key P
  unfolding key
  key-refuses = then-refuses P (blob 32) (λ id. integer 4) id-refuses (λ id. four-refuses)

  module _ (order : P (rule_of out_of_order)) where
    indices-refuses : RefusesBy indices P
    unfolding indices
    indices-refuses = counted-refuses P (integer 4) (above (integer 4)) four-refuses (λ prev. above-refuses P (integer 4) prev four-refuses order)

    -- ---- owners and outputs

    module _ (threshold : P (rule_of bad_threshold)) where
      owners-refuses : RefusesBy owners P
      unfolding owners
      owners-refuses =
          let bound : Format (ℕ × ℕ) = guard (and_then (integer 4) (λ threshold. integer 4)) (λ v. threshold_fits v.0 v.1) bad_threshold in
          mapped-refuses P (and_then (integer 8) (λ locktime. and_then bound (λ v. increasing (blob address_width) v.1)))
          (λ (locktime, ((threshold, count), list)). record { locktime = locktime; threshold = threshold; addresses = list })
          (then-refuses P (integer 8) (λ locktime. and_then bound (λ v. increasing (blob address_width) v.1)) (integer-refuses P 8 short) λ locktime.
          then-refuses P bound (λ v. increasing (blob address_width) v.1)
          (guard-refuses P (and_then (integer 4) (λ threshold. integer 4)) (λ v. threshold_fits v.0 v.1) bad_threshold
          (then-refuses P (integer 4) (λ threshold. integer 4) four-refuses (λ n. four-refuses)) threshold)
          (λ v. series-refuses P (above (blob address_width)) [] v.1
          (λ prev. above-refuses P (blob address_width) prev (blob-refuses P address_width short) order)))

      transfer-refuses : P (rule_of zero_amount) → RefusesBy transfer_body P
      unfolding transfer_body
      transfer-refuses h = then-refuses P amount (λ n. owners) (amount-refuses h) (λ n. owners-refuses)

      module _ (type : P (rule_of unknown_type)) where
        module _ (zero : P (rule_of zero_amount)) (long : P (rule_of bad_length)) where
          body-refuses : (k : OutputType) → RefusesBy (output_body k) P
          body-refuses secp_mint = owners-refuses
          body-refuses secp_transfer = transfer-refuses zero
          body-refuses nft_mint = then-refuses P (integer 4) (λ group. owners) four-refuses (λ group. owners-refuses)
          body-refuses nft_transfer =
              then-refuses P (integer 4) (λ group. and_then payload (λ p. owners)) four-refuses λ group.
              then-refuses P payload (λ p. owners) (string-refuses P short 4 1024 long) (λ p. owners-refuses)

          output-refuses : (types : List OutputType) → RefusesBy (output types) P
          unfolding output
          output-refuses types =
              then-refuses P (tag output_code output_type output_type-code (integer 4) types unknown_type) output_body
              (tag-refuses P output_code output_type output_type-code (integer 4) types unknown_type four-refuses type) body-refuses

          pub transferable-refuses : RefusesBy transferable_output P
          unfolding transferable_output
          transferable-refuses =
              mapped-refuses P (and_then (blob 32) (λ asset. output (secp_transfer ∷ []))) (λ (asset, out). record { asset = asset; output = out })
              (then-refuses P (blob 32) (λ asset. output (secp_transfer ∷ [])) id-refuses (λ asset. output-refuses (secp_transfer ∷ [])))

          -- ---- initial states

          outputs-refuse : (k : Fx) → RefusesBy (state_outputs k) P
          unfolding state_outputs
          outputs-refuse k =
              counted-refuses P (integer 4) (not_below (output (fx_outputs k))) four-refuses
              (λ prev. not_below-refuses P (output (fx_outputs k)) prev (output-refuses (fx_outputs k)) order)

          fx-refuses : RefusesBy fx_id P
          unfolding fx_id
          fx-refuses = tag-refuses P fx_code fx_of fx_of-code (integer 4) (secp_fx ∷ nft_fx ∷ []) unknown_type four-refuses type

          pub state-refuses : (before : List ℕ) → RefusesBy (initial_state_after before) P
          unfolding initial_state_after
          state-refuses before =
              mapped-refuses P (and_then (above fx_id before) state_outputs) (λ (k, list). record { fx = k; outputs = list })
              (then-refuses P (above fx_id before) state_outputs (above-refuses P fx_id before fx-refuses order) outputs-refuse)

        -- ---- operations

        module _ (long : P (rule_of bad_length)) where
          terms-refuse : RefusesBy terms P
          unfolding terms
          terms-refuse =
              then-refuses P indices (λ list. and_then (integer 4) (λ group. payload)) indices-refuses λ list.
              then-refuses P (integer 4) (λ group. payload) four-refuses (λ group. string-refuses P short 4 1024 long)

          recipients-refuse : (k : OperationType) → RefusesBy (operation_owners k) P
          recipients-refuse mint_nft = counted-refuses P (integer 4) (λ prev. owners) four-refuses (λ prev. owners-refuses)
          recipients-refuse transfer_nft = owners-refuses

          action-refuses : RefusesBy action P
          unfolding action
          action-refuses =
              then-refuses P (tag operation_code operation_type operation_type-code (integer 4) (mint_nft ∷ transfer_nft ∷ []) unknown_type)
              (λ k. and_then terms (λ v. operation_owners k))
              (tag-refuses P operation_code operation_type operation_type-code (integer 4) (mint_nft ∷ transfer_nft ∷ []) unknown_type four-refuses type) λ k.
              then-refuses P terms (λ v. operation_owners k) terms-refuse (λ v. recipients-refuse k)

          pub operation-refuses : RefusesBy operation P
          unfolding operation
          operation-refuses =
              mapped-refuses P (and_then (blob 32) (λ asset. and_then (count_prefixed (integer 4) (above key)) (λ pairs. action)))
              (λ (asset, (pairs, (k, (v, o)))). record { asset = asset; outputs = pairs; terms = v; owners = (k, o) })
              (then-refuses P (blob 32) (λ asset. and_then (count_prefixed (integer 4) (above key)) (λ pairs. action)) id-refuses λ asset.
              then-refuses P (count_prefixed (integer 4) (above key)) (λ pairs. action)
              (counted-refuses P (integer 4) (above key) four-refuses (λ prev. above-refuses P key prev key-refuses order)) (λ pairs. action-refuses))

    -- ---- inputs

    spend-refuses : P (rule_of unknown_type) → P (rule_of zero_amount) → RefusesBy spend P
    unfolding spend
    spend-refuses type zero =
        then-refuses P (blob 32) (λ asset. and_then (constant 4 5 unknown_type) (λ type. and_then amount (λ n. indices))) id-refuses λ asset.
        then-refuses P (constant 4 5 unknown_type) (λ type. and_then amount (λ n. indices)) (constant-refuses P 4 5 unknown_type short type) λ u.
        then-refuses P amount (λ n. indices) (amount-refuses zero) (λ n. indices-refuses)

    pub input-refuses : P (rule_of unknown_type) → P (rule_of zero_amount) → (before : List ℕ) → RefusesBy (input_after before) P
    unfolding input_after
    input-refuses type zero before =
        mapped-refuses P (and_then (above key before) (λ k. spend))
        (λ ((txid, index), (asset, (type, (n, list)))). record { txid = txid; index = index; asset = asset; amount = n; indices = list })
        (then-refuses P (above key before) (λ k. spend) (above-refuses P key before key-refuses order) (λ k. spend-refuses type zero))

-- ---- the numbers of these rules, as lists

abbrev pub operation_numbers : List ℕ
operation_numbers = 2 ∷ 4 ∷ 6 ∷ 7 ∷ 8 ∷ []

pub operation-numbers : RefusesBy operation (NumberIn operation_numbers)
operation-numbers =
    let in_List = one_of operation_numbers in
    operation-refuses (NumberIn operation_numbers) (in_List 2 refl) (in_List 6 refl) (in_List 7 refl) (in_List 4 refl) (in_List 8 refl)

-- 5 as well: the outputs of an initial state have amounts
abbrev pub state_numbers : List ℕ
state_numbers = 2 ∷ 4 ∷ 5 ∷ 6 ∷ 7 ∷ 8 ∷ []

pub state-numbers : (prev : List ℕ) → RefusesBy (initial_state prev) (NumberIn state_numbers)
state-numbers prev =
    let in_List = one_of state_numbers in
    state-refuses (NumberIn state_numbers) (in_List 2 refl) (in_List 6 refl) (in_List 7 refl) (in_List 4 refl) (in_List 5 refl)
    (in_List 8 refl) (take 4 prev)
