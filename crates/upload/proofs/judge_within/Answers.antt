-- `upload::judge_within` meets its contract. Assumes nothing.
use mathlib.Core.Path.{sym}
use native.Mathlib.Omega.{arith}
use Prim.Native.Nat.{ℕ}
use lib.ListN.{length-replicate}
use lib.Seq.{length-take-le}
use Rattle.upload.proofs.judge_within.Goals as goal

pub slice_bounds-judge-end : goal.slice_bounds-judge-end
slice_bounds-judge-end g c = sym (length-take-le _ _ (omega (arith, length-replicate {A = ℕ}, c.requires)))

pub judge-requires : goal.judge-requires
judge-requires g c = record {
  piece_in_bounds = c.requires.piece_in_bounds;
  aside_len = length-take-le _ _ (omega (arith, length-replicate {A = ℕ}, c.requires));
}
