-- `writer_transfers::output_head` meets its contract. Assumes nothing.
use Rattle.std.proofs.Common.{rules}
use Prim.Native.Nat.{◌^◌}
use mathlib.Core.Path.{refl}
use native.Mathlib.Omega.{arith}
use native.Mathlib.Nat.{mod-eq_of_lt}
use Rattle.writer_rules.specs.code.Elements.{output_front, output_head}
use Rattle.writer_transfers.proofs.Heads.{all-put, first-bytes, then-integer}
use Rattle.writer_transfers.proofs.output_head.Goals as goal

pub returns : goal.returns
unfolding output_front output_head
returns c =
    let given = c.args in
    let count = c.put_integer_after-5 in
    let threshold = c.put_integer_after-4 in
    let locktime = c.put_integer_after-3 in
    let amount = c.put_integer_after-2 in
    let type = c.put_integer_after in
    let asset = c.put_bytes_after in
    all-put count.new.room _ 60 (omega arith)
    (then-integer count.new.room threshold.new.room _ 60 56 4 _ _ count.ensures refl
    (then-integer threshold.new.room locktime.new.room _ 56 52 4 _ given.threshold threshold.ensures (mod-eq_of_lt {m = 256 ^ 4} (omega arith))
    (then-integer locktime.new.room amount.new.room _ 52 44 8 _ given.locktime locktime.ensures (mod-eq_of_lt {m = 256 ^ 8} (omega arith))
    (then-integer amount.new.room type.new.room _ 44 36 8 _ given.amount amount.ensures (mod-eq_of_lt {m = 256 ^ 8} (omega arith))
    (then-integer type.new.room asset.new.room _ 36 32 4 _ _ type.ensures refl
    (first-bytes asset.new.room given.asset 32 asset.ensures (search rules)))))))
