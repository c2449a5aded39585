-- `writer_transfers::input_head` meets its contract. Assumes nothing.
use Rattle.std.proofs.Common.{rules}
use Prim.Native.Nat.{◌^◌}
use mathlib.Core.Path.{refl}
use mathlib.Core.Path.{◌≡◌}
use lib.ListN.{length}
use native.Mathlib.Omega.{arith}
use native.Mathlib.Nat.{mod-eq_of_lt}
use Rattle.writer_rules.specs.code.Elements.{input_head}
use Rattle.writer_transfers.proofs.Heads.{all-put, first-bytes, then-bytes, then-integer}
use Rattle.writer_transfers.proofs.input_head.Goals as goal

pub returns : goal.returns
unfolding input_head
returns c =
    let given = c.args in
    let h : length given.asset ≡ 32 = search rules in
    let count = c.put_integer_after-4 in
    let amount = c.put_integer_after-3 in
    let type = c.put_integer_after-2 in
    let asset = c.put_bytes_after-2 in
    let index = c.put_integer_after in
    let txid = c.put_bytes_after in
    all-put count.new.room _ 84 (omega arith)
    (then-integer count.new.room amount.new.room _ 84 80 4 _ _ count.ensures refl
    (then-integer amount.new.room type.new.room _ 80 72 8 _ given.amount amount.ensures (mod-eq_of_lt {m = 256 ^ 8} (omega arith))
    (then-integer type.new.room asset.new.room _ 72 68 4 _ _ type.ensures refl
    (then-bytes asset.new.room index.new.room _ 68 36 given.asset asset.ensures (omega (arith, h))
    (then-integer index.new.room txid.new.room _ 36 32 4 _ given.index index.ensures (mod-eq_of_lt {m = 256 ^ 4} (omega arith))
    (first-bytes txid.new.room given.txid 32 txid.ensures (search rules)))))))
