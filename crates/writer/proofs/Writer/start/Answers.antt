-- `writer::Writer::start` meets its contract. Assumes nothing.
use Rattle.std.proofs.Common.{rules}
use Prim.Native.Nat.{◌<◌, ◌^◌}
use mathlib.Core.Path.{◌≡◌}
use native.Mathlib.Omega.{arith}
use lib.ListN.{length}
use Rattle.writer.proofs.Laws.{ready-is, ready-long}
use Rattle.writer.proofs.Methods.{start-unready, start-refused, start_is}
use Rattle.writer.proofs.Writer.start.Goals as goal

pub returns-in-Err : goal.returns-in-Err
returns-in-Err c = search start-unready

pub returns-in-Err-type_rules : goal.returns-in-Err-type_rules
returns-in-Err-type_rules c = search (rules, start-refused, ready-is, ready-long) depth 8

pub returns : goal.returns
returns c = let k : c.args.type_id < 256 ^ 4 = omega (arith, c.ranges.type_id.fits) in
    let n : c.args.network < 256 ^ 4 = omega (arith, c.ranges.network.fits) in
    let l : length c.args.chain ≡ 32 = search rules in
    search (start_is, l, k, n, ready-is, ready-long) depth 8
