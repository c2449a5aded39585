-- `test_exports::put_output` meets its contract. Assumes nothing.
use Rattle.test_exports.specs.code.Values.{output_values}
use Rattle.test_exports.proofs.Putting.{put_one, put_two, put-nft-transfer, by-case}
use Rattle.test_exports.proofs.put_output.Goals as goal

pub returns-in-SecpMint : goal.returns-in-SecpMint
returns-in-SecpMint c = search (by-case output_values, put_one)

pub returns-in-SecpTransfer : goal.returns-in-SecpTransfer
returns-in-SecpTransfer c = search (by-case output_values, put_two)

pub returns-in-NftMint : goal.returns-in-NftMint
returns-in-NftMint c = search (by-case output_values, put_two)

pub returns-in-NftTransfer : goal.returns-in-NftTransfer
returns-in-NftTransfer c = put-nft-transfer _ _ _ _ _ c.in-NftTransfer.is _ _ _ _ _ _ c.put-in-NftTransfer.ensures c.put-in-NftTransfer-2.ensures
    c.put-in-NftTransfer-3.ensures
    c.put-in-NftTransfer-4.ensures c.put_owners-in-NftTransfer.ensures
