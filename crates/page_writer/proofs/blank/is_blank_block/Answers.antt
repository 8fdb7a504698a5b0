use Rattle.std.proofs.Common.{arith, length, ◌<◌}
use Rattle.page_writer.proofs.Dotless.{block_more}
use Rattle.page_writer.proofs.blank.is_blank_block.Goals as goal

pub bytes-preserved : goal.bytes-preserved
bytes-preserved g c =
    let low : c.bytes.k < length c.args.block.now = omega (arith, c.told-block, c.bytes-test.true) in
    block_more c.args.block.now c.bytes.any c.bytes.k low c.bytes.invariant
