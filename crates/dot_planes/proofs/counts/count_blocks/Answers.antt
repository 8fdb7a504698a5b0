use Rattle.std.proofs.Common.{◌+◌, ◌*◌, arith}
use Rattle.dot_planes.proofs.WordCounts.{part_more}
use Rattle.dot_planes.proofs.counts.count_blocks.Goals as goal

pub parts-preserved : goal.parts-preserved
parts-preserved c =
    let more = part_more (64 * c.parts.i) 64 (64 * (c.parts.i + 1)) c.args.bytes.now (omega arith) in
    record {
      so_far = omega (arith, more, c.count_block-dots.ensures.is, c.parts.invariant.so_far);
      most = omega (arith, c.parts.invariant.most, c.count_block-dots.ensures.most);
    }
