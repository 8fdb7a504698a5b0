use Rattle.std.proofs.Common.{◌+◌, ◌*◌, arith}
use Rattle.dot_planes.proofs.WordCounts.{part_more}
use Rattle.dot_planes.proofs.counts.count_words.Goals as goal

pub words-preserved : goal.words-preserved
words-preserved c =
    let more = part_more (8 * c.words.i) 8 (8 * (c.words.i + 1)) c.args.bytes.now (omega arith) in
    record {
      so_far = omega (arith, more, c.count_word-dots.ensures.is, c.words.invariant.so_far);
      most = omega (arith, c.words.invariant.most, c.count_word-dots.ensures.most);
    }
