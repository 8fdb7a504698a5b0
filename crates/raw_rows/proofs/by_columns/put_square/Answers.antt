use Rattle.std.proofs.Common.{arith}
use Rattle.std.proofs.lemmas.Simd.{length-put_chunk}
use Rattle.raw_rows.proofs.Columns.{put_more}
use Rattle.raw_rows.proofs.by_columns.put_square.Goals as goal

pub loop-i-preserved : goal.loop-i-preserved
loop-i-preserved c = grind (arith, length-put_chunk, put_more)
