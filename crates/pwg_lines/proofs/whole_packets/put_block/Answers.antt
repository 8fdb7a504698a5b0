use Rattle.std.proofs.Common.{◌+◌, arith}
use Rattle.std.proofs.lemmas.Simd.{take_more_put_chunk}
use Rattle.pwg_lines.proofs.whole_packets.put_block.Goals as goal

pub returns : goal.returns
returns c = take_more_put_chunk c.args.filled c.args.line.now c.args.block (c.args.filled + 64) (omega (arith, c.fits-block.0)) c.requires
