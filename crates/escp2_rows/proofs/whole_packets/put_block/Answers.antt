use Rattle.std.proofs.Common.{◌+◌, arith}
use Rattle.std.proofs.lemmas.Simd.{take_more_put_chunk}
use Rattle.escp2_rows.proofs.whole_packets.put_block.Goals as goal

pub returns : goal.returns
returns c = take_more_put_chunk c.args.filled c.args.out.now c.args.block (c.args.filled + 16) (omega (arith, c.fits-block.0)) c.requires
