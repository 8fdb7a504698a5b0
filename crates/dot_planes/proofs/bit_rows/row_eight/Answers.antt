use Rattle.dot_planes.proofs.LaidBytes.{pair-is}
use Rattle.dot_planes.proofs.bit_rows.row_eight.Goals as goal

pub returns : goal.returns
returns c = λ j low. pair-is c.args.bytes.now c.args.i c.args.by j c.eight_from.result c.requires.by low
    (c.eight_from.ensures.left j) (c.eight_from.ensures.right j low)
