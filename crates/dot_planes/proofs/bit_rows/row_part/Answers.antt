use Rattle.std.proofs.Common.{arith}
use Rattle.dot_planes.proofs.LaidBytes.{part-cut}
use Rattle.dot_planes.proofs.bit_rows.row_part.Goals as goal

pub returns-then-left-lt8 : goal.returns-then-left-lt8
returns-then-left-lt8 c = λ j low. part-cut c.args.row.now
    c.args.dots c.args.i j c.requires.some c.if-left-lt8.true low (omega (arith, c.type_inv.row c.args.i))
