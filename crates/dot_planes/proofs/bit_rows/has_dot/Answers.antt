use Rattle.std.proofs.Common.{◌+◌, ◌*◌, sym, arith}
use Rattle.dot_planes.specs.Tables.{row_dot}
use Rattle.dot_planes.proofs.LaidRows.{Bit, any-no, any-some, before-next, part-dot, part-none, some-bit}
use Rattle.dot_planes.proofs.bit_rows.has_dot.Goals as goal

pub returns-then-row_part-ne0 : goal.returns-then-row_part-ne0
returns-then-row_part-ne0 c =
    let bit : Bit c.row_part.result = some-bit c.row_part.result c.row_part.type_inv c.if-row_part-ne0.true in
    let dot = part-dot c.args.row.now c.args.dots c.loop-i.i c.row_part.result bit.at c.row_part.ensures bit.low bit.on in
    sym (any-some (row_dot c.args.row.now) c.args.dots (8 * c.loop-i.i + bit.at) dot.0 dot.1)

pub loop-i-preserved : goal.loop-i-preserved
loop-i-preserved c = grind (arith, before-next, part-none)

pub returns : goal.returns
returns c = sym (any-no (row_dot c.args.row.now) c.args.dots (λ k low. c.loop-i.invariant.none k (omega arith) low))
