use Rattle.std.proofs.Common.{sym, subst, arith}
use Rattle.dot_planes.proofs.LaidBytes.{IsPartBefore, laid_byte-is, none-before, part-before}
use Rattle.dot_planes.proofs.bit_rows.laid_byte.Goals as goal
use Rattle.dot_planes.proofs.bit_rows.laid_byte.Goals.{in-Some, in-None}

pub returns : goal.returns
returns c = λ j low.
    let before : IsPartBefore c.args.row.now c.args.dots c.args.i c.match-checked_sub.left = elim c.match-checked_sub.branch [
      | in-Some w ↦ subst (IsPartBefore c.args.row.now c.args.dots c.args.i) (sym w.left-is)
          (part-before c.args.row.now c.args.dots w.in-Some.last c.args.i w.part_or_none-left.result
          (omega (arith, w.in-Some.ensures)) w.part_or_none-left.ensures)
      | in-None w ↦ subst (IsPartBefore c.args.row.now c.args.dots c.args.i) (sym w.left-is)
          (none-before c.args.row.now c.args.dots c.args.i (omega (arith, w.in-None.ensures)))
    ] in
    laid_byte-is c.args.row.now c.args.dots c.args.before
    c.args.i j c.match-checked_sub.left c.part_or_none-here.result c.eight_from.result
    c.requires.before low before c.part_or_none-here.ensures (c.eight_from.ensures.left j) (c.eight_from.ensures.right j low)
