use Rattle.std.proofs.Common.{arith}
use Rattle.dot_planes.proofs.LaidBytes.{eight-left, eight-right}
use Rattle.dot_planes.proofs.eights.eight_from.Goals as goal

pub returns-clause-left : goal.returns-clause-left
returns-clause-left c = λ k here. eight-left c.args.left c.args.right c.args.by k c.moved.result.1 c.moved-2.result.0 here
    (c.moved.ensures.stay k (omega arith)) (c.moved-2.ensures.left k (omega arith))

pub returns-clause-right : goal.returns-clause-right
returns-clause-right c = λ k low next. eight-right c.args.left c.args.right c.args.by k c.moved.result.1 c.moved-2.result.0 next
    (c.moved.ensures.stay k low) (c.moved-2.ensures.left k low)
