use Rattle.std.proofs.Common.{arith}
use Rattle.printer_profile.proofs.Curves.{is_bad, is_good}
use Rattle.printer_profile.proofs.validity.is_curve.Goals as goal

pub returns-then-curve-place : goal.returns-then-curve-place
returns-then-curve-place c = is_bad c.args.curve.now c.points.place (omega arith) (omega arith) c.if-curve-place.true

pub returns : goal.returns
returns c = is_good c.args.curve.now (omega arith) (λ i within. c.points.invariant i (omega arith))
