use Rattle.std.proofs.Common.{◌++◌, ap, sym, ◌∙◌, arith}
use Rattle.printer_profile.proofs.CurveTexts.{curve_first, curve_more, curve_whole}
use Rattle.printer_profile.proofs.printing.push_curve.Goals as goal

pub points-init : goal.points-init
points-init c = record {
  bytes = c.push_number.ensures.bytes ∙ ap (λ text. c.args.out.now.bytes ++ text) (sym (curve_first c.args.curve.now (omega arith)));
  len = omega arith;
}

pub points-preserved : goal.points-preserved
points-preserved c = record {
  bytes = curve_more c.args.curve.now c.points.place c.args.out.now.bytes c.points.out.bytes _ _ (omega arith)
      (omega arith) c.points.invariant.bytes c.push_str.ensures.bytes c.push_number-in-points.ensures.bytes;
  len = omega arith;
}

pub returns-clause-bytes : goal.returns-clause-bytes
returns-clause-bytes c =
    curve_whole c.args.curve.now c.points.place c.args.out.now.bytes c.points.out.bytes (omega arith) c.points.invariant.bytes
