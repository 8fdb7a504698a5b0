use Rattle.std.proofs.Common.{◌-◌, take, refl, sym, ap, ◌∙◌, arith}
use Rattle.std.proofs.lemmas.List.{length-set}
use Rattle.printer_profile.proofs.CurveParts.{all_small, curve_start, cut_parts, no_point, not_cut, parts_bad, parts_good}
use Rattle.printer_profile.proofs.CurveParts.{parts_more, small_set, with_front, zeros_small}
use Rattle.printer_profile.proofs.values.curve_of.Goals as goal

pub points-init : goal.points-init
points-init c = record {
  parts = curve_start c.args.text.now;
  len = refl;
  points = zeros_small 17;
}

pub returns-in_err-point-clause-curve : goal.returns-in_err-point-clause-curve
returns-in_err-point-clause-curve c =
    c.from_residual.ensures ∙ sym (c.points.invariant.parts ∙ not_cut _ c.points.rest.now _ (omega arith) c.in_err-point.ensures)

pub returns-in_err-curve-clause-curve : goal.returns-in_err-curve-clause-curve
returns-in_err-curve-clause-curve c =
    let cut = c.in_ok-point.ensures in
    c.from_residual-in_err-curve.ensures ∙ sym (c.points.invariant.parts
    ∙ ap (with_front (take c.points.place c.points.curve) (17 - c.points.place)) (cut_parts c.points.rest.now _ _ cut.0 cut.1 cut.2)
    ∙ no_point _ _ _ _ (sym c.in_err-curve.ensures.point))

pub points-preserved : goal.points-preserved
points-preserved c =
    let cut = c.in_ok-point.ensures in
    record {
      parts = c.points.invariant.parts ∙ parts_more c.points.curve c.points.rest.now c.in_ok-point.point.now
          c.in_ok-point.others.now c.points.place c.in_ok-curve.field-0 (omega arith) c.points.invariant.len cut.0 cut.1 cut.2
          (sym c.in_ok-curve.ensures.point);
      len = length-set c.points.curve c.points.place c.in_ok-curve.field-0 ∙ c.points.invariant.len;
      points = small_set c.points.curve c.points.place c.in_ok-curve.field-0 c.points.invariant.points c.in_ok-curve.ensures.most;
    }

pub returns-in_err-curve-2-clause-curve : goal.returns-in_err-curve-2-clause-curve
returns-in_err-curve-2-clause-curve c =
    c.from_residual-in_err-curve-2.ensures
    ∙ sym (c.points.invariant.parts ∙ parts_bad _ _ _ (omega arith) (sym c.in_err-curve-2.ensures.point))

pub returns-clause-curve : goal.returns-clause-curve
returns-clause-curve c =
    sym (c.points.invariant.parts ∙ parts_good c.points.curve _ c.points.place _ (omega arith) c.points.invariant.len (sym c.in_ok-curve-2.ensures.point))

pub returns-clause-points : goal.returns-clause-points
returns-clause-points c = all_small _ (small_set c.points.curve 16 _ c.points.invariant.points c.in_ok-curve-2.ensures.most)
