use Rattle.std.proofs.Common.{ℕ, ◌<◌, ◌≡◌, ◌≤◌, [], true, length, get_or, subst, arith}
use Rattle.printer_profile.specs.Views.{has_points}
use Rattle.printer_profile.proofs.CurveTexts.{each_has_points, each_of_four}
use Rattle.printer_profile.proofs.RoundTrip.{printed_text}
use Rattle.printer_profile.proofs.laws.printed_is_read.Goals as goal

pub returns : goal.returns
returns c = printed_text c.args.p (record {
  hdpi = omega arith;
  vdpi = omega arith;
  nozzles = omega arith;
  pitch = omega arith;
  black_start = omega arith;
  limit = λ i. subst (λ p. get_or p.limits i 0 ≤ 255) c.p.view_is (c.are_bytes.ensures i);
  limits = omega arith;
  points = λ i. subst (λ p. has_points (get_or p.curves i []) ≡ true) c.p.view_is (each_has_points c.p.inside.curves c.p.invariant i);
  curve = subst (λ p. (i : ℕ) → i < 4 → length (get_or p.curves i []) ≡ 17) c.p.view_is (each_of_four c.p.inside.curves
      c.has_17_points.ensures c.has_17_points-2.ensures c.has_17_points-3.ensures c.has_17_points-4.ensures);
  curves = subst (λ p. length p.curves ≡ 4) c.p.view_is c.are_four.ensures;
  left = omega arith;
  right = omega arith;
  top = omega arith;
  bottom = omega arith;
})
