use Rattle.std.proofs.Common.{ℕ, ◌≡◌, ◌<◌, ◌+◌, ◌*◌, ap, arith, refl, length, length-set, ◌∙◌}
use Rattle.tile_lanes.specs.Held.{error_held, up1_in, up2_in}
use Rattle.tile_lanes.specs.Paces.{delay_of, pace_of}
use Rattle.tile_lanes.proofs.LaneSteps.{held_more, none_stepped, step_more, value_here}
use Rattle.tile_lanes.proofs.Paces.{delay_up}
use Rattle.tile_lanes.proofs.lanes.step.diffuse_rows.Goals as goal

pub entered-requires-clause-all : goal.entered-requires-clause-all
entered-requires-clause-all c = grind (arith, delay_up)

pub loop-i-init : goal.loop-i-init
loop-i-init c = record { long = omega arith; dots_long = omega arith; in_range = c.requires.in_range; stepped = none_stepped }

pub loop-i-preserved : goal.loop-i-preserved
loop-i-preserved c =
    let v = c.loop-i.invariant in
    let step : ℕ = c.args.step in
    let r : ℕ = c.args.first + c.loop-i.i in
    let at : ℕ = 34 * step + 2 + r in
    let near = c.around-near.ensures in
    let up1 = near.up1 ∙ ap (λ q. up1_in q c.loop-i.field at) c.of-pace.ensures in
    let up2 = near.up2 ∙ ap (λ q. up2_in q c.loop-i.field at) c.of-pace.ensures in
    let room : at < length c.loop-i.field = omega (arith, v.long) in
    let value = value_here c.args.kernel _ _ _ _ _ c.loop-i.field at near.same up1 up2 c.held_value-value.ensures.value in
    let behind : c.delay.result ≡ delay_of (pace_of c.args.kernel) r = c.delay.ensures.is
    ∙ ap (λ q. delay_of q r) c.of-pace.ensures in
    record {
      long = length-set _ _ _ ∙ v.long;
      dots_long = length-set _ _ _ ∙ v.dots_long;
      in_range = held_more _ at _ v.in_range c.entered.ensures.most;
      stepped = step_more c.args.kernel c.args.amounts.now step c.args.first c.loop-i.i at _ refl (omega arith)
          (omega arith) room (omega (arith, v.dots_long)) value
          (λ inside. ap error_held (c.entered.ensures.inside (omega (arith, behind, inside))) ∙ c.held_error.ensures.error)
          (λ left. c.entered.ensures.left (omega (arith, behind, left))) refl c.from.ensures c.shows_dot.ensures v.stepped;
    }
