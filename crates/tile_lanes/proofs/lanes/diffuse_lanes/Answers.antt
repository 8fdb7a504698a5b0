use Rattle.std.proofs.Common.{subst, sym}
use Rattle.tile_lanes.specs.Lanes.{HasAmounts, IsFilled, SolvesSteps}
use Rattle.tile_lanes.specs.Paces.{end_of}
use Rattle.tile_lanes.specs.Done.{plane_with}
use Rattle.tile_lanes.proofs.LaneAmounts.{steps_have}
use Rattle.tile_lanes.proofs.LaneTile.{all_bits, bottom_of, corner_of, loaded_above, loaded_left, right_of}
use Rattle.tile_lanes.proofs.RowTile.{dots_done}
use Rattle.tile_lanes.proofs.lanes.diffuse_lanes.Goals as goal

pub returns-clause-done : goal.returns-clause-done
returns-clause-done c = λ f has e s ready.
    let place = c.args.place in
    let pace = c.of-pace.result in
    let amounts = c.steps_of-amounts.result.now in
    let have = subst (λ q. HasAmounts q (plane_with c.args.shape f) place.c place.j 32 amounts) c.of-pace.ensures
    (steps_have pace c.args.shape f place c.args.tile.now amounts has c.steps_of-amounts.ensures.steps) in
    let solves : SolvesSteps c.args.kernel c.args.shape place amounts f e = record { has = have; solves = s } in
    let start = loaded_above pace e place.c place.j _ _ _ _ c.put_above.ensures.there c.put_corner.ensures.there
    c.put_corner.ensures.kept ready.has_above ready.has_corner in
    let left = loaded_left pace e place.c place.j _ _ _ start ready.has_left c.put_left.ensures.there
    c.put_left.ensures.kept in
    let first = subst (λ q. IsFilled q e place.c place.j 8 c.put_left.new.field) c.of-pace.ensures left in
    let done = subst (λ q. IsFilled q e place.c place.j (end_of q) c.diffuse_steps.new.field) (sym c.of-pace.ensures)
    (c.diffuse_steps.ensures.filled f e solves first) in
    record {
      has_right = right_of pace e place.c place.j _ _ done c.take_right.ensures.there;
      has_bottom = bottom_of pace e place.c place.j _ _ done c.take_bottom.ensures.there;
      has_corner = corner_of pace e place.c place.j _ _ done c.take_lower_corner.ensures.there;
      has_dots = dots_done _ _ e place _
          (all_bits c.args.kernel _ e place.c place.j _ (c.diffuse_steps.ensures.bits f e solves first));
    }
