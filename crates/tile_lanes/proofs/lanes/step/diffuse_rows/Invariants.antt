use Rattle.std.proofs.Common.{◌≡◌, length}
use Rattle.tile_lanes.specs.Held.{HeldInRange}
use Rattle.tile_lanes.specs.Lanes.{IsStep}
use Rattle.tile_lanes.proofs.lanes.step.diffuse_rows.Given as goal

abbrev pub invariant-loop-i : goal.invariant-loop-i
invariant-loop-i l = record {
  long : length l.field ≡ 3502;
  dots_long : length l.dots ≡ 32;
  in_range : HeldInRange l.field;
  stepped : IsStep l.kernel l.amounts l.step l.first l.i l.initial.field l.initial.dots l.field l.dots;
}
