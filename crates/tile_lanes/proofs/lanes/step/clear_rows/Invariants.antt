use Rattle.std.proofs.Common.{◌≡◌, length}
use Rattle.tile_lanes.specs.Held.{HeldInRange}
use Rattle.tile_lanes.specs.Lanes.{AreCleared}
use Rattle.tile_lanes.proofs.lanes.step.clear_rows.Given as goal

abbrev pub invariant-loop-r : goal.invariant-loop-r
invariant-loop-r l = record {
  long : length l.field ≡ 3502;
  dots_long : length l.dots ≡ 32;
  in_range : HeldInRange l.field;
  cleared : AreCleared l.step l.first l.r l.initial.field l.initial.dots l.field l.dots;
}
