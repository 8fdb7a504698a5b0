use Rattle.std.proofs.Common.{ℕ, ◌*◌, ◌<◌, ◌≡◌, get_or}
use Rattle.tile_lanes.proofs.blank.is_blank.Given as goal

abbrev pub invariant-loop-four : goal.invariant-loop-four
invariant-loop-four l = (m : ℕ) → m < 128 * l.four → get_or l.tile m 0 ≡ 0
