use Rattle.std.proofs.Common.{◌≡◌, ℕ, ◌<◌, [], get_or, length}
use Rattle.tile_board.proofs.receives.copy_edge.Given as goal

abbrev pub invariant-loop-ink : goal.invariant-loop-ink
invariant-loop-ink l = record {
  len : length l.to ≡ length l.initial.to;
  same : (i : ℕ) → i < l.ink → get_or l.to i [] ≡ get_or l.from i [];
}
