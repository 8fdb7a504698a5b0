use Rattle.std.proofs.Common.{◌≡◌, ℕ, ◌<◌, length}
use Rattle.tile_border.specs.Inks.{errors_of}
use Rattle.tile_edges.specs.Tops.{IsCut}
use Rattle.tile_border.proofs.edges.BottomEdge.cut_ends.Given as goal

abbrev pub invariant-loop-ink : goal.invariant-loop-ink
invariant-loop-ink l = record {
  len : length l.corner ≡ length l.initial.corner;
  ends : (i : ℕ) → i < l.ink → IsCut (errors_of l.self i) (errors_of l.corner i);
}
