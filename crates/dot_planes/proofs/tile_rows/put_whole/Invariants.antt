use Rattle.std.proofs.Common.{◌≡◌, ℕ, ◌*◌, ◌+◌, ◌<◌, ◌≤◌, get_or}
use Rattle.base_definitions.specs.Packed.{bit_at}
use Rattle.dot_planes.specs.Tiles.{PutsDots}
use Rattle.dot_planes.proofs.tile_rows.put_whole.Given as goal

abbrev pub invariant-loop-n : goal.invariant-loop-n
invariant-loop-n l = record {
  dots : PutsDots l.width l.c l.r (8 * (l.start + 1 + l.n)) l.dots l.fn.row l.row;
  last : l.n < 8 → (k : ℕ) → k < 8 → 8 ≤ k + l.shift → bit_at (get_or l.bytes 7 0) k ≡ bit_at (get_or l.row (l.start + 8) 0) k;
}
