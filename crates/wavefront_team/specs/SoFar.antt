-- The dots of a page so far: planes, and the tiles of a slab that waits to be laid into them.
use Rattle.std.specs.Prelude.{◌≡◌, ℕ, ◌+◌, ◌-◌, ◌*◌, ◌/◌, ◌%◌, ◌≤◌, Bool, nat_le, nat_lt, ◌&&◌, if◌then◌else◌, List, []}
use Rattle.std.specs.Prelude.{Option, None, Some, slice_get}
use Rattle.board_core.specs.Numbers.{number_of}
use Rattle.dot_planes.specs.Tables.{DotTable, dot}
use Rattle.dot_planes.specs.Tiles.{tile_dot}
use Rattle.dot_planes.specs.declared.tiles.TileDots.{TileDots}
use Rattle.tile_shape.specs.Geometry.{IsShape}
use Rattle.tile_shape.specs.declared.tiles.Shape.{Shape}
use Rattle.wavefront_team.specs.Dots.{Dots}
use Rattle.wavefront_team.specs.Laying.{AreTilesOf}
use Rattle.wavefront_team.specs.declared.waiting.Waiting.{Waiting}

-- Planes, and a slab that waits, if one does.
pub record SoFar : Type 0 where
  pub planes : DotTable
  pub waiting : Option Waiting

-- the bits of a tile, where there is one
abbrev pub bits_in : Option TileDots → List (List ℕ)
bits_in None = []
bits_in (Some tile) = tile.bits

-- the dot of an ink in row y of a slab at column x, by its tile
abbrev pub slab_dot : Shape → List TileDots → ℕ → ℕ → ℕ → Bool
slab_dot s tiles i y x =
    let across : ℕ = x + 2 * (y % 32) in
    tile_dot (bits_in (slice_get tiles (number_of s (record { c = across / 64; j = y / 32 })))) i (y % 32) (across % 64)

-- whether the slab that waits has row y of the page
abbrev pub has_row : Waiting → ℕ → Bool
has_row w y = nat_le w.first y && nat_lt y (w.first + w.shape.height)

-- the dot of an ink in row y at column x: that of the slab that waits, where it has the row, else that of the planes
abbrev pub dot_so_far : DotTable → Option Waiting → ℕ → ℕ → ℕ → Bool
dot_so_far t None i y x = dot t i y x
dot_so_far t (Some w) i y x =
    if has_row w y then slab_dot w.shape w.tiles.items i (y - w.first) x else dot t i y x

-- the dots of planes and of a slab that waits; an ink or a column that the planes do not have has none
abbrev pub dots_so_far : DotTable → Option Waiting → Dots
dots_so_far t waiting = record {
  width = t.width;
  rows = t.rows;
  inks = t.inks;
  dot = λ i y x. (nat_lt i t.inks && nat_lt x t.width) && dot_so_far t waiting i y x;
}

-- the dots of a page so far
abbrev pub dots_in : SoFar → Dots
dots_in d = dots_so_far d.planes d.waiting

-- A slab that waits can be laid into the planes: it has all its tiles, the planes' width, and rows of theirs.
pub record CanBeLaid (t : DotTable) (w : Waiting) : Type 0 where
  pub shape : IsShape w.shape
  pub tiles : AreTilesOf w.shape w.tiles.items
  pub width : t.width ≡ w.shape.width
  pub rows : w.first + w.shape.height ≤ t.rows
