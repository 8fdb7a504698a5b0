-- The dots of a slab's tiles, and how they are put into planes.
use Rattle.std.specs.Prelude.{◌≡◌, ◌⊎◌, ℕ, ◌+◌, ◌*◌, ◌<◌, ◌≤◌, List, length, slice_index_or}
use Rattle.board_core.specs.Numbers.{number_of}
use Rattle.dot_planes.specs.Tiles.{tile_dot}
use Rattle.dot_planes.specs.declared.tiles.TileDots.{TileDots}
use Rattle.tile_shape.specs.Geometry.{IsAt, IsPixel, IsTile, bands_of, columns_of}
use Rattle.tile_shape.specs.declared.tiles.Place.{Place}
use Rattle.tile_shape.specs.declared.tiles.Shape.{Shape}
use Rattle.wavefront_team.specs.Dots.{Dots, IsSameSize}

-- one entry for each tile of a window, by band and then column
pub record AreTilesOf (s : Shape) (tiles : List TileDots) : Type 0 where
  pub count : length tiles ≡ bands_of s * columns_of s
  pub places : (p : Place) (d : TileDots) → IsTile s p → (slice_index_or tiles (number_of s p) d).place ≡ p

-- The window begins at row `first` of the dots. Each pixel of its first n tiles is on or off in every ink as its tile
-- has it, and the rows above and below the window are unchanged.
pub record LaysTiles (s : Shape) (first n : ℕ) (tiles : List TileDots) (old new : Dots) : Type 0 where
  pub size : IsSameSize old new
  pub pixels : (i row offset x y : ℕ) (p : Place) (d : TileDots) → i < old.inks → IsTile s p → number_of s p < n
      → IsPixel s x y → IsAt p row offset x y
      → new.dot i (first + y) x ≡ tile_dot (slice_index_or tiles (number_of s p) d).bits i row offset
  pub others : (i y x : ℕ) → y < old.rows → (y < first) ⊎ (first + s.height ≤ y) → new.dot i y x ≡ old.dot i y x
