-- The tiles of a window by their pixels.
use Rattle.std.proofs.Common.{ℕ, ◌+◌, ◌*◌, ◌/◌, ◌%◌, ◌<◌, arith}
use Rattle.tile_shape.specs.Geometry.{IsAt, IsTile}
use Rattle.tile_shape.specs.declared.tiles.Place.{Place}
use Rattle.tile_shape.specs.declared.tiles.Shape.{Shape}

-- the tile of a pixel, and where in the tile it is
pub record Stands (s : Shape) (x y : ℕ) : Type 0 where
  pub p : Place
  pub row : ℕ
  pub offset : ℕ
  pub tile : IsTile s p
  pub place : IsAt p row offset x y

pub stands : (s : Shape) (x y : ℕ) → x < s.width → y < s.height → Stands s x y
stands s x y wide tall =
    let row : ℕ = y % 32 in
    let u : ℕ = x + 2 * row in
    let low : row < 32 = omega arith in
    record {
      p = record { c = u / 64; j = y / 32 };
      row = row;
      offset = u % 64;
      tile = record { column = omega arith; band = omega arith };
      place = record { in_band = omega arith; in_tile = omega arith; down = omega arith; across = omega arith };
    }
