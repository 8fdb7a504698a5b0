-- Where a tile lies of which the window has every pixel.
use Rattle.std.proofs.Common.{◌+◌, ◌-◌, ◌*◌, ◌≤◌, arith}
use Rattle.tile_shape.specs.Geometry.{HasPixelAt, IsWhole}
use Rattle.tile_shape.specs.declared.tiles.Place.{Place}
use Rattle.tile_shape.specs.declared.tiles.Shape.{Shape}

-- It is not in the first column, whose rows but the first begin left of the window.
pub record IsInside (s : Shape) (p : Place) : Type 0 where
  pub left : 1 ≤ p.c
  pub right : 64 * p.c + 64 ≤ s.width
  pub down : 32 * p.j + 32 ≤ s.height

pub inside_of : (s : Shape) (p : Place) → IsWhole s p → IsInside s p
inside_of s p whole =
    let first : HasPixelAt s p 31 0 = whole.at 31 0 (omega arith) (omega arith) in
    let last : HasPixelAt s p 0 63 = whole.at 0 63 (omega arith) (omega arith) in
    record {
      left = omega (arith, first.place.across);
      right = omega (arith, last.place.across, last.pixel.across);
      down = omega (arith, first.place.down, first.pixel.down);
    }

pub whole_of : (s : Shape) (p : Place) → IsInside s p → IsWhole s p
whole_of s p inside = record {
  at = λ row offset in_band in_tile. record {
    x = 64 * p.c + offset - 2 * row;
    y = 32 * p.j + row;
    place = record {
      in_band = in_band;
      in_tile = in_tile;
      down = omega arith;
      across = omega (arith, inside.left, in_band);
    };
    pixel = record {
      across = omega (arith, inside.left, inside.right, in_band, in_tile);
      down = omega (arith, inside.down, in_band);
    };
  };
}
