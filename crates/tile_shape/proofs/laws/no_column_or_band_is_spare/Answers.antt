-- The last pixel of column 0, and the last pixel of row 31.
use Rattle.std.proofs.Common.{arith, ◌+◌, ◌-◌, ◌*◌}
use Rattle.tile_shape.specs.Geometry.{bands_of, columns_of}
use Rattle.tile_shape.proofs.laws.no_column_or_band_is_spare.Goals as goal

pub returns : goal.returns
returns c = record {
  band = λ s shape. record {
    pixel = search arith;
    row = s.height - 1 - 32 * (bands_of s - 1);
    offset = 2 * (s.height - 1 - 32 * (bands_of s - 1));
    place = search arith;
  };
  column = λ s shape whole. record {
    pixel = search arith;
    row = 31;
    offset = s.width + 61 - 64 * (columns_of s - 1);
    place = search arith;
  };
}
