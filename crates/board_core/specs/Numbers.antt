-- Tiles by their numbers: by band and then column.
use Rattle.std.specs.Prelude.{ℕ, ◌+◌, ◌*◌, ◌/◌, ◌%◌}
use Rattle.tile_shape.specs.Geometry.{columns_of}
use Rattle.tile_shape.specs.declared.tiles.Place.{Place}
use Rattle.tile_shape.specs.declared.tiles.Shape.{Shape}

-- the number of a tile
abbrev pub number_of : Shape → Place → ℕ
number_of s p = p.j * columns_of s + p.c

-- the place of a number's tile
abbrev pub place_of : Shape → ℕ → Place
place_of s n = record { c = n % columns_of s; j = n / columns_of s }
