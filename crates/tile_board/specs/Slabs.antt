-- What a board is made for.
use Rattle.std.specs.Prelude.{ℕ, ℤ, List}
use Rattle.dot_planes.specs.Tables.{AmountTable}
use Rattle.tile_lanes.specs.Done.{window_of}
use Rattle.tile_shape.specs.declared.tiles.Place.{Place}
use Rattle.tile_shape.specs.declared.tiles.Shape.{Shape}
use Rattle.board_core.specs.Numbers.{number_of}
use Rattle.board_steps.specs.declared.rule.Slab.{Slab}

-- the amounts of a slab
abbrev pub amounts_of : Slab → AmountTable
amounts_of b = b.rows.value

-- its top
abbrev pub top_edges : Slab → List (List (List ℤ))
top_edges b = b.top.value

-- its window
abbrev pub shape_of : Slab → Shape
shape_of b = window_of b.rows.value

-- the number of a tile, by band and then column
abbrev pub number_in : Slab → Place → ℕ
number_in b p = number_of (shape_of b) p
