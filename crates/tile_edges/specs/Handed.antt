-- What a tile of a board is handed: edges of other tiles, or those of a top.
use Rattle.std.specs.Prelude.{ℕ, ℤ, pos, ◌≡◌, ◌+◌, ◌<◌, List, [], replicate, slice_index_or}
use Rattle.tile_shape.specs.Geometry.{IsNeeded, IsReceiver, IsTile}
use Rattle.tile_shape.specs.declared.tiles.Dir.{Dir}
use Rattle.tile_shape.specs.declared.tiles.Dir.TheVariants.{Right, Bottom, Corner}
use Rattle.tile_shape.specs.declared.tiles.Place.{Place}
use Rattle.tile_shape.specs.declared.tiles.Shape.{Shape}
use Rattle.tile_edges.specs.Edges.{IsOnBoard, edge_length}
use Rattle.tile_edges.specs.Tops.{IsCut}

-- The list is both rows of an edge of a top, or zeros where the top has no such edge.
pub record IsCopy (edge xs : List ℤ) : Type 0 where
  pub at : (i : ℕ) → i < 128 → slice_index_or xs i (pos 0) ≡ slice_index_or edge i (pos 0)

-- what comes from a top to the tile of column c of the first band: its edge c + 1, and the end of its edge c
abbrev pub IsFromTop : List (List ℤ) → Dir → Place → List ℤ → Type 0
IsFromTop top Right to xs = Unit {0}
IsFromTop top Bottom to xs = IsCopy (slice_index_or top (to.c + 1) []) xs
IsFromTop top Corner to xs = IsCut (slice_index_or top to.c []) xs

-- The tile is handed this edge, where `edges` are those that the tiles gave.
pub record IsHanded (s : Shape) (top : List (List ℤ)) (edges : Dir → Place → List ℤ) (d : Dir) (to : Place) (xs : List ℤ) : Type 0 where
  pub given : (from : Place) → IsTile s from → IsReceiver d from to → xs ≡ edges d from
  pub none : IsOnBoard d to → ¬ IsNeeded s d to → xs ≡ replicate (edge_length d) (pos 0)
  pub above : ¬ IsOnBoard d to → IsFromTop top d to xs
