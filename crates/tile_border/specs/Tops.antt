-- The top edges of a board.
use Rattle.std.specs.Prelude.{◌≡◌, ℕ, ℤ, ◌<◌, List, [], length, slice_index_or, map}
use Rattle.tile_shape.specs.Geometry.{columns_of}
use Rattle.tile_border.specs.Inks.{AreZeros, errors_of}
use Rattle.tile_border.specs.declared.tops.TopEdges.TheInside.{Inside}

-- bottom edges by columns, and in each column by inks
abbrev pub tops_of : Inside → List (List (List ℤ))
tops_of top = top.edges.items

-- the bottom edges of one ink, by columns
abbrev pub edges_of : List (List (List ℤ)) → ℕ → List (List ℤ)
edges_of top ink = map (λ edge. errors_of edge ink) top

-- a top has an edge for each of this number of columns, and each edge has this number of inks
pub record HasColumns (count inks : ℕ) (top : List (List (List ℤ))) : Type 0 where
  pub columns : length top ≡ count
  pub edge_inks : (c : ℕ) → c < count → length (slice_index_or top c []) ≡ inks

-- how many columns of tiles rows of this width have
abbrev pub columns_across : ℕ → ℕ
columns_across width = columns_of (record { width = width; height = 1 })

-- a top of rows of this width has an edge for each column of tiles
abbrev pub IsTopOf : ℕ → ℕ → List (List (List ℤ)) → Type 0
IsTopOf width inks top = HasColumns (columns_across width) inks top

-- a top of this number of columns and inks whose errors are all 0
pub record IsZeroTop (count inks : ℕ) (top : List (List (List ℤ))) : Type 0 where
  pub has : HasColumns count inks top
  pub zeros : (c : ℕ) → AreZeros (slice_index_or top c [])
