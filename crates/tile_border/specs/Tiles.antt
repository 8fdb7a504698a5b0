-- What it means that the edges that a tile is handed, and the edges and dots that it gives, are right.
use Rattle.std.specs.Prelude.{◌≡◌, ℕ, ℤ, pos, ◌<◌, List, [], length, replicate, slice_index_or}
use Rattle.diffusion_kernel.specs.Tables.{table_of}
use Rattle.diffusion_kernel.specs.declared.tables.Kernel.{Kernel}
use Rattle.dot_planes.specs.Tables.{AmountTable}
use Rattle.tile_shape.specs.declared.tiles.Dir.{Dir}
use Rattle.tile_shape.specs.declared.tiles.Place.{Place}
use Rattle.tile_shape.specs.Geometry.{IsNeeded, IsReceiver, IsTile}
use Rattle.tile_edges.specs.Edges.{IsOnBoard, edge_length}
use Rattle.tile_edges.specs.Handed.{IsFromTop}
use Rattle.tile_lanes.specs.Done.{IsDone, IsReady, plane_of, window_of}
use Rattle.tile_border.specs.Inks.{errors_of}
use Rattle.tile_border.specs.Tops.{edges_of}
use Rattle.tile_border.specs.Worked.{edge_of}
use Rattle.tile_border.specs.Works.{Border}
use Rattle.tile_border.specs.Content.{errors_below, given}

-- In each ink the edges that a tile is handed are those of row-by-row diffusion.
abbrev pub AreReady : Kernel → AmountTable → List (List (List ℤ)) → Place → Border → Type 0
AreReady k rows top p b = (i : ℕ) → i < rows.inks
    → IsReady (errors_below k rows top i) p (errors_of b.side i) (errors_of b.bottom i) (errors_of b.corner i)

-- In each ink the edges and the dots that a tile gives are those of row-by-row diffusion.
abbrev pub AreDone : Kernel → AmountTable → List (List (List ℤ)) → Place → Border → Type 0
AreDone k rows top p b = (i : ℕ) → i < rows.inks
    → IsDone (table_of k) (plane_of rows i) (errors_below k rows top i) p
    (errors_of b.side i) (errors_of b.bottom i) (errors_of b.corner i) (slice_index_or b.bits i [])

-- The edge that a tile is handed in a direction, in each ink: what `given` says of the tile that sends it, zeros where
-- no tile does, and the top's edges above the first band.
pub record IsHandedTo (k : Kernel) (rows : AmountTable) (top : List (List (List ℤ))) (d : Dir) (p : Place)
    (edge : List (List ℤ)) : Type 0 where
  pub inks : length edge ≡ rows.inks
  pub given : (from : Place) → IsTile (window_of rows) from → IsReceiver d from p → edge ≡ edge_of (given k rows top from) d
  pub none : IsOnBoard d p → ¬ IsNeeded (window_of rows) d p → edge ≡ replicate rows.inks (replicate (edge_length d) (pos 0))
  pub above : ¬ IsOnBoard d p → (i : ℕ) → i < rows.inks → IsFromTop (edges_of top i) d p (errors_of edge i)

-- each of the three edges that a tile is handed is such an edge
abbrev pub AreHanded : Kernel → AmountTable → List (List (List ℤ)) → Place → Border → Type 0
AreHanded k rows top p b = (d : Dir) → IsHandedTo k rows top d p (edge_of b d)
