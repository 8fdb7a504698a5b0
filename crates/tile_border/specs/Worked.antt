-- Tiles of a board that are worked, each from what the tiles before it gave.
use Rattle.std.specs.Prelude.{◌≡◌, ℕ, ℤ, ◌<◌, List}
use Rattle.diffusion_definitions.specs.Diffusion.{Errors, Solves}
use Rattle.diffusion_kernel.specs.Tables.{table_of}
use Rattle.diffusion_kernel.specs.declared.tables.Kernel.{Kernel}
use Rattle.dot_planes.specs.Tables.{AmountTable}
use Rattle.dot_planes.specs.Tiles.{tile_dot}
use Rattle.tile_shape.specs.Geometry.{IsTile}
use Rattle.tile_shape.specs.declared.tiles.Dir.{Dir}
use Rattle.tile_shape.specs.declared.tiles.Dir.TheVariants.{Right, Bottom, Corner}
use Rattle.tile_shape.specs.declared.tiles.Place.{Place}
use Rattle.tile_edges.specs.Handed.{IsHanded}
use Rattle.tile_edges.specs.Tops.{IsBelow}
use Rattle.board_core.specs.Records.{TileResult, Window}
use Rattle.board_core.specs.States.{CoreState, IsBegun}
use Rattle.tile_lanes.specs.Done.{plane_of, window_of}
use Rattle.tile_border.specs.Inks.{errors_of}
use Rattle.tile_border.specs.Tops.{edges_of}
use Rattle.tile_border.specs.Works.{Border, Works}

-- the edge that goes, or comes, this way
abbrev pub edge_of : Border → Dir → List (List ℤ)
edge_of b Right = b.side
edge_of b Bottom = b.bottom
edge_of b Corner = b.corner

-- what a tile gave, as a record keeps it
abbrev pub result_of : Border → TileResult
result_of b = record { dots = tile_dot b.bits; edges = λ d i. errors_of (edge_of b d) i }

-- the window of these amounts, with these errors of each ink
abbrev pub window_with : Kernel → AmountTable → (ℕ → Errors) → Window
window_with k rows errors = record { shape = window_of rows; kernel = table_of k; inks = rows.inks; plane = plane_of rows; errors = errors }

-- The errors of each ink solve the rule below its edges of the top.
pub record AreErrors (k : Kernel) (rows : AmountTable) (top : List (List (List ℤ))) (errors : ℕ → Errors) : Type 0 where
  pub solve : (i : ℕ) → i < rows.inks → Solves (table_of k) (plane_of rows i) (errors i)
  pub below : (i : ℕ) → i < rows.inks → IsBelow (edges_of top i) (errors i)

-- Each tile that is taken or posted was handed the edges that the tiles before it gave, zeros where there are none and
-- the top's above the first band, and gave what work gives for them.
pub record AreWorked (k : Kernel) (rows : AmountTable) (top : List (List (List ℤ))) (core : CoreState)
    (handed given : Place → Border) : Type 0 where
  pub shape : core.shape ≡ window_of rows
  pub comes : (p : Place) → IsTile core.shape p → IsBegun core p → (d : Dir) (i : ℕ) → i < rows.inks
      → IsHanded (window_of rows) (edges_of top i) (λ way from. errors_of (edge_of (given from) way) i) d p
      (errors_of (edge_of (handed p) d) i)
  pub works : (p : Place) → IsTile core.shape p → IsBegun core p → (i : ℕ) → i < rows.inks → Works k rows p i (handed p) (given p)
