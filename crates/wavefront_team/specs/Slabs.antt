-- A slab: rows of a window that are diffused below the errors of the rows before them.
use Rattle.std.specs.Prelude.{◌≡◌, ◌⊎◌, ℕ, ℤ, ◌+◌, ◌-◌, ◌<◌, ◌≤◌, List, slice_index_or}
use Rattle.diffusion_definitions.specs.Diffusion.{Errors, Solves, Table, on}
use Rattle.board_core.specs.Numbers.{number_of}
use Rattle.dot_planes.specs.Tables.{AmountTable}
use Rattle.dot_planes.specs.Tiles.{tile_dot}
use Rattle.dot_planes.specs.declared.tiles.TileDots.{TileDots}
use Rattle.tile_border.specs.Tops.{IsTopOf, edges_of}
use Rattle.tile_edges.specs.Tops.{AreBottoms, IsBelow}
use Rattle.tile_lanes.specs.Done.{plane_of, window_of}
use Rattle.tile_shape.specs.Geometry.{IsAt, IsPixel, IsTile, bands_of}
use Rattle.tile_shape.specs.declared.tiles.Place.{Place}
use Rattle.wavefront_team.specs.Dots.{Dots, IsSameSize}
use Rattle.wavefront_team.specs.Laying.{AreTilesOf}

-- The errors of an ink solve the rule in a slab, below its top.
pub record AreSlabErrors (k : Table) (rows : AmountTable) (top : List (List (List ℤ))) (i : ℕ) (e : Errors) : Type 0 where
  pub ink : i < rows.inks
  pub solves : Solves k (plane_of rows i) e
  pub below : IsBelow (edges_of top i) e

-- The bottom edges of a slab's last band are those of errors that solve the rule below the top.
pub record HasBottom (k : Table) (rows : AmountTable) (top bottom : List (List (List ℤ))) : Type 0 where
  pub is_top : IsTopOf rows.width rows.inks bottom
  pub bottoms : (i : ℕ) (e : Errors) → AreSlabErrors k rows top i e
      → AreBottoms (window_of rows) e (bands_of (window_of rows) - 1) (edges_of bottom i)

-- The tiles of a slab have its dots, and `bottom` are the bottom edges of its last band.
pub record ClosesSlab (k : Table) (rows : AmountTable) (top bottom : List (List (List ℤ))) (tiles : List TileDots) : Type 0 where
  pub tiles_are : AreTilesOf (window_of rows) tiles
  pub dots : (i : ℕ) (e : Errors) → AreSlabErrors k rows top i e → (p : Place) (row offset x y : ℕ) (d : TileDots)
      → IsTile (window_of rows) p → IsPixel (window_of rows) x y → IsAt p row offset x y
      → tile_dot (slice_index_or tiles (number_of (window_of rows) p) d).bits i row offset ≡ on k (plane_of rows i) e y x
  pub bottom_is : HasBottom k rows top bottom

-- Rows `at` and on have the dots of a slab, and all others are unchanged. `bottom` are the bottom edges of its last
-- band.
pub record DiffusesSlab (k : Table) (rows : AmountTable) (top bottom : List (List (List ℤ))) (at : ℕ) (old new : Dots) : Type 0 where
  pub size : IsSameSize old new
  pub dots : (i : ℕ) (e : Errors) → AreSlabErrors k rows top i e → (y x : ℕ) → y < rows.rows → x < rows.width
      → new.dot i (at + y) x ≡ on k (plane_of rows i) e y x
  pub others : (i y x : ℕ) → y < old.rows → (y < at) ⊎ (at + rows.rows ≤ y) → new.dot i y x ≡ old.dot i y x
  pub bottom_is : HasBottom k rows top bottom
