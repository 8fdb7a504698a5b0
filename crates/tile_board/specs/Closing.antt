-- What a closed board leaves.
use Rattle.std.specs.Prelude.{◌≡◌, ℕ, ◌<◌, ◌*◌, ◌-◌, length, slice_index_or, []}
use mathlib.Core.Option.{some}
use lib.ListN.{get_elem?}
use Rattle.diffusion_kernel.specs.Tables.{table_of}
use Rattle.dot_planes.specs.declared.tiles.TileDots.{TileDots}
use Rattle.tile_border.specs.Tops.{IsTopOf, edges_of}
use Rattle.tile_border.specs.Content.{errors_below}
use Rattle.tile_edges.specs.Tops.{AreBottoms}
use Rattle.tile_lanes.specs.Done.{HasDots, plane_of}
use Rattle.tile_shape.specs.Geometry.{IsTile, bands_of, columns_of}
use Rattle.tile_shape.specs.declared.tiles.Place.{Place}
use Rattle.board_steps.specs.declared.rule.Slab.{Slab}
use Rattle.tile_board.specs.Slabs.{amounts_of, number_in, shape_of, top_edges}
use Rattle.tile_board.specs.declared.kinds.Closed.{Closed}

-- the dots of a tile are those of row-by-row diffusion, in each ink
pub record AreDotsOf (b : Slab) (p : Place) (d : TileDots) : Type 0 where
  pub place : d.place ≡ p
  pub inks : length d.bits ≡ (amounts_of b).inks
  pub dots : (i : ℕ) → i < (amounts_of b).inks
      → HasDots (table_of b.kernel) (plane_of (amounts_of b) i) (errors_below b.kernel (amounts_of b) (top_edges b) i) p
      (slice_index_or d.bits i [])

-- The dots of each tile are at its number, by band and then column, and the bottom edges are those of the last band.
pub record Closes (b : Slab) (r : Closed) : Type 0 where
  pub count : length r.dots.items ≡ bands_of (shape_of b) * columns_of (shape_of b)
  pub dots : (p : Place) → IsTile (shape_of b) p → (d : TileDots) × (get_elem? r.dots.items (number_in b p) ≡ some d) × AreDotsOf b p d
  pub is_top : IsTopOf (amounts_of b).width (amounts_of b).inks r.bottom
  pub bottoms : (i : ℕ) → i < (amounts_of b).inks
      → AreBottoms (shape_of b) (errors_below b.kernel (amounts_of b) (top_edges b) i) (bands_of (shape_of b) - 1) (edges_of r.bottom i)
