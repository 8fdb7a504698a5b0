-- The dots and edges of the tiles while they are worked.
use Rattle.std.specs.Prelude.{◌≡◌, ℕ, ℤ, ◌<◌, Bool, List}
use Rattle.diffusion_definitions.specs.Diffusion.{Errors, Plane, Table, on}
use Rattle.tile_shape.specs.Geometry.{IsAt, IsPixel, IsTile}
use Rattle.tile_shape.specs.declared.tiles.Dir.{Dir}
use Rattle.tile_shape.specs.declared.tiles.Place.{Place}
use Rattle.tile_shape.specs.declared.tiles.Shape.{Shape}
use Rattle.tile_edges.specs.Edges.{IsGiven}
use Rattle.board_core.specs.States.{CoreState, IsBegun}
use Rattle.board_core.specs.Steps.{Gives}

-- A tile's dots, by ink, row and offset, and its three edges, by ink.
pub record TileResult : Type 0 where
  pub dots : ℕ → ℕ → ℕ → Bool
  pub edges : Dir → ℕ → List ℤ

-- A window of several inks: its shape, the kernel, the amounts of each ink and the errors of their diffusion.
pub record Window : Type 0 where
  pub shape : Shape
  pub kernel : Table
  pub inks : ℕ
  pub plane : ℕ → Plane
  pub errors : ℕ → Errors

-- the edges of a tile are the errors at their places
abbrev pub HasEdge : Window → Dir → Place → TileResult → Type 0
HasEdge w d p r = (i : ℕ) → i < w.inks → IsGiven (w.errors i) d p (r.edges d i)

-- and its pixels have the dots of row-by-row diffusion
pub record IsResult (w : Window) (p : Place) (r : TileResult) : Type 0 where
  pub edges : (d : Dir) → HasEdge w d p r
  pub dots : (i row offset x y : ℕ) → i < w.inks → IsAt p row offset x y → IsPixel w.shape x y
      → r.dots i row offset ≡ on w.kernel (w.plane i) (w.errors i) y x

-- The dots and edges of each tile that is taken or posted: where the edges that come to it are right,
-- so are its own.
pub record IsRecord (w : Window) (core : CoreState) (results : Place → TileResult) : Type 0 where
  pub works : (p : Place) → IsTile core.shape p → IsBegun core p
      → ((from : Place) (d : Dir) → Gives core.shape from d p → HasEdge w d from (results from))
      → IsResult w p (results p)
