-- One ink of a tile: what it is diffused from, and what it gives.
use Rattle.std.specs.Prelude.{ℕ, ℤ, ◌≡◌, ◌+◌, ◌*◌, ◌<◌, false, List}
use Rattle.diffusion_definitions.specs.Diffusion.{Errors, Plane, Solves, Table, on}
use Rattle.dot_planes.specs.Tables.{AmountTable, amount, row_dot}
use Rattle.tile_shape.specs.Geometry.{IsAt}
use Rattle.tile_shape.specs.declared.tiles.Place.{Place}
use Rattle.tile_shape.specs.declared.tiles.Shape.{Shape}
use Rattle.tile_edges.specs.Edges.{IsAbove, IsBottom, IsCorner, IsLeft, IsLowerCorner, IsRight}

-- the window that rows of amounts cover
abbrev pub window_of : AmountTable → Shape
window_of t = record { width = t.width; height = t.rows }

-- a window with these amounts
abbrev pub plane_with : Shape → (ℕ → ℕ → ℕ) → Plane
plane_with s amount = record { width = s.width; height = s.height; amount = amount }

-- the amounts of one ink
abbrev pub plane_of : AmountTable → ℕ → Plane
plane_of t ink = record { width = t.width; height = t.rows; amount = amount t ink }

-- The dots of a tile, 32 rows of 64, eight a byte and the first in the highest bit: each is that of its pixel, and
-- there is none left of column 0, beside the plane and below it.
pub record HasDots (k : Table) (p : Plane) (e : Errors) (place : Place) (dots : List ℕ) : Type 0 where
  pub pixel : (row offset x y : ℕ) → IsAt place row offset x y → row_dot dots (64 * row + offset) ≡ on k p e y x
  pub left : (row offset : ℕ) → row < 32 → offset < 64 → 64 * place.c + offset < 2 * row → row_dot dots (64 * row + offset) ≡ false

-- The edges that a tile is handed are right.
pub record IsReady (e : Errors) (place : Place) (left above corner : List ℤ) : Type 0 where
  pub has_left : IsLeft e place left
  pub has_above : IsAbove e place above
  pub has_corner : IsCorner e place corner

-- The edges and the dots that a tile hands on are right.
pub record IsDone (k : Table) (p : Plane) (e : Errors) (place : Place) (right bottom corner : List ℤ) (dots : List ℕ) : Type 0 where
  pub has_right : IsRight e place right
  pub has_bottom : IsBottom e place bottom
  pub has_corner : IsLowerCorner e place corner
  pub has_dots : HasDots k p e place dots

-- One ink of a tile is diffused. For any errors that solve the rule, whatever stands above the window: where the edges
-- handed in are right, so are those handed on and the dots.
abbrev pub DiffusesInk : Table → Plane → Place → (left above corner right bottom lower_corner : List ℤ) → List ℕ → Type 0
DiffusesInk k p place left above corner right bottom lower_corner dots =
    (e : Errors) → Solves k p e → IsReady e place left above corner → IsDone k p e place right bottom lower_corner dots
