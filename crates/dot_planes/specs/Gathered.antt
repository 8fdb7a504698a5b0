-- The amounts of a tile.
use Rattle.std.specs.Prelude.{◌≡◌, ◌≢◌, ℕ, ◌+◌, ◌*◌, ◌<◌, List, [], slice_index, slice_index_or}
use Rattle.tile_shape.specs.Geometry.{IsAt, IsPixel}
use Rattle.tile_shape.specs.declared.tiles.Place.{Place}
use Rattle.tile_shape.specs.declared.tiles.Shape.{Shape}
use Rattle.dot_planes.specs.Tables.{AmountTable, amount}

-- the window that rows of amounts cover
abbrev pub shape_of : AmountTable → Shape
shape_of t = record { width = t.width; height = t.rows }

-- The first n rows of a tile have the amounts of one ink, wherever a window has a pixel of them. `tile` has 32 amounts
-- of each offset, one of each row.
pub record HasRows (s : Shape) (amount : ℕ → ℕ → ℕ) (p : Place) (n : ℕ) (tile : List ℕ) : Type 0 where
  pub pixel : (row offset x y : ℕ) → row < n → IsPixel s x y → IsAt p row offset x y
      → slice_index tile (32 * offset + row) ≡ amount y x

-- a tile has the amounts of one ink
abbrev pub HasPixels : Shape → (ℕ → ℕ → ℕ) → Place → List ℕ → Type 0
HasPixels s amount p tile = HasRows s amount p 32 tile

-- A tile has its amounts in the first n inks.
pub record HasInks (t : AmountTable) (p : Place) (n : ℕ) (inks : List (List ℕ)) : Type 0 where
  pub ink : (i : ℕ) → i < n → HasPixels (shape_of t) (amount t i) p (slice_index_or inks i [])

-- a tile has its amounts in every ink
abbrev pub HasTile : AmountTable → Place → List (List ℕ) → Type 0
HasTile t p inks = HasInks t p t.inks inks

-- Row r has its amounts of one ink, and all other rows are unchanged.
pub record GathersRow (s : Shape) (amount : ℕ → ℕ → ℕ) (p : Place) (r : ℕ) (old new : List ℕ) : Type 0 where
  pub pixel : (offset x y : ℕ) → IsPixel s x y → IsAt p r offset x y → slice_index new (32 * offset + r) ≡ amount y x
  pub others : (row offset : ℕ) → row < 32 → row ≢ r
      → slice_index new (32 * offset + row) ≡ slice_index old (32 * offset + row)

-- No pixel of a tile has an amount of one ink.
pub record HasNoAmount (s : Shape) (amount : ℕ → ℕ → ℕ) (p : Place) : Type 0 where
  pub pixel : (row offset x y : ℕ) → IsPixel s x y → IsAt p row offset x y → amount y x ≡ 0

-- No pixel of a tile has an amount of any ink.
pub record HasNoAmounts (t : AmountTable) (p : Place) : Type 0 where
  pub ink : (i : ℕ) → i < t.inks → HasNoAmount (shape_of t) (amount t i) p
