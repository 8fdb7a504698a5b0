-- The dots of tiles, and their places in planes.
use Rattle.std.specs.Prelude.{◌≡◌, ◌≢◌, ◌⊎◌, ℕ, ◌+◌, ◌*◌, ◌<◌, Bool, false, List, [], length, slice_index_or}
use Rattle.tile_shape.specs.Geometry.{IsAt, IsPixel, IsTile}
use Rattle.tile_shape.specs.declared.tiles.Place.{Place}
use Rattle.tile_shape.specs.declared.tiles.Shape.{Shape}
use Rattle.dot_planes.specs.Tables.{DotTable, HasSizeOf, dot, row_dot}

-- ---- a tile's dots

-- The dot of an ink at an offset of a row of a tile. `bits` has 256 bytes for each ink: 32 rows of 64 dots, eight a
-- byte, the first in the highest bit. An ink past the last has no dots.
abbrev pub tile_dot : List (List ℕ) → ℕ → ℕ → ℕ → Bool
tile_dot bits ink row offset = row_dot (slice_index_or bits ink []) (64 * row + offset)

-- no ink has a dot
pub record IsBlank (bits : List (List ℕ)) : Type 0 where
  pub at : (ink row offset : ℕ) → tile_dot bits ink row offset ≡ false

-- ---- into planes

-- `height` rows of the planes, as a window
abbrev pub slab_of : DotTable → ℕ → Shape
slab_of t height = record { width = t.width; height = height }

-- the slab has this tile
abbrev pub IsTileOf : DotTable → ℕ → Place → Type 0
IsTileOf t height p = IsTile (slab_of t height) p

-- Dot (x, y) of the planes is pixel (row, offset) of a tile, in a slab of `height` rows that begins at row `first`.
pub record IsTilePixel (t : DotTable) (first height : ℕ) (p : Place) (row offset y x : ℕ) : Type 0 where
  pub slab_row : ℕ
  pub down : y ≡ first + slab_row
  pub pixel : IsPixel (slab_of t height) x slab_row
  pub place : IsAt p row offset x slab_row

-- Every ink has the pixels of the tile, on or off, and all other dots are unchanged.
pub record PutsTile (old new : DotTable) (first height : ℕ) (p : Place) (bits : List (List ℕ)) : Type 0 where
  pub size : HasSizeOf old new
  pub pixels : (i row offset y x : ℕ) → i < old.inks → IsTilePixel old first height p row offset y x
      → dot new i y x ≡ tile_dot bits i row offset
  pub others : (i y x : ℕ) → y < old.rows → ((row offset : ℕ) → ¬ IsTilePixel old first height p row offset y x)
      → dot new i y x ≡ dot old i y x

-- The same for one ink, whose 256 bytes are `bytes`.
pub record PutsInk (old new : DotTable) (first height : ℕ) (p : Place) (i : ℕ) (bytes : List ℕ) : Type 0 where
  pub size : HasSizeOf old new
  pub pixels : (row offset y x : ℕ) → IsTilePixel old first height p row offset y x
      → dot new i y x ≡ row_dot bytes (64 * row + offset)
  pub others : (j y x : ℕ) → y < old.rows
      → (j ≢ i) ⊎ ((row offset : ℕ) → ¬ IsTilePixel old first height p row offset y x) → dot new j y x ≡ dot old j y x

-- ---- one row

-- column x of a window is the pixel at this offset of row r of a tile in column c
pub record IsInRow (width c r offset x : ℕ) : Type 0 where
  pub in_tile : offset < 64
  pub in_window : x < width
  pub across : x + 2 * r ≡ 64 * c + offset

-- A packed row has the dots of row r of a tile in column c at the columns before `end`, and all others are unchanged.
pub record PutsDots (width c r end : ℕ) (dots old new : List ℕ) : Type 0 where
  pub len : length new ≡ length old
  pub pixels : (offset x : ℕ) → x < end → IsInRow width c r offset x → row_dot new x ≡ row_dot dots offset
  pub others : (x : ℕ) → ((offset : ℕ) → x < end → ¬ IsInRow width c r offset x) → row_dot new x ≡ row_dot old x

-- Row y of an ink has these dots, and all other rows are unchanged.
pub record PutsTileRow (old new : DotTable) (i y c r : ℕ) (dots : List ℕ) : Type 0 where
  pub size : HasSizeOf old new
  pub pixels : (offset x : ℕ) → IsInRow old.width c r offset x → dot new i y x ≡ row_dot dots offset
  pub beside : (x : ℕ) → ((offset : ℕ) → ¬ IsInRow old.width c r offset x) → dot new i y x ≡ dot old i y x
  pub others : (j m : ℕ) → (j ≢ i) ⊎ (m ≢ y) → m < old.rows → (x : ℕ) → dot new j m x ≡ dot old j m x
