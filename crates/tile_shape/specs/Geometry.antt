-- The geometry of tiles. A band is 32 rows of a window. Row r of a band is moved right by 2 r pixels, and each 64 of
-- the columns that this makes are a tile: so what a pixel reads in its own band is in its own column or left of it.
use Rattle.std.specs.Prelude.{ℕ, ◌≡◌, ◌+◌, ◌*◌, ◌<◌, ◌≤◌, ◌⊎◌}
use Rattle.std.specs.Int.{div_ceil}
use Rattle.base_definitions.specs.Limits.{most_columns, most_rows}
use Rattle.tile_shape.specs.declared.tiles.Dir.{Dir}
use Rattle.tile_shape.specs.declared.tiles.Dir.TheVariants.{Right, Bottom, Corner}
use Rattle.tile_shape.specs.declared.tiles.Place.{Place}
use Rattle.tile_shape.specs.declared.tiles.Shape.{Shape}

-- the sizes that a window may have
pub record IsShape (s : Shape) : Type 0 where
  pub some_width : 1 ≤ s.width
  pub most_width : s.width ≤ most_columns
  pub some_height : 1 ≤ s.height
  pub most_height : s.height ≤ most_rows

-- how many columns of tiles a band has: the last row of a band is moved right by 62 pixels
abbrev pub columns_of : Shape → ℕ
columns_of s = div_ceil (s.width + 62) 64

-- how many bands a window has
abbrev pub bands_of : Shape → ℕ
bands_of s = div_ceil s.height 32

-- the window has this tile
pub record IsTile (s : Shape) (p : Place) : Type 0 where
  pub column : p.c < columns_of s
  pub band : p.j < bands_of s

-- the window has this pixel
pub record IsPixel (s : Shape) (x y : ℕ) : Type 0 where
  pub across : x < s.width
  pub down : y < s.height

-- pixel (x, y) is in this row of a tile, counted from 0, and at this offset of the row
pub record IsAt (p : Place) (row offset x y : ℕ) : Type 0 where
  pub in_band : row < 32
  pub in_tile : offset < 64
  pub down : y ≡ 32 * p.j + row
  pub across : x + 2 * row ≡ 64 * p.c + offset

-- the window has this pixel, and it is one of the tile's
pub record IsIn (s : Shape) (p : Place) (x y : ℕ) : Type 0 where
  pub pixel : IsPixel s x y
  pub row : ℕ
  pub offset : ℕ
  pub place : IsAt p row offset x y

-- the window has the pixel at an offset of a row of a tile
pub record HasPixelAt (s : Shape) (p : Place) (row offset : ℕ) : Type 0 where
  pub x : ℕ
  pub y : ℕ
  pub place : IsAt p row offset x y
  pub pixel : IsPixel s x y

-- the window has every pixel of a tile
pub record IsWhole (s : Shape) (p : Place) : Type 0 where
  pub at : (row offset : ℕ) → row < 32 → offset < 64 → HasPixelAt s p row offset

-- pixel (x, y) reads the error at (a, b): up to two pixels to the left in its own row, or up to two to
-- either side one or two rows above
abbrev pub Reads : ℕ → ℕ → ℕ → ℕ → Type 0
Reads x y a b = ((b ≡ y) × (a < x) × (x ≤ a + 2)) ⊎ ((b < y) × (y ≤ b + 2) × (x ≤ a + 2) × (a ≤ x + 2))

-- the first row of an edge, whose last row is 31: every row, or the last two
abbrev pub first_row : Dir → ℕ
first_row Right = 0
first_row Bottom = 30
first_row Corner = 30

-- the first offset of an edge, whose last offset is 63: the last six, or every one
abbrev pub first_offset : Dir → ℕ
first_offset Right = 58
first_offset Bottom = 0
first_offset Corner = 58

-- an edge of one tile goes to another: to the right, down and one to the left, or straight down
abbrev pub IsReceiver : Dir → Place → Place → Type 0
IsReceiver Right from to = (to.c ≡ from.c + 1) × (to.j ≡ from.j)
IsReceiver Bottom from to = (to.c + 1 ≡ from.c) × (to.j ≡ from.j + 1)
IsReceiver Corner from to = (to.c ≡ from.c) × (to.j ≡ from.j + 1)

-- a tile needs an edge: a right edge except in the first column, a bottom edge except in the first band and the last
-- column, a corner edge except in the first band
abbrev pub IsNeeded : Shape → Dir → Place → Type 0
IsNeeded s Right p = 0 < p.c
IsNeeded s Bottom p = (0 < p.j) × (p.c + 1 < columns_of s)
IsNeeded s Corner p = 0 < p.j

-- the error of pixel (x, y) comes to a tile by an edge that it needs
pub record ComesBy (s : Shape) (d : Dir) (to : Place) (x y : ℕ) : Type 0 where
  pub needed : IsNeeded s d to
  -- the tile that the edge comes from
  pub from : Place
  pub tile : IsTile s from
  pub receiver : IsReceiver d from to
  -- the place of the pixel in that tile
  pub row : ℕ
  pub offset : ℕ
  pub place : IsAt from row offset x y
  -- the edge has this row and this offset
  pub row_held : first_row d ≤ row
  pub offset_held : first_offset d ≤ offset
