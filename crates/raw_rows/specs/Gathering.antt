-- The pixels of a tile: in lines, in bytes row by row, and in bytes by columns.
use Rattle.std.specs.Prelude.{ℕ, ◌≡◌, ◌≢◌, ◌+◌, ◌-◌, ◌*◌, ◌<◌, ◌≤◌, min, Bool, false, true, List, [], ◌∷◌, slice_index, slice_index_or}
use Rattle.dot_planes.specs.Gathered.{shape_of}
use Rattle.ink_separation.specs.Columns.{pixel_in, white_pixel}
use Rattle.pwg_definitions.specs.Header.{line_bytes, row_of}
use Rattle.pwg_definitions.specs.declared.pages.Kind.{Kind}
use Rattle.pwg_definitions.specs.declared.pages.Kind.TheVariants.{Gray8, Black8, Rgb8, Black1, Cmyk8}
use Rattle.separation_definitions.specs.Amounts.{pixel_at}
use Rattle.tile_shape.specs.Geometry.{IsAt, IsPixel}
use Rattle.tile_shape.specs.declared.tiles.Place.{Place}
use Rattle.raw_rows.specs.Lines.{first_byte, pixels_before, white_byte}
use Rattle.raw_rows.specs.Raw.{line_in, table_of}
use Rattle.raw_rows.specs.declared.kept.RawRows.{RawRows}
use Rattle.raw_rows.specs.declared.spans.Span.{Span}

-- ---- rows of a tile in lines

-- the pixel of a line with which row r of a tile begins
abbrev pub first_pixel : RawRows → Place → ℕ → ℕ
first_pixel raw p r = raw.separator.window.left + 64 * p.c - 2 * r

-- how many bytes hold 64 pixels of a line from a pixel on
abbrev pub part_bytes : RawRows → ℕ → ℕ
part_bytes raw x = line_bytes (pixels_before raw.separator.kind x + 64) (row_of raw.separator.kind).bits_per_pixel

-- These are the bytes of row r of a tile.
pub record IsPart (raw : RawRows) (p : Place) (r : ℕ) (part : List ℕ) : Type 0 where
  pub byte : (k : ℕ) → k < part_bytes raw (first_pixel raw p r)
      → slice_index part k
      ≡ slice_index (line_in raw (32 * p.j + r)) (first_byte raw.separator.kind (first_pixel raw p r) + k)

-- The window has pixel x in row r of a tile, at an offset.
pub record IsInRow (raw : RawRows) (p : Place) (r offset x : ℕ) : Type 0 where
  pub down : 32 * p.j + r < raw.rows
  pub across : x < raw.separator.window.width
  pub in_tile : offset < 64
  pub at : x + 2 * r ≡ 64 * p.c + offset

-- the numbers of pixel x of the window in row r of a tile
abbrev pub row_pixel : RawRows → Place → ℕ → ℕ → List ℕ
row_pixel raw p r x = pixel_at raw.separator.kind (line_in raw (32 * p.j + r)) (raw.separator.window.left + x)

-- The window has `many` pixels of row r of a tile from an offset on, and the first is pixel `first` of the line. It has
-- no others.
pub record IsSpan (raw : RawRows) (p : Place) (r : ℕ) (span : Span) : Type 0 where
  pub most : span.offset + span.many ≤ 64
  pub inside : 0 < span.many → span.first + span.many ≤ raw.separator.window.left + raw.separator.window.width
  pub from : (offset x : ℕ) → IsInRow raw p r offset x → span.offset ≤ offset
  pub to : (offset x : ℕ) → IsInRow raw p r offset x → offset < span.offset + span.many
  pub at : (offset x : ℕ) → IsInRow raw p r offset x → span.first + offset ≡ raw.separator.window.left + x + span.offset

-- ---- bytes of a tile, row by row

-- A pixel of this kind has so many bytes.
pub record HasUnit (kind : Kind) (unit : ℕ) : Type 0 where
  pub is : unit ≡ (row_of kind).unit
  pub whole : kind ≢ Black1

-- The numbers of the pixel at offset o of a row that begins at `start`. A pixel of one bit has a byte of its own. This
-- is 0 for white; any other byte is black.
abbrev pub pixel_from : Kind → List ℕ → ℕ → ℕ → List ℕ
pixel_from Gray8 bytes start o = slice_index bytes (start + o) ∷ []
pixel_from Black8 bytes start o = slice_index bytes (start + o) ∷ []
pixel_from Rgb8 bytes start o =
    slice_index bytes (start + 3 * o) ∷ slice_index bytes (start + (3 * o + 1)) ∷ slice_index bytes (start + (3 * o + 2))
    ∷ []
pixel_from Black1 bytes start o = min 1 (slice_index bytes (start + o)) ∷ []
pixel_from Cmyk8 bytes start o =
    slice_index bytes (start + 4 * o) ∷ slice_index bytes (start + (4 * o + 1)) ∷ slice_index bytes (start + (4 * o + 2))
    ∷ slice_index bytes (start + (4 * o + 3)) ∷ []

-- The pixels of row r of a tile stand in bytes from `start` on, wherever the window has them.
pub record HasPart (raw : RawRows) (p : Place) (r : ℕ) (bytes : List ℕ) (start : ℕ) : Type 0 where
  pub pixel : (offset x : ℕ) → IsInRow raw p r offset x
      → pixel_from raw.separator.kind bytes start offset ≡ row_pixel raw p r x

-- those of the first n rows do, each `step` bytes behind the row above
abbrev pub HasParts : RawRows → Place → ℕ → ℕ → List ℕ → Type 0
HasParts raw p step n bytes = (r : ℕ) → r < n → HasPart raw p r bytes (step * r)

-- Row r of a tile has its pixels from `start` on, and all bytes before these are unchanged.
pub record PutsPart (raw : RawRows) (p : Place) (r start : ℕ) (old new : List ℕ) : Type 0 where
  pub part : HasPart raw p r new start
  pub above : (n : ℕ) → n < start → slice_index new n ≡ slice_index old n

-- ---- bytes of a tile by columns

-- The pixels of a tile stand in columns, wherever the window has them.
pub record HasPixelColumns (raw : RawRows) (p : Place) (columns : List ℕ) : Type 0 where
  pub pixel : (r offset x : ℕ) → r < 32 → IsInRow raw p r offset x
      → pixel_in raw.separator.kind columns offset r ≡ row_pixel raw p r x

-- ---- white tiles

-- The bytes of row r of a tile are white.
pub record IsWhiteRow (raw : RawRows) (p : Place) (r : ℕ) : Type 0 where
  pub byte : (k : ℕ) → k < part_bytes raw (first_pixel raw p r)
      → slice_index (line_in raw (32 * p.j + r)) (first_byte raw.separator.kind (first_pixel raw p r) + k)
      ≡ white_byte raw.separator.kind

-- those of the first n rows are
abbrev pub AreWhiteRows : RawRows → Place → ℕ → Type 0
AreWhiteRows raw p n = (r : ℕ) → r < n → IsWhiteRow raw p r

-- Each row of band j is flagged as white.
pub record AreWhiteBand (raw : RawRows) (j : ℕ) : Type 0 where
  pub room : 32 * j + 32 ≤ 256
  pub row : (r : ℕ) → r < 32 → slice_index_or raw.white (32 * j + r) false ≡ true

-- Each pixel of a tile is white, wherever the window has it.
pub record HasWhitePixels (raw : RawRows) (p : Place) : Type 0 where
  pub pixel : (r offset x : ℕ) → r < 32 → IsInRow raw p r offset x
      → row_pixel raw p r x ≡ white_pixel raw.separator.kind
