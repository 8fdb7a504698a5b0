-- What is kept of a line, and where.
use Rattle.std.specs.Prelude.{Bool, false, true, ℕ, ◌≡◌, ◌+◌, ◌*◌, ◌/◌, ◌%◌, ◌<◌, ◌≤◌, List, Some, length, slice_get, slice_index, slice_index_or}
use Rattle.base_definitions.specs.Limits.{most_columns}
use Rattle.dot_planes.specs.Tables.{row_at}
use Rattle.ink_separation.specs.Columns.{white_pixel}
use Rattle.ink_separation.specs.Separators.{printer_in}
use Rattle.printer_definitions.specs.Inks.{inks_of}
use Rattle.printer_definitions.specs.declared.inks.Ink.{Ink}
use Rattle.separation_definitions.specs.Amounts.{amount as amount_of}
use Rattle.pwg_definitions.specs.Header.{line_bytes, row_of}
use Rattle.pwg_definitions.specs.declared.pages.Kind.{Kind}
use Rattle.pwg_definitions.specs.declared.pages.Kind.TheVariants.{Gray8, Black8, Rgb8, Black1, Cmyk8}
use Rattle.ink_separation.specs.declared.separator.Separator.{Separator}

-- how many bytes of a line are kept: those of its pixels up to the window's right edge
abbrev pub kept_bytes : Separator → ℕ
kept_bytes s = line_bytes (s.window.left + s.window.width) (row_of s.kind).bits_per_pixel

-- the sizes that the window of a separator and its rows may have
pub record IsSlabSize (s : Separator) (rows : ℕ) : Type 0 where
  pub some_columns : 1 ≤ s.window.width
  pub most_columns : s.window.width ≤ most_columns
  pub some_rows : 1 ≤ rows
  pub most_rows : rows ≤ 256

-- the number of a row's line is no more than that of the row
abbrev pub AreEarlier : List ℕ → Type 0
AreEarlier index = (y : ℕ) → slice_index index y ≤ y

-- no row has an earlier line than a row above it
abbrev pub AreInOrder : List ℕ → Type 0
AreInOrder index = (r y : ℕ) → r ≤ y → y < 256 → slice_index index r ≤ slice_index index y

-- each row's line ends where so many bytes do, or before
abbrev pub AreThere : List ℕ → ℕ → ℕ → Type 0
AreThere index len bytes = (y : ℕ) → slice_index index y * len + len ≤ bytes

-- the byte of a line where a pixel begins
abbrev pub first_byte : Kind → ℕ → ℕ
first_byte Gray8 x = x
first_byte Black8 x = x
first_byte Rgb8 x = 3 * x
first_byte Black1 x = x / 8
first_byte Cmyk8 x = 4 * x

-- how many pixels before it begin in that byte
abbrev pub pixels_before : Kind → ℕ → ℕ
pixels_before Gray8 x = 0
pixels_before Black8 x = 0
pixels_before Rgb8 x = 0
pixels_before Black1 x = x % 8
pixels_before Cmyk8 x = 0

-- the byte of white pixels: each of a white unit
abbrev pub white_byte : Kind → ℕ
white_byte kind = slice_index (row_of kind).white 0

-- all bytes of a line are white
pub record IsWhiteLine (kind : Kind) (line : List ℕ) : Type 0 where
  pub byte : (k : ℕ) → k < length line → slice_index line k ≡ white_byte kind

-- the line of each row that is flagged is white
abbrev pub AreWhiteLines : Kind → ℕ → List ℕ → List ℕ → List Bool → Type 0
AreWhiteLines kind len bytes index white =
    (y : ℕ) → y < 256 → slice_index_or white y false ≡ true → (k : ℕ) → k < len
    → slice_index (row_at len bytes (slice_index index y)) k ≡ white_byte kind

-- white pixels have no amount of any ink
abbrev pub IsFree : Separator → Type 0
IsFree s =
    (i : ℕ) (ink : Ink) → slice_get (inks_of s.inks) i ≡ Some ink
    → amount_of (printer_in s) s.kind (white_pixel s.kind) ink ≡ 0
