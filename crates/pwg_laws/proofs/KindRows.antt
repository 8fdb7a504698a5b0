-- What holds of each kind of pixel.
use Rattle.std.proofs.Common.{◌≡◌, ℕ, ◌*◌, ◌<◌, ◌≤◌, ◌^◌, length, Some, refl, arith, lit<}
use Rattle.pwg_definitions.specs.declared.pages.Kind.{Kind}
use Rattle.pwg_definitions.specs.declared.pages.Kind.TheVariants.{Gray8, Black8, Rgb8, Black1, Cmyk8}
use Rattle.pwg_definitions.specs.declared.pages.Header.{Header}
use Rattle.pwg_definitions.specs.Header.{KindRow, kind_of, line_bytes, line_units, row_of}

-- the header with the numbers of a row
abbrev pub named_by : KindRow → Header → Header
named_by row h = record h {
  color_space = row.color_space;
  bits_per_color = row.bits_per_color;
  bits_per_pixel = row.bits_per_pixel;
}

-- The row of a kind: its units fill a line, its white is a unit, and its numbers fit a header and name it.
pub record IsKindRow (kind : Kind) (row : KindRow) : Type 0 where
  pub kind_is : row.kind ≡ kind
  pub some : 1 ≤ row.unit
  pub white_sized : length row.white ≡ row.unit
  pub whole : (width : ℕ) → line_units row width * row.unit ≡ line_bytes width row.bits_per_pixel
  pub named : (h : Header) → kind_of (named_by row h) ≡ Some row
  pub space_fits : row.color_space < 2 ^ 32
  pub bits_fit : row.bits_per_color < 2 ^ 32
  pub pixel_fits : row.bits_per_pixel < 2 ^ 32

-- what holds of each kind by itself holds of any
each_kind : (P : Kind → Type 0) → P Gray8 → P Black8 → P Rgb8 → P Black1 → P Cmyk8 → (kind : Kind) → P kind
each_kind P grey black colours bits inks Gray8 = grey
each_kind P grey black colours bits inks Black8 = black
each_kind P grey black colours bits inks Rgb8 = colours
each_kind P grey black colours bits inks Black1 = bits
each_kind P grey black colours bits inks Cmyk8 = inks

pub kind_row : (kind : Kind) → IsKindRow kind (row_of kind)
kind_row kind = record {
  kind_is = each_kind (λ kind. (row_of kind).kind ≡ kind) refl refl refl refl refl kind;
  some = each_kind (λ kind. 1 ≤ (row_of kind).unit) (omega arith) (omega arith) (omega arith) (omega arith) (omega arith) kind;
  white_sized = each_kind (λ kind. length (row_of kind).white ≡ (row_of kind).unit) refl refl refl refl refl kind;
  whole = each_kind (λ kind. (width : ℕ) → line_units (row_of kind) width * (row_of kind).unit ≡ line_bytes width (row_of kind).bits_per_pixel)
      (λ width. omega arith) (λ width. omega arith) (λ width. omega arith) (λ width. omega arith) (λ width. omega arith) kind;
  named = each_kind (λ kind. (h : Header) → kind_of (named_by (row_of kind) h) ≡ Some (row_of kind))
      (λ h. refl) (λ h. refl) (λ h. refl) (λ h. refl) (λ h. refl) kind;
  space_fits = each_kind (λ kind. (row_of kind).color_space < 2 ^ 32) (lit< tt) (lit< tt) (lit< tt) (lit< tt) (lit< tt) kind;
  bits_fit = each_kind (λ kind. (row_of kind).bits_per_color < 2 ^ 32) (lit< tt) (lit< tt) (lit< tt) (lit< tt) (lit< tt) kind;
  pixel_fits = each_kind (λ kind. (row_of kind).bits_per_pixel < 2 ^ 32) (lit< tt) (lit< tt) (lit< tt) (lit< tt) (lit< tt) kind;
}
