-- The page header of PWG 5102.4, section 4.3: its fields, when it is accepted, and the bytes that a writer makes.
use Rattle.std.specs.Prelude.{◌≡◌, ℕ, ◌≤◌, ◌+◌, ◌*◌, ◌/◌, Bool, not, ◌==◌, nat_eq, nat_lt, ◌&&◌, ◌||◌, if◌then◌else◌, List, [], ◌∷◌, ◌++◌}
use Rattle.std.specs.Prelude.{length, take, drop, replicate, find, Option, Some, None, is_some, Result, Ok, Err}
use Rattle.std.specs.List.{starts_with}
use Rattle.std.specs.Int.{w32, from_be_bytes, to_be_bytes}
use Rattle.pwg_definitions.specs.declared.pages.Kind.{Kind}
use Rattle.pwg_definitions.specs.declared.pages.Kind.TheVariants.{Gray8, Black8, Rgb8, Black1, Cmyk8}
use Rattle.pwg_definitions.specs.declared.pages.PageForm.{PageForm}
use Rattle.pwg_definitions.specs.declared.pages.Header.{Header}
use Rattle.pwg_definitions.specs.declared.pages.Wanted.{Wanted}
use Rattle.pwg_definitions.specs.declared.faults.HeaderFault.{HeaderFault}
use Rattle.pwg_definitions.specs.declared.faults.HeaderFault.TheVariants as fault
use Rattle.pwg_definitions.specs.Limits.{header_length}

-- ---- kinds of pixel

-- A row of the table of kinds: the numbers by which a header names the kind, the length in bytes of what packets of a
-- line repeat (`unit`: a pixel, or eight pixels of one bit), and a white one.
pub record KindRow : Type 0 where
  pub kind : Kind
  pub color_space : ℕ
  pub bits_per_color : ℕ
  pub bits_per_pixel : ℕ
  pub unit : ℕ
  pub white : List ℕ

-- the row of a kind
abbrev pub row_of : Kind → KindRow
row_of Gray8 = record {
  kind = Gray8;
  color_space = 18;
  bits_per_color = 8;
  bits_per_pixel = 8;
  unit = 1;
  white = 255 ∷ [];
}
row_of Black8 = record {
  kind = Black8;
  color_space = 3;
  bits_per_color = 8;
  bits_per_pixel = 8;
  unit = 1;
  white = 0 ∷ [];
}
row_of Rgb8 = record {
  kind = Rgb8;
  color_space = 19;
  bits_per_color = 8;
  bits_per_pixel = 24;
  unit = 3;
  white = 255 ∷ 255 ∷ 255 ∷ [];
}
row_of Black1 = record {
  kind = Black1;
  color_space = 3;
  bits_per_color = 1;
  bits_per_pixel = 1;
  unit = 1;
  white = 0 ∷ [];
}
row_of Cmyk8 = record {
  kind = Cmyk8;
  color_space = 6;
  bits_per_color = 8;
  bits_per_pixel = 32;
  unit = 4;
  white = 0 ∷ 0 ∷ 0 ∷ 0 ∷ [];
}

-- how many colours a pixel has
abbrev pub colors_of : KindRow → ℕ
colors_of row = row.bits_per_pixel / row.bits_per_color

-- the table of kinds
abbrev pub kinds : List KindRow
kinds = row_of Gray8 ∷ row_of Black8 ∷ row_of Rgb8 ∷ row_of Black1 ∷ row_of Cmyk8 ∷ []

-- the bytes of a line: its bits, in whole bytes; bits past the last pixel mean nothing
abbrev pub line_bytes : ℕ → ℕ → ℕ
line_bytes width bits = (width * bits + 7) / 8

-- the units of a line: its pixels, or its bytes where a byte has eight of them
abbrev pub line_units : KindRow → ℕ → ℕ
line_units row width = line_bytes width row.bits_per_pixel / row.unit

-- ---- reading a header

-- `PwgRaster`, ended by 00
abbrev pub pwg_raster : List ℕ
pwg_raster = 80 ∷ 119 ∷ 103 ∷ 82 ∷ 97 ∷ 115 ∷ 116 ∷ 101 ∷ 114 ∷ 0 ∷ []

-- the number in the four bytes from an offset on, the highest byte first
abbrev pub number_at : ℕ → List ℕ → ℕ
number_at offset bytes = from_be_bytes w32 (take 4 (drop offset bytes))

-- the fields of a header
abbrev pub header_of : List ℕ → Header
header_of bytes = record {
  is_pwg = starts_with nat_eq bytes pwg_raster;
  hres = number_at 276 bytes;
  vres = number_at 280 bytes;
  width = number_at 372 bytes;
  height = number_at 376 bytes;
  bits_per_color = number_at 384 bytes;
  bits_per_pixel = number_at 388 bytes;
  bytes_per_line = number_at 392 bytes;
  color_order = number_at 396 bytes;
  color_space = number_at 400 bytes;
  cross_transform = number_at 456 bytes;
  feed_transform = number_at 460 bytes;
}

-- whether a header names this kind
abbrev pub has_kind : Header → KindRow → Bool
has_kind h row =
    (h.color_space == row.color_space) && (h.bits_per_color == row.bits_per_color)
    && (h.bits_per_pixel == row.bits_per_pixel)

-- the row of the kind that a header names
abbrev pub kind_of : Header → Option KindRow
kind_of h = find (has_kind h) kinds

-- whether a number is outside of bounds
abbrev pub is_outside : ℕ → ℕ → ℕ → Bool
is_outside least most n = nat_lt n least || nat_lt most n

-- each fault of a header with its test, in the order of the checks
abbrev pub header_tests : Wanted → Header → List (Bool × HeaderFault)
header_tests want h =
    (not h.is_pwg, fault.NotPwg)
    ∷ (not (h.hres == want.hdpi) || not (h.vres == want.vdpi), fault.Resolution)
    ∷ (is_outside want.least_width want.most_width h.width, fault.Width)
    ∷ (is_outside want.least_height want.most_height h.height, fault.Height)
    ∷ (not (is_some (kind_of h)), fault.Kind)
    ∷ (not (h.bytes_per_line == line_bytes h.width h.bits_per_pixel), fault.BytesPerLine)
    ∷ (not (h.color_order == 0), fault.Order)
    ∷ (nat_lt 1 h.cross_transform || nat_lt 1 h.feed_transform, fault.Transform)
    ∷ []

-- the fault of the first test that holds
abbrev pub first_header_fault : List (Bool × HeaderFault) → Option HeaderFault
first_header_fault [] = None
first_header_fault (test ∷ tests) = if test.0 then Some test.1 else first_header_fault tests

-- the form of a page of this kind
abbrev pub header_form : Header → Option KindRow → Result PageForm HeaderFault
header_form h None = Err fault.Kind
header_form h (Some row) = Ok (record {
  width = h.width;
  height = h.height;
  kind = row.kind;
  bytes_per_line = h.bytes_per_line;
})

-- a header's first fault, or the form of its page
abbrev pub check : Wanted → Header → Result PageForm HeaderFault
check want h = elim (first_header_fault (header_tests want h)) [ None ↦ header_form h (kind_of h) | Some f ↦ Err f ]

-- The form of a page that is wanted: its size is within the bounds, and its lines are as long as its width takes.
pub record IsWanted (want : Wanted) (form : PageForm) : Type 0 where
  pub least_width : want.least_width ≤ form.width
  pub most_width : form.width ≤ want.most_width
  pub least_height : want.least_height ≤ form.height
  pub most_height : form.height ≤ want.most_height
  pub bytes_per_line : form.bytes_per_line ≡ line_bytes form.width (row_of form.kind).bits_per_pixel

-- ---- writing a header

-- the bytes with those from an offset on replaced
abbrev pub with_bytes : ℕ → List ℕ → List ℕ → List ℕ
with_bytes offset new bytes = take offset bytes ++ (new ++ drop (offset + length new) bytes)

-- the bytes with these numbers at their offsets, each in four bytes, the highest byte first
abbrev pub with_numbers : List (ℕ × ℕ) → List ℕ → List ℕ
with_numbers [] bytes = bytes
with_numbers (field ∷ fields) bytes = with_numbers fields (with_bytes field.0 (to_be_bytes w32 field.1) bytes)

-- the numbers of a written header by their offsets; all others are 0
abbrev pub header_numbers : PageForm → KindRow → ℕ → ℕ → List (ℕ × ℕ)
header_numbers form row hdpi vdpi =
    (276, hdpi) ∷ (280, vdpi) ∷ (340, 1) ∷ (372, form.width) ∷ (376, form.height) ∷ (384, row.bits_per_color)
    ∷ (388, row.bits_per_pixel) ∷ (392, form.bytes_per_line) ∷ (400, row.color_space) ∷ (420, colors_of row)
    ∷ (456, 1) ∷ (460, 1) ∷ []

-- the header that a writer makes: 1,796 bytes, all 0 but `PwgRaster` and these numbers
unfoldable pub header_bytes : PageForm → ℕ → ℕ → List ℕ
header_bytes form hdpi vdpi =
    with_numbers (header_numbers form (row_of form.kind) hdpi vdpi) (with_bytes 0 pwg_raster (replicate header_length 0))
