-- Worked pages, and the printers for which they were worked.
use Rattle.std.specs.Prelude.{ℕ, List, [], ◌∷◌, ◌++◌, map}
use Rattle.printer_definitions.specs.declared.inks.Ink.TheVariants.{Black}
use Rattle.printer_definitions.specs.declared.inks.InkSet.{InkSet}
use Rattle.printer_definitions.specs.declared.inks.InkSet.TheVariants.{Cmyk}
use Rattle.printer_definitions.specs.Inks.{inks_of}
use Rattle.printer_definitions.specs.Printer.{Printer, tiny1}
use Rattle.separation_definitions.specs.Amounts.{amount}
use Rattle.diffusion_definitions.specs.Diffusion.{floyd}
use Rattle.escp2_definitions.specs.Machine.{Dot}
use Rattle.page_definitions.specs.Dots.{Screening}
use Rattle.weave_definitions.specs.Weave.{Firing}
use Rattle.pwg_definitions.specs.declared.pages.Kind.TheVariants.{Gray8, Rgb8}
use Rattle.pwg_definitions.specs.declared.pages.PageForm.{PageForm}
use Rattle.pwg_definitions.specs.Stream.{Page}

-- ---- printers

-- the printer with one nozzle, and a margin of one pixel on the left and at the top
abbrev pub with_margins : Printer
with_margins = record tiny1 { left = 1; top = 1 }

-- the printer with one nozzle of each ink of a set
abbrev pub with_inks : InkSet → Printer
with_inks inks = record tiny1 { inks = inks }

-- the printer with one nozzle and these limits of its inks
abbrev pub with_limits : ℕ → Printer
with_limits limit = record tiny1 { limits = limit ∷ limit ∷ limit ∷ limit ∷ [] }

-- four inks, with black from this darkness on
abbrev pub with_black_start : ℕ → Printer
with_black_start least = record tiny1 { inks = Cmyk; black_start = least }

-- 720 dots an inch across the page; then down it
abbrev pub fine_across : Printer
fine_across = record tiny1 { hdpi = 720 }

abbrev pub fine_down : Printer
fine_down = record tiny1 { vdpi = 720 }

-- ---- screenings

-- by the table of Floyd and Steinberg, without grain
abbrev pub by_floyd : Screening
by_floyd = record { table = floyd; grain = 0 }

-- ---- pages

-- a grey page of this many columns and rows
abbrev pub grey : ℕ → ℕ → PageForm
grey width height = record { width = width; height = height; kind = Gray8; bytes_per_line = width }

-- two lines of grey, a light one and a darker one
abbrev pub small_page : Page
small_page = record {
  form = grey 4 2;
  lines = (0xD1 ∷ 0xD1 ∷ 0xD1 ∷ 0xD1 ∷ []) ∷ (0x9F ∷ 0x9F ∷ 0x9F ∷ 0xA3 ∷ []) ∷ [];
}

-- a white page and a black page
abbrev pub white_page : Page
white_page = record {
  form = grey 4 2;
  lines = (0xFF ∷ 0xFF ∷ 0xFF ∷ 0xFF ∷ []) ∷ (0xFF ∷ 0xFF ∷ 0xFF ∷ 0xFF ∷ []) ∷ [];
}

abbrev pub black_page : Page
black_page = record {
  form = grey 4 2;
  lines = (0x00 ∷ 0x00 ∷ 0x00 ∷ 0x00 ∷ []) ∷ (0x00 ∷ 0x00 ∷ 0x00 ∷ 0x00 ∷ []) ∷ [];
}

-- three black rows of a column, and a black row of four columns
abbrev pub black_column : Page
black_column = record { form = grey 1 3; lines = (0x00 ∷ []) ∷ (0x00 ∷ []) ∷ (0x00 ∷ []) ∷ [] }

abbrev pub black_line : Page
black_line = record { form = grey 4 1; lines = (0x00 ∷ 0x00 ∷ 0x00 ∷ 0x00 ∷ []) ∷ [] }

-- six black rows of eight columns
abbrev pub black_row_8 : List ℕ
black_row_8 = 0x00 ∷ 0x00 ∷ 0x00 ∷ 0x00 ∷ 0x00 ∷ 0x00 ∷ 0x00 ∷ 0x00 ∷ []

abbrev pub six_rows : Page
six_rows = record { form = grey 8 6; lines = black_row_8 ∷ black_row_8 ∷ black_row_8 ∷ black_row_8 ∷ black_row_8 ∷ black_row_8 ∷ [] }

-- one pixel of this red, green and blue
abbrev pub pixel : ℕ → ℕ → ℕ → Page
pixel red green blue = record {
  form = record { width = 1; height = 1; kind = Rgb8; bytes_per_line = 3 };
  lines = (red ∷ green ∷ blue ∷ []) ∷ [];
}

-- ---- their bytes

-- the commands before the strokes, 46 bytes: the length of the sheet in units, and its margins
abbrev pub prologue_bytes : ℕ → ℕ → ℕ → List ℕ
prologue_bytes len top bottom =
    0x1B ∷ 0x40
    ∷ 0x1B ∷ 0x28 ∷ 0x47 ∷ 0x01 ∷ 0x00 ∷ 0x01
    ∷ 0x1B ∷ 0x28 ∷ 0x55 ∷ 0x01 ∷ 0x00 ∷ 0x05
    ∷ 0x1B ∷ 0x28 ∷ 0x69 ∷ 0x01 ∷ 0x00 ∷ 0x00
    ∷ 0x1B ∷ 0x55 ∷ 0x01
    ∷ 0x1B ∷ 0x28 ∷ 0x43 ∷ 0x02 ∷ 0x00 ∷ len ∷ 0x00
    ∷ 0x1B ∷ 0x28 ∷ 0x63 ∷ 0x04 ∷ 0x00 ∷ top ∷ 0x00 ∷ bottom ∷ 0x00
    ∷ 0x1B ∷ 0x28 ∷ 0x56 ∷ 0x02 ∷ 0x00 ∷ 0x00 ∷ 0x00
    ∷ []

-- down by this many units
abbrev pub down_bytes : ℕ → List ℕ
down_bytes n = 0x1B ∷ 0x28 ∷ 0x76 ∷ 0x02 ∷ 0x00 ∷ n ∷ 0x00 ∷ []

-- an ink from the left margin on, with coded rows: its colour, the steps of the raster down and across, its rows and
-- columns
abbrev pub raster_bytes : ℕ → ℕ → ℕ → ℕ → ℕ → List ℕ → List ℕ
raster_bytes ink v h m n rows = 0x1B ∷ 0x72 ∷ ink ∷ 0x0D ∷ 0x1B ∷ 0x2E ∷ 0x01 ∷ v ∷ h ∷ m ∷ n ∷ 0x00 ∷ rows

-- the end of a page
abbrev pub end_bytes : List ℕ
end_bytes = 0x0C ∷ 0x1B ∷ 0x40 ∷ []

-- the small page for one nozzle: its second row alone has dots
abbrev pub small_page_bytes : List ℕ
small_page_bytes = prologue_bytes 0x04 0x00 0x04 ++ down_bytes 0x02 ++ raster_bytes 0x00 0x0A 0x0A 0x01 0x04 (0x00 ∷ 0x50 ∷ []) ++ end_bytes

-- the white page: no stroke
abbrev pub white_page_bytes : List ℕ
white_page_bytes = prologue_bytes 0x04 0x00 0x04 ++ end_bytes

-- the black page inside its margins: three dots in one row
abbrev pub black_page_bytes : List ℕ
black_page_bytes = prologue_bytes 0x04 0x02 0x04 ++ raster_bytes 0x00 0x0A 0x0A 0x01 0x03 (0x00 ∷ 0xE0 ∷ []) ++ end_bytes

-- a dot in each of three rows, by one nozzle
abbrev pub one_dot_bytes : List ℕ
one_dot_bytes = raster_bytes 0x00 0x0A 0x0A 0x01 0x01 (0x00 ∷ 0x80 ∷ [])

abbrev pub black_column_bytes : List ℕ
black_column_bytes =
    prologue_bytes 0x06 0x00 0x06 ++ one_dot_bytes ++ down_bytes 0x02 ++ one_dot_bytes ++ down_bytes 0x02 ++ one_dot_bytes ++ end_bytes

-- a black pixel; then a red one, of magenta and yellow
abbrev pub black_pixel_bytes : List ℕ
black_pixel_bytes = prologue_bytes 0x02 0x00 0x02 ++ one_dot_bytes ++ end_bytes

abbrev pub red_pixel_bytes : List ℕ
red_pixel_bytes =
    prologue_bytes 0x02 0x00 0x02
    ++ raster_bytes 0x01 0x0A 0x0A 0x01 0x01 (0x00 ∷ 0x80 ∷ [])
    ++ raster_bytes 0x04 0x0A 0x0A 0x01 0x01 (0x00 ∷ 0x80 ∷ [])
    ++ end_bytes

-- the black line at 720 dots an inch across the page; then down it
abbrev pub fine_across_bytes : List ℕ
fine_across_bytes = prologue_bytes 0x02 0x00 0x02 ++ raster_bytes 0x00 0x0A 0x05 0x01 0x04 (0x00 ∷ 0xF0 ∷ []) ++ end_bytes

abbrev pub fine_down_bytes : List ℕ
fine_down_bytes = prologue_bytes 0x01 0x00 0x01 ++ raster_bytes 0x00 0x05 0x0A 0x01 0x04 (0x00 ∷ 0xF0 ∷ []) ++ end_bytes

-- ---- what they mean

abbrev pub black_dot : ℕ → ℕ → Dot
black_dot x y = record { ink = Black; x = x; y = y }

-- a nozzle of a pass, and the row that it fires
abbrev pub fires_row : ℕ → ℕ → ℕ → Firing
fires_row pass nozzle row = record { pass = pass; nozzle = nozzle; row = row }

-- the amounts of a printer's inks for a grey of 128, which is a darkness of 127, and for a colour
abbrev pub amounts_of_128 : Printer → List ℕ
amounts_of_128 p = map (amount p Gray8 (128 ∷ [])) (inks_of p.inks)

abbrev pub amounts_of : Printer → ℕ → ℕ → ℕ → List ℕ
amounts_of p red green blue = map (amount p Rgb8 (red ∷ green ∷ blue ∷ [])) (inks_of p.inks)
