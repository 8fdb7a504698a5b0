-- How much of each ink a pixel takes.
use Rattle.std.specs.Prelude.{ℕ, ◌+◌, ◌-◌, ◌*◌, ◌/◌, ◌%◌, nat_lt, if◌then◌else◌, min, List, [], ◌∷◌, slice_index, slice_index_or}
use Rattle.base_definitions.specs.Packed.{bit_at, worth}
use Rattle.printer_definitions.specs.declared.inks.Ink.{Ink}
use Rattle.printer_definitions.specs.declared.inks.Ink.TheVariants.{Black, Cyan, Magenta, Yellow}
use Rattle.printer_definitions.specs.declared.inks.InkSet.{InkSet}
use Rattle.printer_definitions.specs.declared.inks.InkSet.TheVariants.{K, Cmy, Cmyk}
use Rattle.printer_definitions.specs.Printer.{Printer, limit_of, tone_of}
use Rattle.diffusion_definitions.specs.Diffusion.{Plane}
use Rattle.separation_definitions.specs.declared.window.Window.{Window}
use Rattle.separation_definitions.specs.Windows.{window_of}
use Rattle.pwg_definitions.specs.declared.pages.Kind.{Kind}
use Rattle.pwg_definitions.specs.declared.pages.Kind.TheVariants.{Gray8, Black8, Rgb8, Black1, Cmyk8}
use Rattle.pwg_definitions.specs.Stream.{Page}

-- ---- pixels without colour

-- what a grey of this darkness gives to an ink: all to black in a set with black, else the same to cyan, magenta and
-- yellow
abbrev pub grey_ink : InkSet → Ink → ℕ → ℕ
grey_ink K ink d = d
grey_ink Cmy ink d = d
grey_ink Cmyk Black d = d
grey_ink Cmyk Cyan d = 0
grey_ink Cmyk Magenta d = 0
grey_ink Cmyk Yellow d = 0

-- ---- pixels of red, green and blue

-- A colour of red, green and blue.
pub record Colour : Type 0 where
  pub red : ℕ
  pub green : ℕ
  pub blue : ℕ

-- the darkness of a colour as a grey: the weights sum to 256
abbrev pub darkness : Colour → ℕ
darkness colour = 255 - (77 * colour.red + 150 * colour.green + 29 * colour.blue) / 256

-- the complement of a colour: 255 - red for cyan, 255 - green for magenta, 255 - blue for yellow, 0 for black
abbrev pub complement : Colour → Ink → ℕ
complement colour Black = 0
complement colour Cyan = 255 - colour.red
complement colour Magenta = 255 - colour.green
complement colour Yellow = 255 - colour.blue

-- the darkness that cyan, magenta and yellow share
abbrev pub common_darkness : Colour → ℕ
common_darkness colour = min (min (255 - colour.red) (255 - colour.green)) (255 - colour.blue)

-- Black generation: the part of the shared darkness that black takes over; nothing below `black_start`, all of it at
-- 255.
abbrev pub moved_to_black : ℕ → ℕ → ℕ
moved_to_black least q = if nat_lt q least then 0 else (q - least) * 255 / (255 - least)

-- what a colour gives to an ink of the set CMYK
abbrev pub four_inks : ℕ → Colour → Ink → ℕ
four_inks least colour Black = moved_to_black least (common_darkness colour)
four_inks least colour Cyan = complement colour Cyan - moved_to_black least (common_darkness colour)
four_inks least colour Magenta = complement colour Magenta - moved_to_black least (common_darkness colour)
four_inks least colour Yellow = complement colour Yellow - moved_to_black least (common_darkness colour)

-- what a colour gives to an ink of a set
abbrev pub colour_ink : InkSet → ℕ → Colour → Ink → ℕ
colour_ink K least colour ink = darkness colour
colour_ink Cmy least colour ink = complement colour ink
colour_ink Cmyk least colour ink = four_inks least colour ink

-- ---- pixels of cyan, magenta, yellow and black

-- the number that a pixel's four bytes have for an ink
abbrev pub own_ink : List ℕ → Ink → ℕ
own_ink pixel Black = slice_index pixel 3
own_ink pixel Cyan = slice_index pixel 0
own_ink pixel Magenta = slice_index pixel 1
own_ink pixel Yellow = slice_index pixel 2

-- an ink of a pixel with its black added, at most 255
abbrev pub with_black : List ℕ → Ink → ℕ
with_black pixel ink = min 255 (own_ink pixel ink + own_ink pixel Black)

-- the colour that a pixel leaves of white paper
abbrev pub colour_left : List ℕ → Colour
colour_left pixel = record {
  red = 255 - with_black pixel Cyan;
  green = 255 - with_black pixel Magenta;
  blue = 255 - with_black pixel Yellow;
}

-- what a pixel of four inks gives to an ink of a set: the darkness of its colour to black alone, each ink with black
-- added to three, and its own number to each of four
abbrev pub cmyk_ink : InkSet → List ℕ → Ink → ℕ
cmyk_ink K pixel ink = darkness (colour_left pixel)
cmyk_ink Cmy pixel ink = with_black pixel ink
cmyk_ink Cmyk pixel ink = own_ink pixel ink

-- ---- amounts

-- the numbers of the pixel at x of a line: its bytes, or its one bit, the highest bit of a byte being the leftmost
-- pixel
abbrev pub pixel_at : Kind → List ℕ → ℕ → List ℕ
pixel_at Gray8 line x = slice_index line x ∷ []
pixel_at Black8 line x = slice_index line x ∷ []
pixel_at Rgb8 line x = slice_index line (3 * x) ∷ slice_index line (3 * x + 1) ∷ slice_index line (3 * x + 2) ∷ []
pixel_at Black1 line x = worth (bit_at (slice_index line (x / 8)) (x % 8)) 1 ∷ []
pixel_at Cmyk8 line x =
    slice_index line (4 * x) ∷ slice_index line (4 * x + 1) ∷ slice_index line (4 * x + 2) ∷ slice_index line (4 * x + 3)
    ∷ []

-- the colour of a pixel's three bytes
abbrev pub colour_of : List ℕ → Colour
colour_of pixel = record { red = slice_index pixel 0; green = slice_index pixel 1; blue = slice_index pixel 2 }

-- what a pixel gives to an ink before the ink's curve and limit; 0 is black in Gray8, 255 in Black8, and 1 in Black1
abbrev pub pixel_ink : Printer → Kind → List ℕ → Ink → ℕ
pixel_ink p Gray8 pixel ink = grey_ink p.inks ink (255 - slice_index pixel 0)
pixel_ink p Black8 pixel ink = grey_ink p.inks ink (slice_index pixel 0)
pixel_ink p Rgb8 pixel ink = colour_ink p.inks p.black_start (colour_of pixel) ink
pixel_ink p Black1 pixel ink = grey_ink p.inks ink (255 * slice_index pixel 0)
pixel_ink p Cmyk8 pixel ink = cmyk_ink p.inks pixel ink

-- The amount of an ink at a pixel, 0 to 255: the tone of what the pixel gives, scaled by the ink's limit.
abbrev pub amount : Printer → Kind → List ℕ → Ink → ℕ
amount p kind pixel ink = tone_of p ink (pixel_ink p kind pixel ink) * limit_of p ink / 255

-- The amounts of an ink over the window of a page.
abbrev pub ink_plane : Page → Printer → Ink → Plane
ink_plane page p ink =
    let window : Window = window_of page.form p in
    record {
      width = window.width;
      height = window.height;
      amount = λ y x. amount p page.form.kind
          (pixel_at page.form.kind (slice_index_or page.lines (window.top + y) []) (window.left + x)) ink;
    }
