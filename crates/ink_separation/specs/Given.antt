-- What pixels give to inks.
use Rattle.std.specs.Prelude.{◌≡◌, ℕ, ◌+◌, ◌<◌, List, slice_index}
use Rattle.printer_definitions.specs.declared.inks.Ink.{Ink}
use Rattle.printer_definitions.specs.declared.inks.Ink.TheVariants.{Black, Cyan, Magenta, Yellow}
use Rattle.printer_definitions.specs.Printer.{Printer}
use Rattle.pwg_definitions.specs.declared.pages.Kind.{Kind}
use Rattle.pwg_definitions.specs.declared.pages.Kind.TheVariants.{Rgb8, Cmyk8}
use Rattle.separation_definitions.specs.Amounts.{Colour, colour_of, pixel_at, pixel_ink}
use Rattle.ink_separation.specs.declared.given.Given.{Given}

-- the colour of a pixel of red, green and blue
abbrev pub colour_at : List ℕ → ℕ → Colour
colour_at pixels x = colour_of (pixel_at Rgb8 pixels x)

-- the numbers of a pixel of four inks
abbrev pub four_at : List ℕ → ℕ → List ℕ
four_at pixels x = pixel_at Cmyk8 pixels x

-- what is given to an ink
abbrev pub given_to : Given → Ink → List ℕ
given_to given Black = given.black
given_to given Cyan = given.cyan
given_to given Magenta = given.magenta
given_to given Yellow = given.yellow

-- This is what n pixels of a line from pixel `first` on give to the inks.
pub record IsGiven (p : Printer) (kind : Kind) (line : List ℕ) (first n : ℕ) (given : Given) : Type 0 where
  pub inks : (ink : Ink) (x : ℕ) → x < n
      → slice_index (given_to given ink) x ≡ pixel_ink p kind (pixel_at kind line (first + x)) ink
