-- The dots that a page asks for.
use Rattle.std.specs.Prelude.{◌≡◌, ◌<◌, length, slice_get, Some, ℕ, ◌+◌, ◌*◌, ◌/◌, Bool, if◌then◌else◌, List, [], ◌∷◌}
use Rattle.std.specs.List.{flat_map}
use Rattle.printer_definitions.specs.declared.inks.Ink.{Ink}
use Rattle.printer_definitions.specs.Inks.{inks_of}
use Rattle.printer_definitions.specs.Printer.{Printer}
use Rattle.diffusion_definitions.specs.Diffusion.{Plane, Table, errors, no_top, on}
use Rattle.escp2_definitions.specs.Machine.{Dot}
use Rattle.separation_definitions.specs.declared.window.Window.{Window}
use Rattle.separation_definitions.specs.Grain.{grained_plane}
use Rattle.separation_definitions.specs.Windows.{window_of}
use Rattle.pwg_definitions.specs.Stream.{Page}
use Rattle.base_definitions.specs.Counting.{count_from}

-- How amounts become dots: this grain is put on them, and they are diffused by this table.
pub record Screening : Type 0 where
  pub table : Table
  pub grain : ℕ

-- The dots of a window: whether an ink has a dot in row y at column x.
pub record Halftone : Type 0 where
  pub width : ℕ
  pub height : ℕ
  pub dot : Ink → ℕ → ℕ → Bool

-- The dots that row-by-row diffusion of each ink's amounts, with their grain, sets in the window of a page.
abbrev pub halftone : Page → Printer → Screening → Halftone
halftone page p s =
    let window : Window = window_of page.form p in
    record {
      width = window.width;
      height = window.height;
      dot = λ ink y x.
          let plane : Plane = grained_plane page p s.grain ink in on s.table plane (errors s.table plane no_top) y x;
    }

-- where on paper the dot of an ink in row y at column x of the window is
abbrev pub place_of : Printer → Ink → ℕ → ℕ → Dot
place_of p ink y x = record { ink = ink; x = x * 3600 / p.hdpi; y = (p.top + y) * 3600 / p.vdpi }

abbrev pub pixel_dots : Printer → Halftone → Ink → ℕ → ℕ → List Dot
pixel_dots p h ink y x = if h.dot ink y x then place_of p ink y x ∷ [] else []

abbrev pub row_wanted : Printer → Halftone → Ink → ℕ → List Dot
row_wanted p h ink y = flat_map (pixel_dots p h ink y) (count_from 0 h.width)

abbrev pub ink_wanted : Printer → Halftone → Ink → List Dot
ink_wanted p h ink = flat_map (row_wanted p h ink) (count_from 0 h.height)

-- The dots of a halftone on paper, each once: ink by ink, row by row, from the left.
abbrev pub dots_wanted : Printer → Halftone → List Dot
dots_wanted p h = flat_map (ink_wanted p h) (inks_of p.inks)

-- The dots that a page asks for.
abbrev pub wanted : Page → Printer → Screening → List Dot
wanted page p s = dots_wanted p (halftone page p s)

-- A table of dots, by the ink's place in the printer's set, row and column, has the dots of a halftone.
pub record HasDots (p : Printer) (h : Halftone) (width rows inks : ℕ) (dot : ℕ → ℕ → ℕ → Bool) : Type 0 where
  pub width_is : width ≡ h.width
  pub rows_is : rows ≡ h.height
  pub inks_is : inks ≡ length (inks_of p.inks)
  pub dots : (i y x : ℕ) (ink : Ink) → slice_get (inks_of p.inks) i ≡ Some ink → y < h.height → x < h.width → dot i y x ≡ h.dot ink y x
