-- Pages that are printed by strokes.
use Rattle.std.specs.Prelude.{ℕ, ◌*◌, List}
use Rattle.printer_definitions.specs.Printer.{Printer, row_units}
use Rattle.page_definitions.specs.Dots.{Screening}
use Rattle.escp2_definitions.specs.Written.{Coding}
use Rattle.separation_definitions.specs.Windows.{wanted_by}
use Rattle.pwg_definitions.specs.Stream.{IsPage, Page}
use Rattle.page_definitions.specs.Dots.{Halftone, halftone}
use Rattle.page_definitions.specs.Strokes.{Fires, Strokes, strokes_bytes}

-- The strokes that are chosen for each halftone print it, on every page that the printer takes.
abbrev pub FirePages : Printer → Screening → (Halftone → Strokes) → Type 0
FirePages p s strokes = (page : Page) → IsPage (wanted_by p) page → Fires p (halftone page p s) (strokes (halftone page p s))

-- The bytes that print a page by these strokes.
abbrev pub stroked_bytes : Coding → (Halftone → Strokes) → Page → Printer → Screening → List ℕ
stroked_bytes coding strokes page p s =
    let h : Halftone = halftone page p s in strokes_bytes coding p h.width h.height (page.form.height * row_units p) (strokes h)
