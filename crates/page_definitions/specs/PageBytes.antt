-- The bytes of the job that prints a page: the interleaved passes of the head over its window.
use Rattle.std.specs.Prelude.{ℕ, ◌*◌, Bool, false, List, map, replicate, Option, Some, None}
use Rattle.printer_definitions.specs.declared.inks.Ink.{Ink}
use Rattle.printer_definitions.specs.Printer.{Printer, row_units, head_rows}
use Rattle.escp2_definitions.specs.Written.{Coding, shortest}
use Rattle.page_definitions.specs.Dots.{Halftone, Screening, halftone}
use Rattle.page_definitions.specs.Strokes.{Stroke, Strokes, strokes_bytes}
use Rattle.pwg_definitions.specs.Stream.{Page}
use Rattle.base_definitions.specs.Counting.{count_from}
use Rattle.weave_definitions.specs.Weave.{nozzle_row, pass_count}

-- the dots of an ink in a row
abbrev pub dot_row : Halftone → Ink → ℕ → List Bool
dot_row h ink y = map (h.dot ink y) (count_from 0 h.width)

-- what a nozzle fires: its row of the window; nothing where its row is off the window
abbrev pub fired_row : Halftone → Ink → Option ℕ → List Bool
fired_row h ink (Some y) = dot_row h ink y
fired_row h ink None = replicate h.width false

-- the rows that an ink's nozzles fire in pass t, one for each nozzle
abbrev pub pass_rows : Printer → Halftone → ℕ → Ink → List (List Bool)
pass_rows p h t ink = map (λ i. fired_row h ink (nozzle_row p.nozzles p.pitch h.height t i)) (count_from 0 p.nozzles)

-- pass t; between passes the head moves down by as many rows as it has nozzles
abbrev pub pass_stroke : Printer → Halftone → ℕ → Stroke
pass_stroke p h t = record { start = t * p.nozzles; rows = pass_rows p h t }

-- The passes over a window. In the first one the last nozzle is on the window's first row.
abbrev pub weave : Printer → Halftone → Strokes
weave p h = record { above = head_rows p; list = map (pass_stroke p h) (count_from 0 (pass_count p.nozzles p.pitch h.height)) }

-- how the rows of rasters are coded
abbrev pub page_coding : Coding
page_coding = shortest

-- The bytes that print a halftone on a sheet of this length in units.
unfoldable pub halftone_bytes : Printer → Halftone → ℕ → List ℕ
halftone_bytes p h len = strokes_bytes page_coding p h.width h.height len (weave p h)

-- The bytes that print a page.
unfoldable pub page_bytes : Page → Printer → Screening → List ℕ
page_bytes page p s = halftone_bytes p (halftone page p s) (page.form.height * row_units p)
