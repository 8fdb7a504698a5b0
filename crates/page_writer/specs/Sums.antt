-- The size of a page's job.
use Rattle.std.specs.Prelude.{◌≡◌, ℕ, ◌+◌, ◌*◌, ◌/◌, List, [], ◌∷◌, length}
use Rattle.base_definitions.specs.Limits.{most_row_bytes}
use Rattle.escp2_definitions.specs.Rasters.{raster_count}
use Rattle.page_definitions.specs.Dots.{Halftone}
use Rattle.page_definitions.specs.PageBytes.{page_coding}
use Rattle.page_definitions.specs.Strokes.{Spoken, Strokes, page_commands, strokes_bytes}
use Rattle.page_definitions.specs.Ways.{halftone_bytes_by, most_rasters, way_strokes}
use Rattle.page_definitions.specs.declared.way.Way.{Way}
use Rattle.page_writer.specs.declared.sums.PageSum.{PageSum}
use Rattle.printer_definitions.specs.Inks.{inks_of}
use Rattle.printer_definitions.specs.Printer.{Printer}

-- how many of the commands are rasters
abbrev pub rasters_in : List Spoken → ℕ
rasters_in [] = 0
rasters_in (spoken ∷ job) = raster_count spoken.command + rasters_in job

-- The sum has these bytes and the rasters of these commands.
pub record SumsUp (bytes : List ℕ) (job : List Spoken) (sum : PageSum) : Type 0 where
  pub bytes_are : sum.bytes ≡ length bytes
  pub rasters_are : sum.rasters ≡ rasters_in job

-- The sum has the bytes and the rasters that print strokes over a window of this size.
abbrev pub SumsStrokes : Printer → ℕ → ℕ → ℕ → Strokes → PageSum → Type 0
SumsStrokes p width height len strokes =
    SumsUp (strokes_bytes page_coding p width height len strokes) (page_commands p width height page_coding.c len strokes)

-- The sum has the bytes and the rasters that print a halftone this way, on a sheet of this length in units.
abbrev pub SumsHalftone : Way → Printer → Halftone → ℕ → PageSum → Type 0
SumsHalftone way p h len =
    SumsUp (halftone_bytes_by way p h len) (page_commands p h.width h.height page_coding.c len (way_strokes way p h))

-- the most bytes of one pass over a window of this width
abbrev pub most_of_pass : Printer → ℕ → ℕ
most_of_pass p width = 7 + length (inks_of p.inks) * (12 + 2 * p.nozzles * ((width + 7) / 8))

-- the most bytes of an ink in one pass, with the most nozzles and the widest rows, and those of a whole pass
abbrev pub most_ink : ℕ
most_ink = 12 + 2 * 255 * most_row_bytes

abbrev pub most_pass : ℕ
most_pass = 7 + 4 * most_ink

-- the most bytes of a page over a window of this size, whose head goes this way
abbrev pub most_of_page : Way → Printer → ℕ → ℕ → ℕ
most_of_page way p width height = 49 + most_rasters way p height * most_of_pass p width
