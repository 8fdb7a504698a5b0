-- Sheets as images, one for each ink, in the order of black, cyan, magenta and yellow.
use Rattle.std.specs.Prelude.{ℕ, Bool, List, ◌++◌, map}
use Rattle.std.specs.List.{flat_map, list_any}
use Rattle.dot_emulator.specs.Sheets.{dot_at}
use Rattle.dot_planes.specs.Tables.{DotTable}
use Rattle.escp2_definitions.specs.Machine.{Sheet, is_at}
use Rattle.base_definitions.specs.Packed.{packed}
use Rattle.job_player.specs.Images.{image, image_header}
use Rattle.printer_definitions.specs.declared.inks.Ink.{Ink}
use Rattle.printer_definitions.specs.declared.inks.InkSet.TheVariants.{Cmyk}
use Rattle.printer_definitions.specs.Inks.{inks_of}
use Rattle.printer_definitions.specs.Printer.{Printer, column_step, row_step}
use Rattle.base_definitions.specs.Counting.{count_from}

-- whether an ink has a dot in a row at a column of a sheet
abbrev pub has_dot : Printer → Sheet → Ink → ℕ → ℕ → Bool
has_dot p s ink y x = list_any (is_at (dot_at (column_step p) (row_step p) ink y x)) s.dots

-- a row of an image: a pixel is black where the ink has a dot
abbrev pub sheet_row : Printer → Sheet → Ink → ℕ → List ℕ
sheet_row p s ink y = packed (map (has_dot p s ink y) (count_from 0 s.columns))

-- the image of an ink
abbrev pub sheet_image : Printer → Sheet → Ink → List ℕ
sheet_image p s ink = image_header s.columns s.rows ++ flat_map (sheet_row p s ink) (count_from 0 s.rows)

-- the four images of a sheet
abbrev pub sheet_images : Printer → Sheet → List ℕ
sheet_images p s = flat_map (sheet_image p s) (inks_of Cmyk)

-- the images of sheets, one after another
abbrev pub images : Printer → List Sheet → List ℕ
images p sheets = flat_map (sheet_images p) sheets

-- the images of planes of dots
abbrev pub table_images : ℕ → ℕ → DotTable → List ℕ
table_images columns rows t = flat_map (image columns rows t) (count_from 0 4)
