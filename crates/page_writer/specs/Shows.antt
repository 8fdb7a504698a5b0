-- What planes show.
use Rattle.dot_planes.specs.Tables.{DotTable, dot}
use Rattle.page_definitions.specs.Dots.{Halftone, HasDots}
use Rattle.printer_definitions.specs.Printer.{Printer}

-- the planes have the dots of a halftone
abbrev pub Shows : Printer → DotTable → Halftone → Type 0
Shows p t h = HasDots p h t.width t.rows t.inks (dot t)
