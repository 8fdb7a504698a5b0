-- Shingled passes over a window: each row is fired twice, at its even columns and at its odd ones.
use Rattle.std.specs.Prelude.{ℕ, ◌*◌, Bool, true, false, List, [], ◌∷◌, map}
use Rattle.printer_definitions.specs.declared.inks.Ink.{Ink}
use Rattle.printer_definitions.specs.Printer.{Printer}
use Rattle.base_definitions.specs.Counting.{count_from}
use Rattle.page_definitions.specs.Dots.{Halftone}
use Rattle.page_definitions.specs.PageBytes.{fired_row, page_coding}
use Rattle.page_definitions.specs.Strokes.{Stroke, Strokes, strokes_bytes}
use Rattle.shingle_plan.specs.Shingles.{fires_even, half, rows_above, shingle_count, shingle_row}

-- Every other dot of a row: its first one and those at even columns, counted from 0, where `first` holds, and else
-- those at odd columns.
abbrev pub every_other : Bool → List Bool → List Bool
every_other first [] = []
every_other true (dot ∷ row) = dot ∷ every_other false row
every_other false (dot ∷ row) = false ∷ every_other true row

-- what a nozzle fires: every other dot of its row of the window; nothing where its row is off the window
abbrev pub shingled_row : Printer → Halftone → ℕ → Ink → ℕ → List Bool
shingled_row p h t ink i = every_other (fires_even p.nozzles i) (fired_row h ink (shingle_row p.nozzles p.pitch h.height t i))

-- pass t; between passes the head moves down by as many rows as half its nozzles
abbrev pub shingled_stroke : Printer → Halftone → ℕ → Stroke
shingled_stroke p h t = record {
  start = t * half p.nozzles;
  rows = λ ink. map (shingled_row p h t ink) (count_from 0 p.nozzles);
}

-- The shingled passes over a window.
abbrev pub shingled : Printer → Halftone → Strokes
shingled p h = record {
  above = rows_above p.nozzles p.pitch;
  list = map (shingled_stroke p h) (count_from 0 (shingle_count p.nozzles p.pitch h.height));
}

-- The bytes that print a halftone by shingled passes on a sheet of this length in units.
unfoldable pub shingled_bytes : Printer → Halftone → ℕ → List ℕ
shingled_bytes p h len = strokes_bytes page_coding p h.width h.height len (shingled p h)
